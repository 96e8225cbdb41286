-- The directories so far are the first entries, and each look was answered and left the disk, the keystore and the
-- ring.
use Rattle.std.proofs.Common.{◌≡◌, suc, take}
use Rattle.std.specs.FinMap as map
use Rattle.tree_model.specs.Disk.{view}
use Rattle.vold_book.specs.State.{senses}
use Rattle.vold_book.specs.Whole.{IsWhole}
use Rattle.vold_book.specs.Stands.{IsLooked}
use Rattle.vold_run.specs.Shown.{AreAnswered}
use Rattle.vold_run.proofs.output.read_dirs.Given as goal

abbrev pub invariant-loop-place : goal.invariant-loop-place
invariant-loop-place g l =
    let seeing =
    senses g.T.TreeDisk.disk g.T.TreeDisk.counts g.B.Keystore.store g.B.Keystore.counts g.G.KeyRing.ring
    g.G.KeyRing.counts in
    record {
      read : l.dirs.items ≡ take l.place-index (map.entries (view (g.T.TreeDisk.disk l.fn.book.bench.tree)));
      looked : IsLooked seeing l.fn.book l.book;
      store : l.book.bench.store ≡ l.fn.book.bench.store;
      ring : l.book.bench.ring ≡ l.fn.book.bench.ring;
      looks :
          AreAnswered (suc l.place-index) (g.T.TreeDisk.counts l.fn.book.bench.tree)
          (g.T.TreeDisk.counts l.book.bench.tree);
      whole : IsWhole seeing l.book;
    }
