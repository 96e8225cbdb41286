use Rattle.std.proofs.Common.{◌<◌}
use Rattle.vold_book.specs.State.{seen, senses}
use Rattle.vold_book.specs.Whole.{turns_left}
use Rattle.vold_run.specs.Fits.{history_of}
use Rattle.vold_run.specs.Lines.{IsKept}
use Rattle.vold_run.proofs.Turned.{RoundGoes}
use Rattle.vold_run.proofs.rounds.round.Given as goal

abbrev pub invariant-loop-next : goal.invariant-loop-next
invariant-loop-next g l =
    let seeing =
    senses g.T.TreeDisk.disk g.T.TreeDisk.counts g.B.Keystore.store g.B.Keystore.counts g.G.KeyRing.ring
    g.G.KeyRing.counts in
    record {
      falls : turns_left (seen seeing l.book) < turns_left (seen seeing l.fn.book);
      kept : IsKept seeing l.fn.book l.book;
      goes : RoundGoes (history_of l.fn.book) l.book l.next;
    }

abbrev pub decreases-loop-next : goal.decreases-loop-next
decreases-loop-next g l =
    turns_left (seen (senses g.T.TreeDisk.disk g.T.TreeDisk.counts g.B.Keystore.store g.B.Keystore.counts
    g.G.KeyRing.ring g.G.KeyRing.counts) l.book)
