use Rattle.std.proofs.Common.{◌≤◌, ◌+◌, length, take}
use Rattle.std.specs.Prelude.{None}
use Rattle.vold_book.specs.State.{senses}
use Rattle.vold_run.specs.Lines.{AreLinesDone}
use Rattle.vold_run.proofs.lines.do_lines.Given as goal

abbrev pub invariant-loop-line : goal.invariant-loop-line
invariant-loop-line g l = record {
  done : AreLinesDone (senses g.T.TreeDisk.disk g.T.TreeDisk.counts g.B.Keystore.store g.B.Keystore.counts
      g.G.KeyRing.ring g.G.KeyRing.counts) None (take l.line-index l.lines) l.fn.book l.book;
  few : length l.book.docket.commands ≤ length l.fn.book.docket.commands + l.line-index;
}
