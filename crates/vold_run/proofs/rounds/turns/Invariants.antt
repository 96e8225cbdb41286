use Rattle.std.proofs.Common.{◌≤◌}
use Rattle.vold_book.specs.State.{senses}
use Rattle.vold_run.specs.Fits.{TurnsOf, history_of}
use Rattle.vold_run.specs.Lines.{IsKept}
use Rattle.vold_run.proofs.rounds.turns.Given as goal

abbrev pub invariant-loop : goal.invariant-loop
invariant-loop g l = record {
  within : l.counter ≤ l.fn.count;
  turns : TurnsOf l.fn.actor l.counter (history_of l.fn.book) (history_of l.book);
  kept : IsKept (senses g.T.TreeDisk.disk g.T.TreeDisk.counts g.B.Keystore.store g.B.Keystore.counts
      g.G.KeyRing.ring g.G.KeyRing.counts) l.fn.book l.book;
}
