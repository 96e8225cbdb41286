use Rattle.std.proofs.Common.{ℕ}
use Rattle.vold_book.specs.State.{seen, senses}
use Rattle.vold_book.specs.Whole.{turns_left}
use Rattle.vold_run.specs.Fits.{RoundsFit, history_of}
use Rattle.vold_run.specs.Lines.{IsKept}
use Rattle.vold_run.proofs.rounds.finish.Given as goal

abbrev pub invariant-loop-first : goal.invariant-loop-first
invariant-loop-first g l = record {
  rounds : (count : ℕ) × RoundsFit count (history_of l.fn.book) (history_of l.book);
  kept : IsKept (senses g.T.TreeDisk.disk g.T.TreeDisk.counts g.B.Keystore.store g.B.Keystore.counts
      g.G.KeyRing.ring g.G.KeyRing.counts) l.fn.book l.book;
}

abbrev pub decreases-loop-first : goal.decreases-loop-first
decreases-loop-first g l =
    turns_left (seen (senses g.T.TreeDisk.disk g.T.TreeDisk.counts g.B.Keystore.store g.B.Keystore.counts
    g.G.KeyRing.ring g.G.KeyRing.counts) l.book)
