use Rattle.std.proofs.Common.{◌≡◌, ℕ, ◌<◌, ◌-◌}
use Rattle.seal_model.specs.Aes.{rounds}
use Rattle.aes_block.specs.Lanes.{lane}
use Rattle.aes_block.proofs.blocks.cipher16.Given as goal

abbrev pub invariant-loop-round : goal.invariant-loop-round
invariant-loop-round l = (j : ℕ) → j < 16 → lane j l.next ≡ rounds l.words (lane j l.fn.state) (l.round - 1)
