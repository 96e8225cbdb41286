use Rattle.std.proofs.Common.{◌≡◌, length}
use Rattle.aes_block.proofs.Steps.{summed}
use Rattle.aes_block.proofs.round.add.Given as goal

abbrev pub invariant-loop-i : goal.invariant-loop-i
invariant-loop-i l = (length l.fn.block ≡ 16) × (length l.other ≡ 16) × (l.block ≡ summed l.fn.block l.other l.i)
