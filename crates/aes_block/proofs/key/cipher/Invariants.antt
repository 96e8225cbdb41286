use Rattle.std.proofs.Common.{◌≡◌, ◌-◌}
use Rattle.seal_model.specs.Aes.{rounds}
use Rattle.aes_block.proofs.key.cipher.Given as goal

abbrev pub invariant-loop-round : goal.invariant-loop-round
invariant-loop-round l = l.state ≡ rounds l.words l.fn.block (l.round - 1)
