use Rattle.std.proofs.Common.{◌≡◌, length, take}
use Rattle.seal_model.specs.Aes.{key_schedule}
use Rattle.aes_block.proofs.key.Aes256.new.Given as goal

abbrev pub invariant-loop-i : goal.invariant-loop-i
invariant-loop-i l = (length l.words ≡ 60) × (length l.key ≡ 32) × (take l.i l.words ≡ key_schedule l.key l.i)
