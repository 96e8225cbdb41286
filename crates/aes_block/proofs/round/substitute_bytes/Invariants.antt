use Rattle.std.proofs.Common.{◌≡◌, ◌++◌, map, take, drop, length}
use Rattle.seal_model.specs.Aes.{s_box}
use Rattle.aes_block.proofs.round.substitute_bytes.Given as goal

abbrev pub invariant-loop-byte : goal.invariant-loop-byte
invariant-loop-byte l =
    (length l.fn.block ≡ 16)
    × (l.byte-items ≡ map s_box (take l.byte-index l.fn.block) ++ drop l.byte-index l.fn.block)
