use Rattle.std.proofs.Common.{◌≡◌, ◌++◌, length, take, drop}
use Rattle.aes_block.proofs.Steps.{summed}
use Rattle.aes_gcm.proofs.counter.add_stream.Given as goal

abbrev pub invariant-loop-k : goal.invariant-loop-k
invariant-loop-k l =
    (length l.stream ≡ 16) × (l.text ≡ take l.start l.fn.text ++ summed (drop l.start l.fn.text) l.stream l.k)
