use Rattle.std.proofs.Common.{◌≡◌, ℕ, ◌+◌, ◌<◌, [], length, get_or}
use Rattle.seal_model.specs.Gcm.{counter_block}
use Rattle.aes_gcm.proofs.counter.key_streams.Given as goal

abbrev pub invariant-loop-k : goal.invariant-loop-k
invariant-loop-k l =
    (length l.blocks ≡ 16) × ((j : ℕ) → j < l.k → get_or l.blocks j [] ≡ counter_block l.nonce (l.first + j + 2))
