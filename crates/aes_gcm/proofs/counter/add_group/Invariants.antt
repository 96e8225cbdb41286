use Rattle.std.proofs.Common.{◌≡◌, ℕ, ◌+◌, List, length}
use Rattle.aes_gcm.specs.Stream.{partly_encrypted}
use Rattle.aes_gcm.proofs.counter.add_group.Given as goal

abbrev pub invariant-loop-k : goal.invariant-loop-k
invariant-loop-k l =
    (length l.text ≡ length l.fn.text)
    × ((original : List ℕ) → l.fn.text ≡ partly_encrypted l.cipher l.nonce original l.first
    → l.text ≡ partly_encrypted l.cipher l.nonce original (l.first + l.k))
