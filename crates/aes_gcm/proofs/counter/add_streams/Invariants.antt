use Rattle.std.proofs.Common.{◌≡◌}
use Rattle.aes_gcm.specs.Stream.{partly_encrypted}
use Rattle.aes_gcm.proofs.counter.add_streams.Given as goal

abbrev pub invariant-loop-index : goal.invariant-loop-index
invariant-loop-index l = l.text ≡ partly_encrypted l.cipher l.nonce l.fn.text l.index
