use Rattle.std.proofs.Common.{◌≡◌, ◌*◌}
use Rattle.aes_gcm.specs.Stream.{partly_encrypted}
use Rattle.aes_gcm.proofs.counter.add_groups.Given as goal

abbrev pub invariant-loop-group : goal.invariant-loop-group
invariant-loop-group l = l.text ≡ partly_encrypted l.cipher l.nonce l.fn.text (16 * l.group)
