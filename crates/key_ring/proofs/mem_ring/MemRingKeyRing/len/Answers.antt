use Rattle.std.proofs.Common.{length, ap, ◌∙◌}
use Rattle.key_ring.proofs.Rings.{once-told}
use Rattle.key_ring.proofs.mem_ring.MemRingKeyRing.len.Goals as goal

pub returns : goal.returns
returns c = record { count = c.len.ensures ∙ ap length (once-told c.self.invariant c.self.view_is) }
