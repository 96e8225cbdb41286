use Rattle.std.proofs.Common.{ap, ◌∙◌}
use Rattle.key_ring.specs.Ring.{installed}
use Rattle.key_ring.proofs.Rings.{once-ring, once-told}
use Rattle.key_ring.proofs.mem_ring.MemRingKeyRing.add.Goals as goal

pub returns-clause-added : goal.returns-clause-added
returns-clause-added c = once-ring c.add.new.self.ring c.add.ensures.whole ∙ c.add.ensures.added
    ∙ ap (λ ring. installed ring c.args.user c.args.class c.args.key.now)
    (c.in_ok-reserve.ensures.ring ∙ once-told c.self.invariant c.self.view_is)
