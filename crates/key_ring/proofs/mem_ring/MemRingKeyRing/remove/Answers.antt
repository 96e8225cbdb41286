use Rattle.std.proofs.Common.{ap, ◌∙◌}
use Rattle.key_ring.specs.Ring.{removed}
use Rattle.key_ring.proofs.Rings.{once-ring, once-told}
use Rattle.key_ring.proofs.mem_ring.MemRingKeyRing.remove.Goals as goal

pub returns-clause-removed : goal.returns-clause-removed
returns-clause-removed c = once-ring c.remove.new.self.ring c.remove.ensures.whole ∙ c.remove.ensures.removed
    ∙ ap (λ ring. removed ring c.args.user c.args.class) (once-told c.self.invariant c.self.view_is)
