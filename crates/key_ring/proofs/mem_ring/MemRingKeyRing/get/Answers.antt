use Rattle.std.proofs.Common.{ap, ◌∙◌}
use Rattle.key_ring.specs.Ring.{key_of}
use Rattle.key_ring.proofs.Rings.{once-told}
use Rattle.key_ring.proofs.mem_ring.MemRingKeyRing.get.Goals as goal

pub returns : goal.returns
returns c = record {
  key = c.get.ensures
      ∙ ap (λ ring. key_of ring c.args.user c.args.class) (once-told c.self.invariant c.self.view_is);
}
