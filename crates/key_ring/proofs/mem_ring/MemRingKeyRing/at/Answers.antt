use Rattle.std.proofs.Common.{ap, ◌∙◌}
use Rattle.std.specs.Prelude.{slice_get}
use Rattle.key_ring.specs.Ring.{owners}
use Rattle.key_ring.proofs.Rings.{once-told}
use Rattle.key_ring.proofs.mem_ring.MemRingKeyRing.at.Goals as goal

pub returns : goal.returns
returns c = record {
  owner = c.at.ensures
      ∙ ap (λ ring. slice_get (owners ring) c.args.place) (once-told c.self.invariant c.self.view_is);
}
