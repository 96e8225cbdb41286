use Rattle.aes_gcm.proofs.Halves.{xor_of_eight}
use Rattle.aes_gcm.proofs.lanes.Elements.sum.Goals as goal

pub returns : goal.returns
returns c =
    rw (
      c.join-7.ensures,
      c.join-8.ensures,
      c.join-5.ensures,
      c.join-6.ensures,
      c.join-3.ensures,
      c.join-4.ensures,
      c.join.ensures,
      c.join-2.ensures,
    ) (xor_of_eight _ _ _ _ _ _ _ _)
