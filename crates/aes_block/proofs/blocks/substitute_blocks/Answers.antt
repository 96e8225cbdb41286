use Rattle.std.proofs.Common.{[], ◌∷◌}
use Rattle.aes_block.proofs.blocks.substitute_blocks.Goals as goal

pub returns : goal.returns
returns c j h =
    λ t.
    c.substitute.ensures.lanes j h t ∷ c.substitute-2.ensures.lanes j h t ∷ c.substitute-3.ensures.lanes j h t
    ∷ c.substitute-4.ensures.lanes j h t ∷ c.substitute-5.ensures.lanes j h t ∷ c.substitute-6.ensures.lanes j h t
    ∷ c.substitute-7.ensures.lanes j h t ∷ c.substitute-8.ensures.lanes j h t ∷ c.substitute-9.ensures.lanes j h t
    ∷ c.substitute-10.ensures.lanes j h t ∷ c.substitute-11.ensures.lanes j h t
    ∷ c.substitute-12.ensures.lanes j h t ∷ c.substitute-13.ensures.lanes j h t
    ∷ c.substitute-14.ensures.lanes j h t ∷ c.substitute-15.ensures.lanes j h t
    ∷ c.substitute-16.ensures.lanes j h t ∷ []
