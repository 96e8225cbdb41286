use Rattle.std.proofs.Common.{[], ◌∷◌}
use Rattle.seal_model.specs.Aes.{mix_columns}
use Rattle.aes_block.proofs.blocks.mix_blocks.Goals as goal

pub returns : goal.returns
unfolding mix_columns
returns c j h =
    λ t.
    c.mixed.ensures.lanes j h t ∷ c.mixed-2.ensures.lanes j h t ∷ c.mixed-3.ensures.lanes j h t
    ∷ c.mixed-4.ensures.lanes j h t ∷ c.mixed-5.ensures.lanes j h t ∷ c.mixed-6.ensures.lanes j h t
    ∷ c.mixed-7.ensures.lanes j h t ∷ c.mixed-8.ensures.lanes j h t ∷ c.mixed-9.ensures.lanes j h t
    ∷ c.mixed-10.ensures.lanes j h t ∷ c.mixed-11.ensures.lanes j h t ∷ c.mixed-12.ensures.lanes j h t
    ∷ c.mixed-13.ensures.lanes j h t ∷ c.mixed-14.ensures.lanes j h t ∷ c.mixed-15.ensures.lanes j h t
    ∷ c.mixed-16.ensures.lanes j h t ∷ []
