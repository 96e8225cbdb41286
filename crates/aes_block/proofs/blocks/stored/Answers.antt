use Rattle.std.proofs.Common.{[], ◌∷◌}
use Rattle.aes_block.proofs.blocks.stored.Goals as goal

pub returns : goal.returns
returns c =
    λ t.
    c.column.ensures t ∷ c.column-2.ensures t ∷ c.column-3.ensures t ∷ c.column-4.ensures t ∷ c.column-5.ensures t
    ∷ c.column-6.ensures t ∷ c.column-7.ensures t ∷ c.column-8.ensures t ∷ c.column-9.ensures t
    ∷ c.column-10.ensures t ∷ c.column-11.ensures t ∷ c.column-12.ensures t ∷ c.column-13.ensures t
    ∷ c.column-14.ensures t ∷ c.column-15.ensures t ∷ c.column-16.ensures t ∷ []
