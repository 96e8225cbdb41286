use Rattle.std.proofs.Common.{◌++◌, ◌∙◌}
use Rattle.seal_model.specs.Sealed.{sealed_text}
use Rattle.key_seal.proofs.seal_key.Goals as goal

pub returns : goal.returns
unfolding sealed_text
returns c =
    c.from_vec.ensures ∙ c.in_ok-extend_from_slice.ensures.items
    ∙ (λ i. c.in_ok-bytes.ensures.items i ++ (c.as_slice.ensures ∙ c.in_ok-sealed.ensures) i)
