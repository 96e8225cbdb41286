use Rattle.std.proofs.Common.{◌∙◌, ◌++◌}
use Rattle.journal_model.specs.Hashes.{app_id_of}
use Rattle.journal_model.proofs.hashes.app_id.Goals as goal

pub returns-clause-value : goal.returns-clause-value
unfolding app_id_of
returns-clause-value c =
    c.from_vec.ensures ∙ c.in_ok-extend_from_slice.ensures.items
    ∙ (λ j. (c.in_ok-bytes.ensures.items ∙ c.prefixed_hash.ensures) j ++ c.as_slice.ensures.same j)
