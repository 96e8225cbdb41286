use Rattle.std.proofs.Common.{ap, ◌∙◌}
use Rattle.journal_model.specs.Hashes.{half_of, wrap_key_of}
use Rattle.journal_model.proofs.hashes.wrap_key.Goals as goal

pub returns : goal.returns
unfolding wrap_key_of
returns c = c.half.ensures ∙ ap half_of c.prefixed_hash.ensures
