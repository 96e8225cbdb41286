use Rattle.std.proofs.Common.{ap, ◌∙◌}
use Rattle.std.specs.Prelude.{codes}
use Rattle.journal_model.specs.Hashes.{prefixed_hash, half_of}
use Rattle.keystore_memory.specs.Format.{key_of_number}
use Rattle.keystore_memory.proofs.numbers.key_of_number.Goals as goal

pub returns : goal.returns
unfolding key_of_number
returns c =
    c.half.ensures
    ∙ ap half_of (c.prefixed_hash.ensures ∙ ap (prefixed_hash (codes "vold keystore key")) c.to_be_bytes.ensures)
