use Rattle.std.proofs.Common.{ap, ◌∙◌, ◌++◌, replicate}
use Rattle.keystore_memory.specs.Format.{blob_of_number}
use Rattle.keystore_memory.proofs.numbers.blob_of_number.Goals as goal

pub returns : goal.returns
unfolding blob_of_number
returns c =
    c.new.ensures ∙ ap (λ high. high ++ replicate 24 0) (c.copy_from_slice.ensures.after ∙ c.to_be_bytes.ensures)
