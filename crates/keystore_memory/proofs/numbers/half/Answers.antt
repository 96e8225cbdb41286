use Rattle.journal_model.specs.Hashes.{half_of}
use Rattle.keystore_memory.proofs.numbers.half.Goals as goal

pub returns : goal.returns
unfolding half_of
returns c = c.copy_from_slice.ensures.after
