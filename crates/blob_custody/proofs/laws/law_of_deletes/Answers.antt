use Rattle.blob_custody.proofs.Steps.{clean-delete}
use Rattle.blob_custody.proofs.laws.law_of_deletes.Goals as goal

pub returns : goal.returns
returns c = clean-delete
