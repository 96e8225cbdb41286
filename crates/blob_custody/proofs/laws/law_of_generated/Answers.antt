use Rattle.blob_custody.proofs.Steps.{clean-generated}
use Rattle.blob_custody.proofs.laws.law_of_generated.Goals as goal

pub returns : goal.returns
returns c = clean-generated
