use Rattle.blob_custody.proofs.Steps.{clean-operation}
use Rattle.blob_custody.proofs.laws.law_of_operations.Goals as goal

pub returns : goal.returns
returns c = clean-operation
