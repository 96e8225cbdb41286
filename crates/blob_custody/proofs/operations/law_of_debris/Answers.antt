use Rattle.blob_custody.proofs.Renamings.{debris-operation}
use Rattle.blob_custody.proofs.operations.law_of_debris.Goals as goal

pub returns : goal.returns
returns c = debris-operation
