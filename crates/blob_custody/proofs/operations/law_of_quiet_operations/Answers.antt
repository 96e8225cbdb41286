use Rattle.blob_custody.proofs.Renamings.{quiet-operation}
use Rattle.blob_custody.proofs.operations.law_of_quiet_operations.Goals as goal

pub returns : goal.returns
returns c = quiet-operation
