use Rattle.blob_custody.proofs.Renamings.{destruction}
use Rattle.blob_custody.proofs.operations.law_of_destructions.Goals as goal

pub returns : goal.returns
returns c = destruction
