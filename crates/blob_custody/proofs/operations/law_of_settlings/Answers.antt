use Rattle.blob_custody.proofs.Renamings.{settling}
use Rattle.blob_custody.proofs.operations.law_of_settlings.Goals as goal

pub returns : goal.returns
returns c = settling
