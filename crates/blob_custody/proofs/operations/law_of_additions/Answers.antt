use Rattle.blob_custody.proofs.Renamings.{addition}
use Rattle.blob_custody.proofs.operations.law_of_additions.Goals as goal

pub returns : goal.returns
returns c = addition
