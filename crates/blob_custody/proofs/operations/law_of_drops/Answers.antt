use Rattle.blob_custody.proofs.Renamings.{drop}
use Rattle.blob_custody.proofs.operations.law_of_drops.Goals as goal

pub returns : goal.returns
returns c = drop
