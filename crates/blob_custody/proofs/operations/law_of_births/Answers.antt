use Rattle.blob_custody.proofs.Renamings.{birth}
use Rattle.blob_custody.proofs.operations.law_of_births.Goals as goal

pub returns : goal.returns
returns c = birth
