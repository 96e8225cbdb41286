use Rattle.blob_custody.proofs.Recoveries.{clean-readiness}
use Rattle.blob_custody.proofs.laws.law_of_readiness.Goals as goal

pub returns : goal.returns
returns c = clean-readiness
