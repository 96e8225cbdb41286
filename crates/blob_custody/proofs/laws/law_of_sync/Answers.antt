use Rattle.blob_custody.proofs.Steps.{clean-sync}
use Rattle.blob_custody.proofs.laws.law_of_sync.Goals as goal

pub returns : goal.returns
returns c = clean-sync
