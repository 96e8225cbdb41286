use Rattle.blob_custody.proofs.Names.{names-differ}
use Rattle.blob_custody.proofs.operations.law_of_distinct_drops.Goals as goal

pub returns : goal.returns
returns c = names-differ
