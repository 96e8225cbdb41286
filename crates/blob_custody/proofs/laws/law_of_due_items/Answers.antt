use Rattle.blob_custody.proofs.Steps.{due-entries}
use Rattle.blob_custody.proofs.laws.law_of_due_items.Goals as goal

pub returns : goal.returns
returns c = due-entries
