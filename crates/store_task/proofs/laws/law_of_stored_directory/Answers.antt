use Rattle.store_task.proofs.StoredFiles.{stored-directory}
use Rattle.store_task.proofs.laws.law_of_stored_directory.Goals as goal

pub returns : goal.returns
returns c = stored-directory
