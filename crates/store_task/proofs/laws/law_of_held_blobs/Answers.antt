use Rattle.store_task.proofs.HeldBlobs.{blobs-held}
use Rattle.store_task.proofs.laws.law_of_held_blobs.Goals as goal

pub returns : goal.returns
returns c = blobs-held
