use Rattle.keystore_model.proofs.Stores.{after-delete}
use Rattle.keystore_model.proofs.laws.law_of_deleted.Goals as goal

pub returns : goal.returns
returns c = after-delete
