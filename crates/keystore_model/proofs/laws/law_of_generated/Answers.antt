use Rattle.keystore_model.proofs.Stores.{after-generate}
use Rattle.keystore_model.proofs.laws.law_of_generated.Goals as goal

pub returns : goal.returns
returns c = after-generate
