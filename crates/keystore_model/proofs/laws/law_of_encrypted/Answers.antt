use Rattle.keystore_model.proofs.Opened.{encrypted-opens}
use Rattle.keystore_model.proofs.laws.law_of_encrypted.Goals as goal

pub returns : goal.returns
returns c = encrypted-opens
