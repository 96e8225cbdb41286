use Rattle.keystore_model.proofs.Opened.{answers}
use Rattle.keystore_model.proofs.laws.law_of_decrypted.Goals as goal

pub returns : goal.returns
returns c = answers
