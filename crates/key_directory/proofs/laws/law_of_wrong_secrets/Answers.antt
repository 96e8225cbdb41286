use Rattle.key_directory.proofs.Opened.{wrong-secret}
use Rattle.key_directory.proofs.laws.law_of_wrong_secrets.Goals as goal

pub returns : goal.returns
returns c = wrong-secret
