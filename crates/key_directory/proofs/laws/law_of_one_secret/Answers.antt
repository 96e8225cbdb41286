use Rattle.key_directory.proofs.Tried.{one-secret}
use Rattle.key_directory.proofs.laws.law_of_one_secret.Goals as goal

pub returns : goal.returns
returns c = one-secret
