use Rattle.key_directory.proofs.Storing.{stored-opens}
use Rattle.key_directory.proofs.laws.law_of_storing.Goals as goal

pub returns : goal.returns
returns c = stored-opens
