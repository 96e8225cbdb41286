use Rattle.key_directory.proofs.Births.{births-stand}
use Rattle.key_directory.proofs.laws.law_of_births.Goals as goal

pub returns : goal.returns
returns c = births-stand
