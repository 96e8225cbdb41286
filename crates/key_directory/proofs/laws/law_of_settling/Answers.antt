use Rattle.key_directory.proofs.Dropping.{settling-stands}
use Rattle.key_directory.proofs.laws.law_of_settling.Goals as goal

pub returns : goal.returns
returns c = settling-stands
