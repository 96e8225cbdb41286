use Rattle.key_directory.proofs.Adding.{adding-stands}
use Rattle.key_directory.proofs.laws.law_of_adding.Goals as goal

pub returns : goal.returns
returns c = adding-stands
