use Rattle.key_directory.proofs.Dropping.{dropping-stands}
use Rattle.key_directory.proofs.laws.law_of_dropping.Goals as goal

pub returns : goal.returns
returns c = dropping-stands
