use Rattle.key_directory.proofs.Tried.{tried}
use Rattle.key_directory.proofs.laws.law_of_tried.Goals as goal

pub returns : goal.returns
returns c = tried
