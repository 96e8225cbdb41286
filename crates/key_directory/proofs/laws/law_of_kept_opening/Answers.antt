use Rattle.key_directory.proofs.Opened.{kept-opening}
use Rattle.key_directory.proofs.laws.law_of_kept_opening.Goals as goal

pub returns : goal.returns
returns c = kept-opening
