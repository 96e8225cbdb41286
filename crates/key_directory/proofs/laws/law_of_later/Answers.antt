use Rattle.key_directory.proofs.Lasting.{images-later}
use Rattle.key_directory.proofs.laws.law_of_later.Goals as goal

pub returns : goal.returns
returns c = images-later
