use Rattle.key_directory.proofs.Fitting.{fitting}
use Rattle.key_directory.proofs.laws.law_of_fitting.Goals as goal

pub returns : goal.returns
returns c = fitting
