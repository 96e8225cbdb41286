use Rattle.vold_run.proofs.Counted.{none-planned}
use Rattle.vold_run.proofs.laws.law_of_plans.Goals as goal

pub returns : goal.returns
returns c = none-planned
