use Rattle.user_world.specs.Meaning.{opened_by}
use Rattle.user_world.proofs.Timelines.{line-failed}
use Rattle.user_world.proofs.laws.law_of_failure.Goals as goal

pub returns : goal.returns
returns c = λ opening. line-failed (opened_by opening)
