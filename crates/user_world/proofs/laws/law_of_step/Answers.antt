use Rattle.user_world.specs.Meaning.{opened_by}
use Rattle.user_world.proofs.Timelines.{line-step}
use Rattle.user_world.proofs.laws.law_of_step.Goals as goal

pub returns : goal.returns
returns c = λ opening. line-step (opened_by opening)
