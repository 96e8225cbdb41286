use Rattle.user_world.specs.Meaning.{opened_by}
use Rattle.user_world.proofs.Timelines.{base-own}
use Rattle.user_world.proofs.laws.law_of_base.Goals as goal

pub returns : goal.returns
returns c = λ opening. base-own (opened_by opening)
