use Rattle.user_world.specs.Meaning.{opened_by}
use Rattle.user_world.proofs.Timelines.{line-stopped}
use Rattle.user_world.proofs.laws.law_of_stopping.Goals as goal

pub returns : goal.returns
returns c = λ opening. line-stopped (opened_by opening)
