use Rattle.user_world.specs.Meaning.{opened_by}
use Rattle.user_world.proofs.Timelines.{line-still}
use Rattle.user_world.proofs.laws.law_of_rollback.Goals as goal

pub returns : goal.returns
returns c = λ opening. line-still (opened_by opening)
