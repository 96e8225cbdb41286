use Rattle.user_world.specs.Meaning.{opened_by}
use Rattle.user_world.proofs.Images.{by-users}
use Rattle.user_world.proofs.laws.law_by_users.Goals as goal

pub returns : goal.returns
returns c = λ opening. by-users (opened_by opening)
