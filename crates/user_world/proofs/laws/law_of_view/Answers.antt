use Rattle.user_world.specs.Meaning.{opened_by}
use Rattle.user_world.proofs.Images.{view-stands}
use Rattle.user_world.proofs.laws.law_of_view.Goals as goal

pub returns : goal.returns
returns c = λ opening. view-stands (opened_by opening)
