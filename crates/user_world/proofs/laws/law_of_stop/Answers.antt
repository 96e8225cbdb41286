use Rattle.user_world.specs.Meaning.{opened_by}
use Rattle.user_world.proofs.Images.{images-stop}
use Rattle.user_world.proofs.laws.law_of_stop.Goals as goal

pub returns : goal.returns
returns c = λ opening. images-stop (opened_by opening)
