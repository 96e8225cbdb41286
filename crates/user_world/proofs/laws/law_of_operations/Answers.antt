use Rattle.user_world.specs.Meaning.{opened_by}
use Rattle.user_world.proofs.Images.{images-own}
use Rattle.user_world.proofs.laws.law_of_operations.Goals as goal

pub returns : goal.returns
returns c = λ opening. images-own (opened_by opening)
