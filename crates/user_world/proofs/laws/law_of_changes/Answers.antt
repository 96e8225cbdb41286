use Rattle.user_world.specs.Meaning.{opened_by}
use Rattle.user_world.proofs.Images.{images-change}
use Rattle.user_world.proofs.laws.law_of_changes.Goals as goal

pub returns : goal.returns
returns c = λ opening. images-change (opened_by opening)
