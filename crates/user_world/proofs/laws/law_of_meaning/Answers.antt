use Rattle.user_world.specs.Meaning.{opened_by}
use Rattle.user_world.proofs.Images.{images-meaning}
use Rattle.user_world.proofs.laws.law_of_meaning.Goals as goal

pub returns : goal.returns
returns c = λ before after. images-meaning (opened_by before) (opened_by after)
