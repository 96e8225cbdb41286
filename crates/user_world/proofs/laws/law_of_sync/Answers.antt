use Rattle.user_world.specs.Meaning.{opened_by}
use Rattle.user_world.proofs.Images.{images-sync}
use Rattle.user_world.proofs.laws.law_of_sync.Goals as goal

pub returns : goal.returns
returns c = λ opening. images-sync (opened_by opening)
