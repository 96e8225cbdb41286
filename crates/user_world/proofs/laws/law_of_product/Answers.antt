use Rattle.user_world.specs.Meaning.{opened_by}
use Rattle.user_world.proofs.Product.{product}
use Rattle.user_world.proofs.laws.law_of_product.Goals as goal

pub returns : goal.returns
returns c = λ opening. product (opened_by opening)
