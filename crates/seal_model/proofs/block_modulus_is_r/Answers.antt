use Rattle.seal_model.proofs.Examples.{block_modulus_is_r}
use Rattle.seal_model.proofs.block_modulus_is_r.Goals as goal

pub returns : goal.returns
returns c = block_modulus_is_r
