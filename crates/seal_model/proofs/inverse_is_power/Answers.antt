use Rattle.seal_model.proofs.BytePowers.{inverse_is_power}
use Rattle.seal_model.proofs.inverse_is_power.Goals as goal

pub returns : goal.returns
returns c = inverse_is_power
