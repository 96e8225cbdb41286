use Rattle.seal_model.proofs.Remainders.{remainder_is_remainder}
use Rattle.seal_model.proofs.remainder_is_remainder.Goals as goal

pub returns : goal.returns
returns c = remainder_is_remainder
