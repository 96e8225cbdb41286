use Rattle.tree_model.proofs.Parts.{own_op}
use Rattle.tree_model.proofs.laws.law_of_parts.Goals as goal

pub returns : goal.returns
returns c = own_op
