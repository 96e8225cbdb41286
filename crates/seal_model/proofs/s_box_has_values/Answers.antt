use Rattle.seal_model.proofs.ByteField.{s_box_values}
use Rattle.seal_model.proofs.s_box_has_values.Goals as goal

pub returns : goal.returns
returns c = s_box_values
