use Rattle.seal_model.proofs.ByteField.{byte_field}
use Rattle.seal_model.proofs.bytes_are_a_field.Goals as goal

pub returns : goal.returns
returns c = byte_field
