use Rattle.seal_model.proofs.BlockField.{hash_goes_by_blocks}
use Rattle.seal_model.proofs.hash_goes_by_blocks.Goals as goal

pub returns : goal.returns
returns c = hash_goes_by_blocks
