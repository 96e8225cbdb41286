use Rattle.seal_model.proofs.BlockField.{block_ring}
use Rattle.seal_model.proofs.blocks_are_a_ring.Goals as goal

pub returns : goal.returns
returns c = block_ring
