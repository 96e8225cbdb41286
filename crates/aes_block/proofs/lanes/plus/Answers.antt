use Rattle.std.proofs.Common.{bit_xor}
use Rattle.seal_model.proofs.Pointwise.{lanes_with}
use Rattle.aes_block.proofs.lanes.plus.Goals as goal

pub returns : goal.returns
returns c = lanes_with 16 bit_xor c.args.a c.args.byte c.fits-a.0
