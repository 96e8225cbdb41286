use Rattle.std.proofs.Common.{bit_xor}
use Rattle.seal_model.proofs.Pointwise.{lanes_of}
use Rattle.aes_gcm.proofs.lanes.xor.Goals as goal

pub returns : goal.returns
returns c = lanes_of 8 bit_xor c.args.a c.args.b c.fits-a.0 c.fits-b.0
