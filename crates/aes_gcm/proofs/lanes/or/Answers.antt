use Rattle.std.proofs.Common.{bit_or}
use Rattle.seal_model.proofs.Pointwise.{lanes_of}
use Rattle.aes_gcm.proofs.lanes.or.Goals as goal

pub returns : goal.returns
returns c = lanes_of 8 bit_or c.args.a c.args.b c.fits-a.0 c.fits-b.0
