use Rattle.std.proofs.Common.{w64}
use Rattle.seal_model.proofs.Pointwise.{where_bit_set}
use Rattle.aes_gcm.proofs.lanes.where_set.Goals as goal

pub returns : goal.returns
returns c = where_bit_set 8 w64 c.args.a c.args.bit c.args.b c.fits-a.0 c.fits-b.0
