use Rattle.std.proofs.Common.{w8}
use Rattle.seal_model.proofs.Pointwise.{where_bit_set}
use Rattle.aes_block.proofs.lanes.where_set.Goals as goal

pub returns : goal.returns
returns c = where_bit_set 16 w8 c.args.a c.args.bit c.args.b c.fits-a.0 c.fits-b.0
