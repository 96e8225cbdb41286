use Rattle.aes_block.proofs.Tables.{doubled}
use Rattle.aes_block.proofs.round.double.Goals as goal

pub returns : goal.returns
returns c = doubled c.args.byte c.ranges.byte.fits
