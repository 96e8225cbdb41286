use Rattle.aes_block.proofs.Tables.{table}
use Rattle.aes_block.proofs.s_box.substitute.Goals as goal

pub returns : goal.returns
returns c = table c.args.byte c.ranges.byte.fits
