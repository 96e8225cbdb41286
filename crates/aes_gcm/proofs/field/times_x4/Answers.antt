use Rattle.aes_gcm.proofs.Nibbles.{four_steps}
use Rattle.aes_gcm.proofs.field.times_x4.Goals as goal

pub returns : goal.returns
returns c = four_steps c.args.element c.ranges.element.fits
