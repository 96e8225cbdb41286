use Rattle.std.proofs.Common.{◌∙◌, ap, bit_xor}
use Rattle.aes_block.proofs.Tables.{tripled}
use Rattle.aes_block.proofs.round.triple.Goals as goal

pub returns : goal.returns
returns c = ap (λ x. bit_xor x c.args.byte) c.double.ensures ∙ tripled c.args.byte c.ranges.byte.fits
