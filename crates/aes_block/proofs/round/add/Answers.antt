use Rattle.std.proofs.Common.{◌∙◌, ap, get_or, set, bit_xor, arith}
use Rattle.aes_block.proofs.Steps.{xor-step}
use Rattle.aes_block.proofs.round.add.Goals as goal

pub loop-i-preserved : goal.loop-i-preserved
loop-i-preserved c =
    let i = c.loop-i.i in let inv = c.loop-i.invariant in (
      inv.0,
      inv.1,
      ap (λ b. set b i (bit_xor (get_or b i 0) (get_or c.args.other i 0))) inv.2
          ∙ xor-step c.args.block c.args.other i (omega arith) (omega arith),
    )
