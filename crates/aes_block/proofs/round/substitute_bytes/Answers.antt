use Rattle.std.proofs.Common.{◌∙◌, ap, get_or, set, arith}
use Rattle.seal_model.specs.Aes.{s_box}
use Rattle.aes_block.proofs.Steps.{map-step}
use Rattle.aes_block.proofs.round.substitute_bytes.Goals as goal

pub loop-byte-preserved : goal.loop-byte-preserved
loop-byte-preserved c =
    let i = c.loop-byte.byte-index in let inv = c.loop-byte.invariant in (
      inv.0,
      ap (set c.loop-byte.byte-items i) c.substitute.ensures
          ∙ ap (λ b. set b i (s_box (get_or b i 0))) inv.1 ∙ map-step s_box c.args.block i (omega arith),
    )
