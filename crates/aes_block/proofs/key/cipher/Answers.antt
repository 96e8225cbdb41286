use Rattle.std.proofs.Common.{◌≡◌, ◌-◌, ◌∙◌, ap, arith}
use Rattle.seal_model.specs.Bytes.{xor_bytes}
use Rattle.seal_model.specs.Aes.{cipher, rounds}
use Rattle.aes_block.proofs.Schedule.{rounds-next}
use Rattle.aes_block.proofs.key.cipher.Goals as goal

pub loop-round-init : goal.loop-round-init
unfolding rounds
loop-round-init c = c.add-state.ensures ∙ ap (xor_bytes c.args.block) c.round_key.ensures

pub loop-round-preserved : goal.loop-round-preserved
loop-round-preserved c =
    let next = rounds-next c.args.words.now c.args.block c.loop-round.round (omega arith) in cc

pub returns : goal.returns
unfolding cipher
returns c =
    let end : c.loop-round.round - 1 ≡ 13 = omega arith in
    let last = ap (rounds c.args.words.now c.args.block) end in cc
