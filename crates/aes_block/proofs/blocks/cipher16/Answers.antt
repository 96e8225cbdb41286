use Rattle.std.proofs.Common.{◌≡◌, ◌-◌, ◌∙◌, ap, sym, arith}
use Rattle.seal_model.specs.Bytes.{xor_bytes}
use Rattle.seal_model.specs.Aes.{cipher, mix_columns, rounds, shift_rows, sub_bytes}
use Rattle.aes_block.specs.Lanes.{lane}
use Rattle.aes_block.proofs.Schedule.{rounds-next}
use Rattle.aes_block.proofs.blocks.cipher16.Goals as goal

pub loop-round-init : goal.loop-round-init
unfolding rounds
loop-round-init c j h = c.add_key-next.ensures j h ∙ ap (xor_bytes (lane j c.args.state)) c.round_key.ensures

pub loop-round-preserved : goal.loop-round-preserved
loop-round-preserved c j h =
    let mixed = c.mix_blocks.ensures j h ∙ ap mix_columns (c.shift_blocks.ensures j h
    ∙ ap shift_rows (c.substitute_blocks.ensures j h ∙ ap sub_bytes (c.loop-round.invariant j h))) in
    c.add_key-next-in-loop-round.ensures j h ∙ (λ t. xor_bytes (mixed t) (c.round_key-in-loop-round.ensures t))
    ∙ sym (rounds-next c.args.words.now (lane j c.args.state) c.loop-round.round (omega arith))

pub returns : goal.returns
unfolding cipher
returns c j h =
    let end : c.loop-round.round - 1 ≡ 13 = omega arith in
    let before = c.loop-round.invariant j h ∙ ap (rounds c.args.words.now (lane j c.args.state)) end in
    let shifted = c.shift_blocks-2.ensures j h ∙ ap shift_rows (c.substitute_blocks-2.ensures j h
    ∙ ap sub_bytes before) in
    c.add_key.ensures j h ∙ (λ t. xor_bytes (shifted t) (c.round_key-2.ensures t))
