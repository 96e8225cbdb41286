use Rattle.std.proofs.Common.{◌∙◌, ap, refl, sym, arith}
use Rattle.std.proofs.lemmas.List.{length-set}
use Rattle.aes_block.proofs.Schedule.{schedule-step, whole_schedule, key_of-whole}
use Rattle.aes_block.proofs.key.Aes256.new.Goals as goal
use Rattle.aes_block.proofs.key.Aes256.new.Goals.{then-i-lt8, else-i-lt8}
use Rattle.seal_model.specs.Aes.{key_schedule}

pub loop-i-init : goal.loop-i-init
unfolding key_schedule
loop-i-init c = (refl, c.told-key, refl)

pub loop-i-preserved : goal.loop-i-preserved
loop-i-preserved c =
    let inv = c.loop-i.invariant in (
      simp length-set inv.0,
      inv.1,
      schedule-step c.loop-i.words c.args.key.now c.if-i-lt8.words c.loop-i.i (omega arith) inv.2
          (λ below. elim c.if-i-lt8.branch [
            | then-i-lt8 w ↦ w.words-is ∙ w.key_word.ensures
            | else-i-lt8 w ↦ absurd (omega arith)
          ])
          (λ above. elim c.if-i-lt8.branch [
            | then-i-lt8 w ↦ absurd (omega arith)
            | else-i-lt8 w ↦ w.words-is ∙ w.next_word.ensures
          ]),
    )

pub invariant_of-result : goal.invariant_of-result
invariant_of-result c =
    let inv = c.loop-i.invariant in let words = c.loop-i.words in
    let whole = whole_schedule words c.args.key.now c.loop-i.i inv.0 (omega arith) inv.2 in
    whole ∙ ap (λ k. key_schedule k 60) (sym (key_of-whole words c.args.key.now inv.1 whole))

pub returns : goal.returns
returns c =
    let inv = c.loop-i.invariant in let words = c.loop-i.words in
    key_of-whole words c.args.key.now inv.1 (whole_schedule words c.args.key.now c.loop-i.i inv.0 (omega arith) inv.2)
