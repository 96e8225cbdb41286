use Rattle.std.proofs.Common.{◌/◌, ◌==◌, sym, ◌∙◌, ap, bit_and}
use Rattle.std.proofs.lemmas.Bool.{ne_eqb}
use Rattle.seal_model.specs.Polynomial.{add, bits, scaled}
use Rattle.seal_model.specs.Gcm.{block_modulus}
use Rattle.seal_model.proofs.Algebra.{add_nil}
use Rattle.seal_model.proofs.Bits.{bits-xor}
use Rattle.aes_gcm.proofs.Numbers.{modulus_bits, times_x-bits}
use Rattle.aes_gcm.proofs.field.times_x.Goals as goal

pub returns-then-element-eq1 : goal.returns-then-element-eq1
returns-then-element-eq1 c =
    let x = c.args.element in
    bits-xor 128 (x / 2) 0xe1000000000000000000000000000000 ∙ ap (add (bits 128 (x / 2))) modulus_bits
    ∙ ap (λ n. add (bits 128 (x / 2)) (scaled (n == 1) block_modulus)) (sym c.if-element-eq1.true)
    ∙ sym (times_x-bits x c.ranges.element.fits)

pub returns-else-element-eq1 : goal.returns-else-element-eq1
returns-else-element-eq1 c =
    let x = c.args.element in
    sym (add_nil (bits 128 (x / 2)))
    ∙ ap (λ b. add (bits 128 (x / 2)) (scaled b block_modulus)) (sym (ne_eqb (bit_and x 1) 1 c.if-element-eq1.false))
    ∙ sym (times_x-bits x c.ranges.element.fits)
