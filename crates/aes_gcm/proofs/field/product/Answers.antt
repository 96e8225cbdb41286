use Rattle.std.proofs.Common.{◌≡◌, ◌+◌, ◌*◌, ◌/◌, ◌%◌, ◌^◌, ◌<◌, refl, ◌∙◌, ap, bit_and, get_or, arith}
use Rattle.std.proofs.lemmas.Nat.{and_mask, shr-shr}
use Rattle.seal_model.specs.Polynomial.{bits}
use Rattle.seal_model.specs.Gcm.{block_modulus, field_product}
use Rattle.aes_gcm.proofs.Nibbles.{next_four}
use Rattle.aes_gcm.proofs.field.product.Goals as goal

pub loop-i-init : goal.loop-i-init
unfolding bits field_product block_modulus
loop-i-init c = (omega arith, refl)

pub loop-i-preserved : goal.loop-i-preserved
loop-i-preserved c =
    let left = c.args.left in let i = c.loop-i._i in let inv = c.loop-i.invariant in let rest = c.loop-i.rest in
    let digit = bit_and rest 15 in
    let is : digit ≡ left / 2 ^ (4 * i) % 16 = and_mask rest 4 ∙ ap (λ n. n % 16) inv.0 in
    let below : digit < 16 = omega arith in
    let places : 4 * i + 4 ≡ 4 * (i + 1) = omega arith in (
      ap (λ n. n / 2 ^ 4) inv.0 ∙ shr-shr left (4 * i) 4 ∙ ap (λ k. left / 2 ^ k) places,
      next_four left c.args.right c.loop-i.product c.times_x4.result digit (get_or c.args.multiples.now digit 0) i is
          (c.requires digit below) inv.1 c.times_x4.ensures,
    )

pub returns : goal.returns
returns c =
    let end : 4 * c.loop-i._i ≡ 128 = omega arith in
    c.loop-i.invariant.1 ∙ ap (λ k. field_product (bits k c.args.left) (bits 128 c.args.right)) end
