use Rattle.std.proofs.Common.{◌≡◌, ◌*◌, ◌%◌, ◌^◌, ◌++◌, ◌==◌, bit_and, slice_index, ◌∙◌, ap, arith}
use Rattle.std.proofs.lemmas.Nat.{one_shl}
use Rattle.seal_model.specs.Polynomial.{add, bit, bits, scaled}
use Rattle.seal_model.specs.Gcm.{field_product}
use Rattle.seal_model.proofs.Bits.{length-bits}
use Rattle.seal_model.proofs.Pointwise.{bit_test}
use Rattle.aes_gcm.specs.Lanes.{element}
use Rattle.aes_gcm.proofs.Halves.{coefficient_more}
use Rattle.aes_gcm.proofs.lanes.times_half.Goals as goal

pub loop-i-init : goal.loop-i-init
unfolding bits
loop-i-init c j h before e = e

pub loop-i-preserved : goal.loop-i-preserved
loop-i-preserved c j h before e =
    let i = c.loop-i.i in let half = slice_index c.args.half j in
    let right = bits 128 (element c.args.right.high c.args.right.low j) in
    let next = element c.times_x-next.result.high c.times_x-next.result.low j in
    let tested : (bit_and half (1 * 2 ^ i % 2 ^ 64) == 1 * 2 ^ i % 2 ^ 64) ≡ bit half i =
    ap (λ n. bit_and half n == n) (one_shl i 64 (omega arith)) ∙ bit_test half i in
    coefficient_more right before half i (element c.loop-i.product.high c.loop-i.product.low j) next _
    (length-bits 128 (element c.args.right.high c.args.right.low j)) (c.loop-i.invariant j h before e)
    (c.times_x-next.ensures j h)
    (c.plus_where-product.ensures j h ∙ ap (λ b. add (bits 128 next) (scaled b right)) tested)

pub returns : goal.returns
returns c j h before e =
    let end : c.loop-i.i ≡ 64 = omega arith in
    c.loop-i.invariant j h before e
    ∙ ap (λ k. field_product (bits k (slice_index c.args.half j) ++ before)
    (bits 128 (element c.args.right.high c.args.right.low j))) end
