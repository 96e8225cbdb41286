use Rattle.std.proofs.Common.{w8, ◌≡◌, ℕ, ◌<◌, ◌/◌, ◌^◌, slice_index, ◌∙◌, ap, arith}
use Rattle.std.proofs.lemmas.Simd.{get_or-replicate}
use Rattle.seal_model.specs.Aes.{multiply}
use Rattle.seal_model.proofs.Pointwise.{lane_fits}
use Rattle.aes_block.proofs.BitByBit.{next_bit, no_bit}
use Rattle.aes_block.proofs.lanes.multiply.Goals as goal

pub returns : goal.returns
returns c = record {
  long = c.next.ensures.long;
  lanes = λ j h.
      let x = slice_index c.args.a j in let y = slice_index c.args.b j in
      let p : x < 256 = lane_fits w8 c.args.a j c.fits-a.1 in let q : y < 256 = lane_fits w8 c.args.b j c.fits-b.1 in
      let e8 = get_or-replicate {A = ℕ} 16 j 0 0 h ∙ no_bit x y p in
      let e7 = next_bit x y 7 _ _ p q e8 (c.next-from_7.ensures.lanes j h) in
      let e6 = next_bit x y 6 _ _ p q e7 (c.next-from_6.ensures.lanes j h) in
      let e5 = next_bit x y 5 _ _ p q e6 (c.next-from_5.ensures.lanes j h) in
      let e4 = next_bit x y 4 _ _ p q e5 (c.next-from_4.ensures.lanes j h) in
      let e3 = next_bit x y 3 _ _ p q e4 (c.next-from_3.ensures.lanes j h) in
      let e2 = next_bit x y 2 _ _ p q e3 (c.next-from_2.ensures.lanes j h) in
      let e1 = next_bit x y 1 _ _ p q e2 (c.next-from_1.ensures.lanes j h) in
      let whole : x / 2 ^ 0 ≡ x = omega arith in
      next_bit x y 0 _ _ p q e1 (c.next.ensures.lanes j h) ∙ ap (λ k. multiply k y) whole;
}
