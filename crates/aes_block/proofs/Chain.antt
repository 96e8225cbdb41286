-- Linear maps by the images of the bits, and the S-box by the steps of the 254th power.
use Rattle.std.proofs.Common.{◌≡◌, ℕ, ◌<◌, true, ◌==◌, bit_xor, refl, sym, ◌∙◌, ap, subst}
use Rattle.std.proofs.lemmas.Bool.{eqb-true}
use Rattle.seal_model.specs.Polynomial.{bits}
use Rattle.seal_model.specs.Aes.{multiply, byte_power, byte_modulus, polynomial_of, affine, inverse, s_box}
use Rattle.seal_model.proofs.BytePowers.{byte_power-lt, byte_power-one, power_product, power_power, inverse_is_power}
use Rattle.seal_model.proofs.ByteField.{all_below, all_below-at, byte_field}
use Rattle.aes_block.specs.Lanes.{linear}
use Rattle.aes_block.specs.declared.lanes.TheConstants.{SQUARES, FOURTH_POWERS, SIXTEENTH_POWERS, AFFINE_MAP}

square_test : all_below 256 (λ x. linear SQUARES x == byte_power x 2) ≡ true
unfolding all_below byte_power multiply byte_modulus polynomial_of bits
square_test = refl

squared : (x : ℕ) → x < 256 → linear SQUARES x ≡ byte_power x 2
squared x h = eqb-true (linear SQUARES x) (byte_power x 2)
    (all_below-at 256 (λ k. linear SQUARES k == byte_power k 2) square_test x h)

fourth_test : all_below 256 (λ x. linear FOURTH_POWERS x == byte_power x 4) ≡ true
unfolding all_below byte_power multiply byte_modulus polynomial_of bits
fourth_test = refl

fourth_power : (x : ℕ) → x < 256 → linear FOURTH_POWERS x ≡ byte_power x 4
fourth_power x h =
    eqb-true (linear FOURTH_POWERS x) (byte_power x 4)
    (all_below-at 256 (λ k. linear FOURTH_POWERS k == byte_power k 4) fourth_test x h)

sixteenth_test : all_below 256 (λ x. linear SIXTEENTH_POWERS x == byte_power x 16) ≡ true
unfolding all_below byte_power multiply byte_modulus polynomial_of bits
sixteenth_test = refl

sixteenth_power : (x : ℕ) → x < 256 → linear SIXTEENTH_POWERS x ≡ byte_power x 16
sixteenth_power x h =
    eqb-true (linear SIXTEENTH_POWERS x) (byte_power x 16)
    (all_below-at 256 (λ k. linear SIXTEENTH_POWERS k == byte_power k 16) sixteenth_test x h)

affine_test : all_below 256 (λ x. bit_xor (linear AFFINE_MAP x) 0x63 == affine x) ≡ true
unfolding all_below affine
affine_test = refl

affine_by_images : (x : ℕ) → x < 256 → bit_xor (linear AFFINE_MAP x) 0x63 ≡ affine x
affine_by_images x h =
    eqb-true (bit_xor (linear AFFINE_MAP x) 0x63) (affine x)
    (all_below-at 256 (λ k. bit_xor (linear AFFINE_MAP k) 0x63 == affine k) affine_test x h)

-- the steps that the code takes give the inverse
pub steps_invert : (x x2 x3 x12 x15 x240 x252 y : ℕ) → x < 256 → x2 ≡ linear SQUARES x → x3 ≡ multiply x2 x
    → x12 ≡ linear FOURTH_POWERS x3 → x15 ≡ multiply x12 x3 → x240 ≡ linear SIXTEENTH_POWERS x15
    → x252 ≡ multiply x240 x12
    → y ≡ multiply x252 x2 → y ≡ inverse x
steps_invert x x2 x3 x12 x15 x240 x252 y h d2 d3 d12 d15 d240 d252 dy =
    let e1 = sym (byte_power-one x h) in
    let e2 = d2 ∙ squared x h in
    let e3 = d3 ∙ power_product x x2 x 2 1 e2 e1 in
    let fits3 : x3 < 256 = is_byte x3 3 e3 in
    let e12 = d12 ∙ fourth_power x3 fits3 ∙ power_power x x3 3 4 e3 in
    let e15 = d15 ∙ power_product x x12 x3 12 3 e12 e3 in
    let e240 = d240 ∙ sixteenth_power x15 (is_byte x15 15 e15) ∙ power_power x x15 15 16 e15 in
    let e252 = d252 ∙ power_product x x240 x12 240 12 e240 e12 in
    dy ∙ power_product x x252 x2 252 2 e252 e2 ∙ sym (inverse_is_power x h)
  where
    is_byte : (z n : ℕ) → z ≡ byte_power x n → z < 256
    is_byte z n e = subst (λ k. k < 256) (sym e) (byte_power-lt x n)

pub s_box_by : (x y image r : ℕ) → y ≡ inverse x → image ≡ linear AFFINE_MAP y → r ≡ bit_xor image 0x63 → r ≡ s_box x
unfolding s_box
s_box_by x y image r e f g =
    g ∙ ap (λ k. bit_xor k 0x63) (f ∙ ap (linear AFFINE_MAP) e)
    ∙ affine_by_images (inverse x) (byte_field.inverse_closed x)
