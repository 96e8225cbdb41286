-- The table of the S-box, and small products, by a test of each byte.
use Rattle.std.proofs.Common.{◌≡◌, ℕ, ◌*◌, ◌/◌, ◌%◌, ◌^◌, ◌<◌, true, ◌==◌, get_or, bit_xor, refl, sym, ◌∙◌}
use Rattle.std.proofs.lemmas.Bool.{eqb-true}
use Rattle.seal_model.specs.Polynomial.{bits}
use Rattle.seal_model.specs.Aes.{affine, byte_modulus, multiply, polynomial_of, s_box, x_power}
use Rattle.seal_model.proofs.ByteField.{all_below, all_below-at, inverse_table, table_inverse, s_box-table}
use Rattle.aes_block.specs.declared.s_box.TheConstants.{S_BOX}

table_test : all_below 256 (λ x. get_or S_BOX x 0 == affine (table_inverse x)) ≡ true
unfolding all_below affine inverse_table
table_test = refl

-- the table is the S-box
pub table : (x : ℕ) → x < 256 → get_or S_BOX x 0 ≡ s_box x
table x h =
    eqb-true (get_or S_BOX x 0) (affine (table_inverse x))
    (all_below-at 256 (λ k. get_or S_BOX k 0 == affine (table_inverse k)) table_test x h)
    ∙ sym (s_box-table x h)

double_test : all_below 256 (λ x. bit_xor (x * 2 % 256) (x / 128 * 27) == multiply 2 x) ≡ true
unfolding all_below multiply byte_modulus polynomial_of bits
double_test = refl

pub doubled : (x : ℕ) → x < 256 → bit_xor (x * 2 % 256) (x / 128 * 27) ≡ multiply 2 x
doubled x h =
    eqb-true (bit_xor (x * 2 % 256) (x / 128 * 27)) (multiply 2 x)
    (all_below-at 256 (λ k. bit_xor (k * 2 % 256) (k / 128 * 27) == multiply 2 k) double_test x h)

triple_test : all_below 256 (λ x. bit_xor (multiply 2 x) x == multiply 3 x) ≡ true
unfolding all_below multiply byte_modulus polynomial_of bits
triple_test = refl

pub tripled : (x : ℕ) → x < 256 → bit_xor (multiply 2 x) x ≡ multiply 3 x
tripled x h =
    eqb-true (bit_xor (multiply 2 x) x) (multiply 3 x)
    (all_below-at 256 (λ k. bit_xor (multiply 2 k) k == multiply 3 k) triple_test x h)

power_test : all_below 7 (λ k. 1 * 2 ^ k % 256 == x_power k) ≡ true
unfolding all_below multiply byte_modulus polynomial_of bits
power_test = refl

pub power_of_two : (k : ℕ) → k < 7 → 1 * 2 ^ k % 256 ≡ x_power k
power_of_two k h =
    eqb-true (1 * 2 ^ k % 256) (x_power k) (all_below-at 7 (λ j. 1 * 2 ^ j % 256 == x_power j) power_test k h)
