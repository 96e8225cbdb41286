-- A product of two bytes, one bit of the left one after the other, and the doubling of a byte.
use Rattle.std.proofs.Common.{◌≡◌, ℕ, zero, suc, ◌+◌, ◌/◌, ◌%◌, ◌^◌, ◌<◌, cond, true, ◌==◌, bit_xor, refl, sym, ◌∙◌}
use Rattle.std.proofs.Common.{ap, arith, lt_of_le_of_lt, div-le_self}
use Rattle.std.specs.Int.Bits.{xor_self}
use Rattle.std.proofs.lemmas.Bool.{eqb-true}
use Rattle.std.proofs.lemmas.Nat.{shr-shr}
use Rattle.seal_model.specs.Polynomial.{bits}
use Rattle.seal_model.specs.Aes.{multiply, byte_modulus, polynomial_of}
use Rattle.seal_model.proofs.ByteField.{all_below, all_below-at, multiply_assoc}
use Rattle.seal_model.proofs.ByteField.{multiply_comm, one_multiply, multiply-xor}
use Rattle.seal_model.specs.Lanes.{where_set}
use Rattle.seal_model.proofs.Pointwise.{bit_test}

even_test : all_below 128 (λ h. bit_xor (multiply 2 h) 0 == h + h) ≡ true
unfolding all_below multiply byte_modulus polynomial_of bits
even_test = refl

odd_test : all_below 128 (λ h. bit_xor (multiply 2 h) 1 == h + h + 1) ≡ true
unfolding all_below multiply byte_modulus polynomial_of bits
odd_test = refl

with_digit : (h d : ℕ) → h < 128 → d < 2 → bit_xor (multiply 2 h) d ≡ h + h + d
with_digit h zero p q =
    eqb-true (bit_xor (multiply 2 h) 0) (h + h) (all_below-at 128 (λ k. bit_xor (multiply 2 k) 0 == k + k)
    even_test h p)
    ∙ omega arith
with_digit h (suc zero) p q =
    eqb-true (bit_xor (multiply 2 h) 1) (h + h + 1)
    (all_below-at 128 (λ k. bit_xor (multiply 2 k) 1 == k + k + 1) odd_test h p)
with_digit h (suc (suc d)) p q = absurd (omega arith)

zero_multiply : (y : ℕ) → multiply 0 y ≡ 0
zero_multiply y = multiply_comm 0 y ∙ multiply-xor y 0 0 ∙ xor_self (multiply y 0)

-- 0 or 1 times a byte
digit_times : (d y : ℕ) → d < 2 → y < 256 → cond (d == 1) y 0 ≡ multiply d y
digit_times zero y h q = sym (zero_multiply y)
digit_times (suc zero) y h q = sym (one_multiply y q)
digit_times (suc (suc d)) y h q = absurd (omega arith)

chosen : (x y i : ℕ) → y < 256 → where_set x (2 ^ i) y ≡ multiply (x / 2 ^ i % 2) y
chosen x y i q = ap (λ b. cond b y 0) (bit_test x i) ∙ digit_times (x / 2 ^ i % 2) y (omega arith) q

-- one bit more of the left factor
one_bit_more : (x y i : ℕ) → x < 256
    → bit_xor (multiply 2 (multiply (x / 2 ^ (i + 1)) y)) (multiply (x / 2 ^ i % 2) y) ≡ multiply (x / 2 ^ i) y
one_bit_more x y i p =
    let q = x / 2 ^ i in let h = q / 2 in let d = q % 2 in let a = multiply 2 h in
    let half : x / 2 ^ (i + 1) ≡ h = sym (shr-shr x i 1) in
    let whole : h + h + d ≡ q = omega arith in
    let fits : q < 256 = lt_of_le_of_lt (div-le_self x (2 ^ i)) p in
    ap (λ k. bit_xor (multiply 2 (multiply k y)) (multiply d y)) half
    ∙ ap (λ k. bit_xor k (multiply d y)) (sym (multiply_assoc 2 h y))
    ∙ (λ j. bit_xor (multiply_comm a y j) (multiply_comm d y j))
    ∙ sym (multiply-xor y a d) ∙ multiply_comm y (bit_xor a d)
    ∙ ap (λ k. multiply k y) (with_digit h d (omega arith) (omega arith) ∙ whole)

-- a step of the product, from the bits above i to those from i on
pub next_bit : (x y i sum next : ℕ) → x < 256 → y < 256 → sum ≡ multiply (x / 2 ^ (i + 1)) y
    → next ≡ bit_xor (multiply 2 sum) (where_set x (2 ^ i) y) → next ≡ multiply (x / 2 ^ i) y
next_bit x y i sum next p q e f =
    f ∙ (λ t. bit_xor (multiply 2 (e t)) (chosen x y i q t)) ∙ one_bit_more x y i p

-- with no bit so far
pub no_bit : (x y : ℕ) → x < 256 → 0 ≡ multiply (x / 2 ^ (7 + 1)) y
no_bit x y p = let none : x / 2 ^ (7 + 1) ≡ 0 = omega arith in sym (ap (λ k. multiply k y) none ∙ zero_multiply y)

doubling_test : all_below 256 (λ x. bit_xor ((x + x) % 2 ^ 8) (where_set x 0x80 0x1b) == multiply 2 x) ≡ true
unfolding all_below multiply byte_modulus polynomial_of bits
doubling_test = refl

pub doubling : (x : ℕ) → x < 256 → bit_xor ((x + x) % 2 ^ 8) (where_set x 0x80 0x1b) ≡ multiply 2 x
doubling x h =
    eqb-true (bit_xor ((x + x) % 2 ^ 8) (where_set x 0x80 0x1b)) (multiply 2 x)
    (all_below-at 256 (λ k. bit_xor ((k + k) % 2 ^ 8) (where_set k 0x80 0x1b) == multiply 2 k) doubling_test x h)
