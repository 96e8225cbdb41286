-- Powers of a byte: products of powers, and the inverse as the 254th.
use Rattle.std.proofs.Common.{◌≡◌, ℕ, zero, suc, ◌+◌, ◌*◌, ◌<◌, true, ◌==◌, refl, sym, ◌∙◌, ap, arith}
use Rattle.std.proofs.Math.Nat.{mul-suc}
use Rattle.std.proofs.lemmas.Bool.{eqb-true}
use Rattle.seal_model.specs.Polynomial.{bits}
use Rattle.seal_model.specs.Aes.{multiply, byte_power, byte_modulus, polynomial_of}
use Rattle.seal_model.specs.Laws.{InverseIsPower}
use Rattle.seal_model.proofs.ByteField.{all_below, all_below-at, inverse_table, table_inverse, inverse-table}
use Rattle.seal_model.proofs.ByteField.{multiply_assoc, multiply_comm, one_multiply, multiply-lt}

pub byte_power-lt : (x n : ℕ) → byte_power x n < 256
unfolding byte_power
byte_power-lt x zero = omega arith
byte_power-lt x (suc n) = multiply-lt (byte_power x n) x

byte_power-add : (x m n : ℕ) → multiply (byte_power x m) (byte_power x n) ≡ byte_power x (m + n)
unfolding byte_power
byte_power-add x m zero =
    let same : m ≡ m + 0 = omega arith in
    multiply_comm (byte_power x m) 1 ∙ one_multiply (byte_power x m) (byte_power-lt x m) ∙ ap (byte_power x) same
byte_power-add x m (suc n) =
    let longer : suc (m + n) ≡ m + suc n = omega arith in
    sym (multiply_assoc (byte_power x m) (byte_power x n) x) ∙ ap (λ p. multiply p x) (byte_power-add x m n)
    ∙ ap (byte_power x) longer

pub byte_power-one : (x : ℕ) → x < 256 → byte_power x 1 ≡ x
unfolding byte_power
byte_power-one x h = one_multiply x h

-- the product of two powers
pub power_product : (x y z m n : ℕ) → y ≡ byte_power x m → z ≡ byte_power x n → multiply y z ≡ byte_power x (m + n)
power_product x y z m n e f = (λ i. multiply (e i) (f i)) ∙ byte_power-add x m n

-- a power of a power
pub power_power : (x y m n : ℕ) → y ≡ byte_power x m → byte_power y n ≡ byte_power x (m * n)
unfolding byte_power
power_power x y m zero e = let none : 0 ≡ m * 0 = omega arith in ap (byte_power x) none
power_power x y m (suc n) e =
    power_product x (byte_power y n) y (m * n) m (power_power x y m n e) e ∙ ap (byte_power x) (sym (mul-suc m n))

-- ---- the inverse: the 254th power of each byte, by a test. A step is a function, so its value is computed once.
unfoldable square : ℕ → ℕ
square y = multiply y y

unfoldable from_15 : ℕ → ℕ → ℕ → ℕ
from_15 x2 x12 x15 = multiply (multiply (square (square (square (square x15)))) x12) x2

unfoldable from_12 : ℕ → ℕ → ℕ → ℕ
from_12 x2 x3 x12 = from_15 x2 x12 (multiply x12 x3)

unfoldable from_3 : ℕ → ℕ → ℕ
from_3 x2 x3 = from_12 x2 x3 (square (square x3))

unfoldable from_2 : ℕ → ℕ → ℕ
from_2 x x2 = from_3 x2 (multiply x2 x)

unfoldable power_254 : ℕ → ℕ
power_254 x = from_2 x (square x)

power_test : all_below 256 (λ x. power_254 x == table_inverse x) ≡ true
unfolding all_below power_254 from_2 from_3 from_12 from_15 square multiply byte_modulus
    polynomial_of bits inverse_table
power_test = refl

square_is : (x y m : ℕ) → y ≡ byte_power x m → square y ≡ byte_power x (m + m)
unfolding square
square_is x y m e = power_product x y y m m e e

power_254-is : (x : ℕ) → x < 256 → power_254 x ≡ byte_power x 254
unfolding power_254 from_2 from_3 from_12 from_15
power_254-is x fits =
    let e1 = sym (byte_power-one x fits) in
    let x2 = square x in let e2 = square_is x x 1 e1 in
    let x3 = multiply x2 x in let e3 = power_product x x2 x 2 1 e2 e1 in
    let x6 = square x3 in let e6 = square_is x x3 3 e3 in
    let x12 = square x6 in let e12 = square_is x x6 6 e6 in
    let x15 = multiply x12 x3 in let e15 = power_product x x12 x3 12 3 e12 e3 in
    let x30 = square x15 in let e30 = square_is x x15 15 e15 in
    let x60 = square x30 in let e60 = square_is x x30 30 e30 in
    let x120 = square x60 in let e120 = square_is x x60 60 e60 in
    let x240 = square x120 in let e240 = square_is x x120 120 e120 in
    let e252 = power_product x x240 x12 240 12 e240 e12 in
    power_product x (multiply x240 x12) x2 252 2 e252 e2

pub inverse_is_power : InverseIsPower
inverse_is_power x fits =
    let passed = all_below-at 256 (λ k. power_254 k == table_inverse k) power_test x fits in
    inverse-table x fits ∙ sym (eqb-true (power_254 x) (table_inverse x) passed) ∙ power_254-is x fits
