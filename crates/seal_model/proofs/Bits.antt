-- The bits of numbers.
use Rattle.std.proofs.Common.{◌≡◌, ℕ, zero, suc, ◌+◌, ◌-◌, ◌*◌, ◌%◌, ◌^◌, ◌<◌, Bool, true, false, cond, ◌==◌, List}
use Rattle.std.proofs.Common.{[], ◌∷◌, ◌++◌, length, bit_xor, refl, sym, ◌∙◌, ap, subst, arith, zero-add}
use Rattle.std.proofs.Math.Nat.{pow-suc, suc-add}
use Rattle.std.proofs.lemmas.Nat.{mod-pow-add}
use Rattle.std.proofs.lemmas.Nat.Bits.{bit_at_xor, bit_at_cat_low, bit_at_cat_high, bit_at_above, bit_at-lt}
use Rattle.std.specs.Int.{bit_at}
use Rattle.seal_model.specs.Polynomial.{plus, add, bit, bits, number_of}
use Rattle.seal_model.proofs.Algebra.{Same, none, more}

pub Same-length : (p q : List Bool) → length p ≡ length q → Same p q
Same-length [] [] e = none
Same-length [] (b ∷ q) e = cc
Same-length (a ∷ p) [] e = cc
Same-length (a ∷ p) (b ∷ q) e = more (Same-length p q (cc))

pub length-Same : (p q : List Bool) → Same p q → length p ≡ length q
length-Same _ _ none = refl
length-Same (a ∷ p) (b ∷ q) (more s) = ap suc (length-Same p q s)

-- the lowest bit of a sum of two bits
plus-digits : (a b : ℕ) → a < 2 → b < 2 → ((a + b) % 2 == 1) ≡ plus (a == 1) (b == 1)
plus-digits zero zero h g = refl
plus-digits zero (suc zero) h g = refl
plus-digits (suc zero) zero h g = refl
plus-digits (suc zero) (suc zero) h g = refl
plus-digits (suc (suc a)) b h g = absurd (omega arith)
plus-digits zero (suc (suc b)) h g = absurd (omega arith)
plus-digits (suc zero) (suc (suc b)) h g = absurd (omega arith)

bit-xor : (x y k : ℕ) → bit (bit_xor x y) k ≡ plus (bit x k) (bit y k)
bit-xor x y k =
    ap (λ n. n == 1) (bit_at_xor x y k) ∙ plus-digits (bit_at x k) (bit_at y k) (bit_at-lt x k) (bit_at-lt y k)

pub bits-xor : (n x y : ℕ) → bits n (bit_xor x y) ≡ add (bits n x) (bits n y)
unfolding bits
bits-xor zero x y = refl
bits-xor (suc n) x y = λ i. bit-xor x y n i ∷ bits-xor n x y i

pub length-bits : (n x : ℕ) → length (bits n x) ≡ n
unfolding bits
length-bits zero x = refl
length-bits (suc n) x = ap suc (length-bits n x)

bits-below : (n x y : ℕ) → ((k : ℕ) → k < n → bit x k ≡ bit y k) → bits n x ≡ bits n y
unfolding bits
bits-below zero x y h = refl
bits-below (suc n) x y h = λ i. h n (omega arith) i ∷ bits-below n x y (λ k l. h k (omega arith)) i

-- the low bits of `x * 2 ^ n + y`
pub bits-low : (n x y : ℕ) → bits n (x * 2 ^ n + y) ≡ bits n y
bits-low n x y = bits-below n (x * 2 ^ n + y) y (λ k h. ap (λ d. d == 1) (bit_at_cat_low x n y k h))

-- the bits of `x * 2 ^ n + y`
pub bits-cat : (m n x y : ℕ) → y < 2 ^ n → bits (m + n) (x * 2 ^ n + y) ≡ bits m x ++ bits n y
unfolding bits
bits-cat zero n x y h = ap (λ k. bits k (x * 2 ^ n + y)) (zero-add n) ∙ bits-low n x y
bits-cat (suc m) n x y h =
    let high : bit (x * 2 ^ n + y) (m + n) ≡ bit x m =
    ap (λ d. d == 1) (bit_at_cat_high x n y (m + n) h (omega arith) ∙ ap (bit_at x) (omega arith)) in
    ap (λ k. bits k (x * 2 ^ n + y)) (suc-add m n) ∙ (λ i. high i ∷ bits-cat m n x y h i)

pub number_of-lt : (p : List Bool) → number_of p < 2 ^ length p
number_of-lt [] = omega arith
number_of-lt (false ∷ p) = omega (arith, number_of-lt p, pow-suc 2 (length p))
number_of-lt (true ∷ p) = omega (arith, number_of-lt p, pow-suc 2 (length p))

pub bits-number_of : (p : List Bool) → bits (length p) (number_of p) ≡ p
unfolding bits
bits-number_of [] = refl
bits-number_of (true ∷ p) =
    let n = length p in let r = number_of p in
    let none : n - n ≡ 0 = omega arith in
    let above : bit (2 ^ n + r) n ≡ true =
    ap (λ d. d == 1) (ap (λ k. bit_at k n) one_more ∙ bit_at_cat_high 1 n r n (number_of-lt p) (omega arith)
    ∙ ap (bit_at 1) none) in
    λ i. above i ∷ (ap (bits n) one_more ∙ bits-low n 1 r ∙ bits-number_of p) i
  where
    one_more : 2 ^ length p + number_of p ≡ 1 * 2 ^ length p + number_of p
    one_more = omega arith
bits-number_of (false ∷ p) =
    let n = length p in let r = number_of p in
    let above : bit r n ≡ false = ap (λ d. d == 1) (bit_at_above r n n (number_of-lt p) (omega arith)) in
    ap (λ k. bit k n ∷ bits n k) (zero-add r) ∙ (λ i. above i ∷ bits-number_of p i)

digit-times : (d k : ℕ) → d < 2 → cond (d == 1) k 0 ≡ d * k
digit-times zero k h = omega arith
digit-times (suc zero) k h = omega arith
digit-times (suc (suc d)) k h = absurd (omega arith)

pub number_of-bits : (n x : ℕ) → number_of (bits n x) ≡ x % 2 ^ n
unfolding bits
number_of-bits zero x = omega arith
number_of-bits (suc n) x =
    (λ i. cond (bit x n) (2 ^ length-bits n x i) 0 + number_of-bits n x i)
    ∙ ap (λ d. d + x % 2 ^ n) (digit-times (bit_at x n) (2 ^ n) (bit_at-lt x n))
    ∙ sym (mod-pow-add x 1 n) ∙ ap (λ k. x % 2 ^ k) (omega arith)

pub bits-of_length : (n : ℕ) (p : List Bool) → length p ≡ n → bits n (number_of p) ≡ p
bits-of_length n p e = subst (λ k. bits k (number_of p) ≡ p) e (bits-number_of p)
