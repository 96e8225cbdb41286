-- Powers of an element, and the sum of powers over two lists of blocks.
use Rattle.std.proofs.Common.{◌≡◌, ℕ, zero, suc, ◌+◌, Bool, true, false, List, [], ◌∷◌, ◌++◌, length, replicate, refl}
use Rattle.std.proofs.Common.{sym, ◌∙◌, ap, arith, length-append}
use Rattle.seal_model.specs.Polynomial.{add}
use Rattle.seal_model.specs.Gcm.{block_modulus, field_product, field_one, power, power_sum}
use Rattle.seal_model.proofs.Algebra.{add_assoc, zeros_add, zeros-times}
use Rattle.seal_model.proofs.Bits.{Same-length}
use Rattle.seal_model.proofs.BlockField.{modulus_rest, block_ring, field_product_add}
use Rattle.seal_model.proofs.BlockField.{length-field_product, length-power_sum}

pub length-power : (h : List Bool) (n : ℕ) → length (power h n) ≡ 128
unfolding power field_one
length-power h zero = refl
length-power h (suc n) = length-field_product (power h n) h

field_product_one : (p : List Bool) → length p ≡ 128 → field_product p field_one ≡ p
field_product_one p e = block_ring.commutative p field_one ∙ block_ring.has_one p e

pub power-add : (h : List Bool) (m n : ℕ) → field_product (power h m) (power h n) ≡ power h (m + n)
unfolding power
power-add h m zero = let same : m ≡ m + 0 = omega arith in field_product_one (power h m) (length-power h m)
    ∙ ap (power h) same
power-add h m (suc n) =
    let longer : suc (m + n) ≡ m + suc n = omega arith in
    sym (block_ring.associative (power h m) (power h n) h) ∙ ap (λ p. field_product p h) (power-add h m n)
    ∙ ap (power h) longer

zeros_field_product : (p : List Bool) → field_product (replicate 128 false) p ≡ replicate 128 false
unfolding field_product block_modulus
zeros_field_product p = zeros-times true modulus_rest p

-- the sum over two lists of blocks: that over the first moves up by the length of the second
pub power_sum-both : (h : List Bool) (s t : List (List Bool))
    → power_sum h (s ++ t) ≡ add (field_product (power_sum h s) (power h (length t))) (power_sum h t)
unfolding power_sum
power_sum-both h [] t =
    sym (ap (λ z. add z (power_sum h t)) (zeros_field_product (power h (length t)))
    ∙ zeros_add (power_sum h t) (true ∷ modulus_rest)
    (Same-length (power_sum h t) (true ∷ modulus_rest) (length-power_sum h t)))
power_sum-both h (b ∷ s) t =
    let p = power h (suc (length s)) in let q = power h (length t) in let sum = power_sum h s in
    let longer : suc (length (s ++ t)) ≡ suc (length s) + length t = omega (arith, length-append s t) in
    ap (λ n. add (field_product b (power h n)) (power_sum h (s ++ t))) longer
    ∙ ap (λ r. add (field_product b r) (power_sum h (s ++ t))) (sym (power-add h (suc (length s)) (length t)))
    ∙ (λ i. add (sym (block_ring.associative b p q) i) (power_sum-both h s t i))
    ∙ sym (add_assoc (field_product (field_product b p) q) (field_product sum q) (power_sum h t))
    ∙ ap (λ r. add r (power_sum h t)) (sym (field_product_add (field_product b p) sum q))
