-- The field of blocks, and GHASH one block at a time.
use Rattle.std.proofs.Common.{◌≡◌, ℕ, zero, suc, ◌+◌, ◌*◌, ◌%◌, Bool, true, false, List, [], ◌∷◌, ◌++◌, length, take}
use Rattle.std.proofs.Common.{drop, replicate, refl, sym, ◌∙◌, ap, arith, length-append}
use Rattle.seal_model.specs.Polynomial.{zeros, scaled, times_x, add, product, bits, number_of}
use Rattle.seal_model.specs.Gcm.{block_modulus, field_product, field_one, power, power_sum, polynomial_of, bytes_of}
use Rattle.seal_model.specs.Laws.{IsBlockRing, HashGoesByBlocks}
use Rattle.seal_model.proofs.Lists.{AreBytes}
use Rattle.seal_model.proofs.Algebra.{times-cons, remainder_same, times, add_comm, add_assoc}
use Rattle.seal_model.proofs.Algebra.{zeros_add, add_zeros, Same-add, Same-remainder}
use Rattle.seal_model.proofs.Algebra.{times_comm, times_assoc, times-add, times_add, one_times}
use Rattle.seal_model.proofs.Bits.{Same-length, length-Same, length-bits, number_of-bits}

-- the modulus without its first coefficient
abbrev pub modulus_rest : List Bool
modulus_rest = true ∷ true ∷ false ∷ false ∷ false ∷ false ∷ true ∷ replicate 120 false

pub field_product_add : (p q r : List Bool) → field_product (add p q) r ≡ add (field_product p r) (field_product q r)
unfolding field_product block_modulus
field_product_add p q r = times_add true modulus_rest p q r

pub length-field_product : (p q : List Bool) → length (field_product p q) ≡ 128
unfolding field_product block_modulus
length-field_product p q =
    length-Same (field_product p q) (true ∷ modulus_rest) (Same-remainder true modulus_rest (product p q))

pub block_ring : IsBlockRing
unfolding field_product block_modulus field_one
block_ring = record {
  commutative = times_comm true modulus_rest;
  associative = times_assoc true modulus_rest;
  distributive = times-add true modulus_rest;
  has_one = λ p e. one_times true modulus_rest modulus_rest p (Same-length p (true ∷ modulus_rest) e);
}

pub length-add : (p q : List Bool) → length p ≡ 128 → length q ≡ 128 → length (add p q) ≡ 128
length-add p q e f = length-Same (add p q) q (Same-add p q q (Same-length p q (e ∙ sym f)) (Same-length q q refl)) ∙ f

-- the field's zero
pub add_none : (p : List Bool) → length p ≡ 128 → add p (replicate 128 false) ≡ p
add_none p e = add_zeros p (true ∷ modulus_rest) (Same-length p (true ∷ modulus_rest) e)

pub length-power_sum : (h : List Bool) (blocks : List (List Bool)) → length (power_sum h blocks) ≡ 128
unfolding power_sum
length-power_sum h [] = refl
length-power_sum h (b ∷ blocks) =
    length-add (field_product b (power h (suc (length blocks)))) (power_sum h blocks)
    (length-field_product b (power h (suc (length blocks)))) (length-power_sum h blocks)

length-after : (bs : List (List Bool)) (b : List Bool) → length (bs ++ b ∷ []) ≡ suc (length bs)
length-after [] b = refl
length-after (c ∷ bs) b = ap suc (length-after bs b)

-- a product by Horner's rule over the coefficients
pub field_product-nil : (q : List Bool) → field_product [] q ≡ zeros block_modulus
unfolding field_product
field_product-nil q = refl

pub field_product-cons : (a : Bool) (p q : List Bool) → length q ≡ 128
    → field_product (a ∷ p) q ≡ add (times_x block_modulus (field_product p q)) (scaled a q)
unfolding field_product block_modulus
field_product-cons a p q e =
    times-cons true modulus_rest a p q
    ∙ ap (λ r. add (scaled a r) (times_x (true ∷ modulus_rest) (times (true ∷ modulus_rest) p q)))
    (remainder_same q (true ∷ modulus_rest) (Same-length q (true ∷ modulus_rest) e))
    ∙ add_comm (scaled a q) (times_x (true ∷ modulus_rest) (times (true ∷ modulus_rest) p q))

-- one block more: add it, and multiply by h (Horner's rule)
pub power_sum-append : (h b : List Bool) (blocks : List (List Bool)) → length h ≡ 128 → length b ≡ 128
    → power_sum h (blocks ++ b ∷ []) ≡ field_product (add (power_sum h blocks) b) h
unfolding power_sum power
power_sum-append h b [] e f =
    add_comm (field_product b (field_product field_one h)) (replicate 128 false)
    ∙ zeros_add (field_product b (field_product field_one h)) (true ∷ modulus_rest)
    (Same-length (field_product b (field_product field_one h)) (true ∷ modulus_rest)
    (length-field_product b (field_product field_one h)))
    ∙ ap (field_product b) (block_ring.has_one h e)
    ∙ ap (λ p. field_product p h) (sym (zeros_add b (true ∷ modulus_rest) (Same-length b (true ∷ modulus_rest) f)))
power_sum-append h b (c ∷ blocks) e f =
    let s = power_sum h blocks in let first = field_product c (power h (suc (length blocks))) in
    ap (λ n. add (field_product c (power h (suc n))) (power_sum h (blocks ++ b ∷ []))) (length-after blocks b)
    ∙ ap (add (field_product c (field_product (power h (suc (length blocks))) h))) (power_sum-append h b blocks e f)
    ∙ ap (λ p. add p (field_product (add s b) h)) (sym (block_ring.associative c (power h (suc (length blocks))) h))
    ∙ sym (field_product_add first (add s b) h)
    ∙ ap (λ p. field_product p h) (sym (add_assoc first s b))

pub hash_goes_by_blocks : HashGoesByBlocks
unfolding power_sum
hash_goes_by_blocks = record {
  start = λ h. refl;
  next = λ h b blocks e f. power_sum-append h b blocks e f;
}

pub length-polynomial_of : (s : List ℕ) (n : ℕ) → length s ≡ n → length (polynomial_of s) ≡ 8 * n
unfolding polynomial_of
length-polynomial_of [] n e = omega arith
length-polynomial_of (b ∷ s) zero e = absurd (omega arith)
length-polynomial_of (b ∷ s) (suc n) e =
    length-append (bits 8 b) (polynomial_of s)
    ∙ (λ i. length-bits 8 b i + length-polynomial_of s n (cc) i) ∙ omega arith

pub length-bytes_of : (n : ℕ) (p : List Bool) → length (bytes_of n p) ≡ n
unfolding bytes_of
length-bytes_of zero p = refl
length-bytes_of (suc n) p = ap suc (length-bytes_of n (drop 8 p))

pub take_bits : (b : ℕ) (p : List Bool) → take 8 (bits 8 b ++ p) ≡ bits 8 b
unfolding bits
take_bits b p = refl

pub drop_bits : (b : ℕ) (p : List Bool) → drop 8 (bits 8 b ++ p) ≡ p
unfolding bits
drop_bits b p = refl

-- bytes come back from their coefficients
pub bytes_of-polynomial_of : (s : List ℕ) → AreBytes s → bytes_of (length s) (polynomial_of s) ≡ s
unfolding bytes_of polynomial_of
bytes_of-polynomial_of [] h = refl
bytes_of-polynomial_of (b ∷ s) h =
    let first : take 8 (bits 8 b ++ polynomial_of s) ≡ bits 8 b = take_bits b (polynomial_of s) in
    let rest : drop 8 (bits 8 b ++ polynomial_of s) ≡ polynomial_of s = drop_bits b (polynomial_of s) in
    let byte : b % 256 ≡ b = omega (arith, h.0) in
    λ i. (ap number_of first ∙ number_of-bits 8 b ∙ byte) i
    ∷ (ap (bytes_of (length s)) rest ∙ bytes_of-polynomial_of s h.1) i
