-- Products by four coefficients at a time.
use Rattle.std.proofs.Common.{◌≡◌, ℕ, zero, suc, ◌+◌, ◌*◌, ◌/◌, ◌%◌, ◌^◌, ◌<◌, Bool, true, false, ◌==◌, List, [], ◌∷◌}
use Rattle.std.proofs.Common.{◌++◌, length, get_or, bit_and, bit_xor, refl, sym, ◌∙◌, ap, arith}
use Rattle.std.specs.Int.Bits.{xor_zero_r}
use Rattle.std.proofs.lemmas.Bool.{eqb-true}
use Rattle.std.proofs.lemmas.Nat.{and_mask, xor_block, xor_comm, shr_split}
use Rattle.seal_model.specs.Polynomial.{add, scaled, zeros, times_x, bits, number_of}
use Rattle.seal_model.specs.Gcm.{block_modulus, field_product}
use Rattle.seal_model.proofs.Algebra.{Same, add_nil, add_assoc, add_zeros}
use Rattle.seal_model.proofs.Algebra.{Same-times_x, times_x-add, times-zeros, one_times}
use Rattle.seal_model.proofs.Bits.{Same-length, length-Same, length-bits, bits-xor, bits-low, bits-of_length}
use Rattle.seal_model.proofs.BlockField.{modulus_rest, field_product-nil}
use Rattle.seal_model.proofs.BlockField.{field_product-cons, field_product_add, length-field_product}
use Rattle.seal_model.proofs.ByteField.{all_below, all_below-at}
use Rattle.seal_model.proofs.Lists.{each_below}
use Rattle.aes_gcm.specs.Hash.{AreMultiples, times_x_power}
use Rattle.aes_gcm.specs.declared.field.TheConstants.{RESTS}
use Rattle.aes_gcm.proofs.Numbers.{times_x-bits, bits-append}

same : (p : List Bool) → length p ≡ 128 → Same p block_modulus
unfolding block_modulus
same p e = Same-length p block_modulus e

length-times_x : (p : List Bool) → length p ≡ 128 → length (times_x block_modulus p) ≡ 128
unfolding block_modulus
length-times_x p e = length-Same (times_x block_modulus p) block_modulus (Same-times_x p block_modulus (same p e))

length-times_x_power : (n : ℕ) (p : List Bool) → length p ≡ 128 → length (times_x_power n p) ≡ 128
length-times_x_power zero p e = e
length-times_x_power (suc n) p e = length-times_x (times_x_power n p) (length-times_x_power n p e)

times_x_power-add : (n : ℕ) (p q : List Bool) → length p ≡ 128 → length q ≡ 128
    → times_x_power n (add p q) ≡ add (times_x_power n p) (times_x_power n q)
times_x_power-add zero p q e f = refl
times_x_power-add (suc n) p q e f =
    ap (times_x block_modulus) (times_x_power-add n p q e f)
    ∙ times_x-add (times_x_power n p) (times_x_power n q) block_modulus
    (same (times_x_power n p) (length-times_x_power n p e)) (same (times_x_power n q) (length-times_x_power n q f))

-- a product by the coefficients d and then p
pub product-append : (d p q : List Bool) → length q ≡ 128
    → field_product (d ++ p) q ≡ add (times_x_power (length d) (field_product p q)) (field_product d q)
product-append [] p q e =
    sym (add_zeros (field_product p q) block_modulus (same (field_product p q) (length-field_product p q)))
    ∙ ap (add (field_product p q)) (sym (field_product-nil q))
product-append (a ∷ d) p q e =
    let x = times_x block_modulus in let high = times_x_power (length d) (field_product p q) in
    let low = field_product d q in
    field_product-cons a (d ++ p) q e
    ∙ ap (λ r. add (x r) (scaled a q)) (product-append d p q e)
    ∙ ap (λ r. add r (scaled a q)) (times_x-add high low block_modulus
    (same high (length-times_x_power (length d) (field_product p q) (length-field_product p q)))
    (same low (length-field_product d q)))
    ∙ add_assoc (x high) (x low) (scaled a q)
    ∙ ap (add (x high)) (sym (field_product-cons a d q e))

-- ---- x ^ 4 times an element, as the code computes it
even : (m : ℕ) → m + m < 2 ^ 128 → times_x block_modulus (bits 128 (m + m)) ≡ bits 128 m
even m h =
    let none : bit_and (m + m) 1 ≡ 0 = and_mask (m + m) 1 ∙ omega arith in let half : (m + m) / 2 ≡ m = omega arith in
    times_x-bits (m + m) h
    ∙ ap (λ d. add (bits 128 ((m + m) / 2)) (scaled (d == 1) block_modulus)) none
    ∙ add_nil (bits 128 ((m + m) / 2)) ∙ ap (bits 128) half

sixteen_times : (q : ℕ) → q * 2 ^ 4 < 2 ^ 128 → times_x_power 4 (bits 128 (q * 2 ^ 4)) ≡ bits 128 q
sixteen_times q h =
    let x = times_x block_modulus in
    let e8 : q * 2 ^ 4 ≡ (8 * q) + (8 * q) = omega arith in let e4 : 8 * q ≡ (4 * q) + (4 * q) = omega arith in
    let e2 : 4 * q ≡ (2 * q) + (2 * q) = omega arith in let e1 : 2 * q ≡ q + q = omega arith in
    ap (λ n. x (x (x (x (bits 128 n))))) e8
    ∙ ap (λ p. x (x (x p))) (even (8 * q) (omega arith) ∙ ap (bits 128) e4)
    ∙ ap (λ p. x (x p)) (even (4 * q) (omega arith) ∙ ap (bits 128) e2)
    ∙ ap x (even (2 * q) (omega arith) ∙ ap (bits 128) e1)
    ∙ even q (omega arith)

rest_test : all_below 16 (λ r. number_of (times_x_power 4 (bits 128 r)) == get_or RESTS r 0) ≡ true
unfolding all_below bits block_modulus
rest_test = refl

rests : (r : ℕ) → r < 16 → times_x_power 4 (bits 128 r) ≡ bits 128 (get_or RESTS r 0)
rests r h =
    let p = times_x_power 4 (bits 128 r) in
    sym (bits-of_length 128 p (length-times_x_power 4 (bits 128 r) (length-bits 128 r)))
    ∙ ap (bits 128) (eqb-true (number_of p) (get_or RESTS r 0)
    (all_below-at 16 (λ k. number_of (times_x_power 4 (bits 128 k)) == get_or RESTS k 0) rest_test r h))

pub four_steps : (z : ℕ) → z < 2 ^ 128 → bits 128 (bit_xor (z / 2 ^ 4) (get_or RESTS (bit_and z 15) 0))
    ≡ times_x_power 4 (bits 128 z)
four_steps z h =
    let q = z / 2 ^ 4 in let r = z % 2 ^ 4 in
    let low : bit_and z 15 ≡ r = and_mask z 4 in
    let parted : bit_xor (q * 2 ^ 4) r ≡ z = ap (λ n. bit_xor n r) zero_low ∙ apart ∙ whole in
    bits-xor 128 q (get_or RESTS (bit_and z 15) 0)
    ∙ (λ t. add (sym (sixteen_times q (omega arith)) t)
    ((ap (λ k. bits 128 (get_or RESTS k 0)) low ∙ sym (rests r (omega arith))) t))
    ∙ sym (times_x_power-add 4 (bits 128 (q * 2 ^ 4)) (bits 128 r) (length-bits 128 (q * 2 ^ 4)) (length-bits 128 r))
    ∙ ap (times_x_power 4) (sym (bits-xor 128 (q * 2 ^ 4) r) ∙ ap (bits 128) parted)
  where
    zero_low : z / 2 ^ 4 * 2 ^ 4 ≡ z / 2 ^ 4 * 2 ^ 4 + 0
    zero_low = omega arith

    apart : bit_xor (z / 2 ^ 4 * 2 ^ 4 + 0) (z % 2 ^ 4) ≡ z / 2 ^ 4 * 2 ^ 4 + z % 2 ^ 4
    apart =
        let n = z / 2 ^ 4 in let r = z % 2 ^ 4 in
        let shape : r ≡ 0 * 2 ^ 4 + r = omega arith in
        ap (bit_xor (n * 2 ^ 4 + 0)) shape ∙ xor_block 4 n 0 0 r (omega arith) (omega arith)
        ∙ (λ t. xor_zero_r n t * 2 ^ 4 + (xor_comm 0 r ∙ xor_zero_r r) t)

    whole : z / 2 ^ 4 * 2 ^ 4 + z % 2 ^ 4 ≡ z
    whole = shr_split z 4

-- ---- four coefficients more
pub next_four : (left right product next digit entry i : ℕ) → digit ≡ left / 2 ^ (4 * i) % 16
    → bits 128 entry ≡ field_product (bits 4 digit) (bits 128 right)
    → bits 128 product ≡ field_product (bits (4 * i) left) (bits 128 right)
    → bits 128 next ≡ times_x_power 4 (bits 128 product)
    → bits 128 (bit_xor next entry) ≡ field_product (bits (4 * (i + 1)) left) (bits 128 right)
next_four left right product next digit entry i is chosen so_far moved =
    let q = bits 128 right in let high = bits 4 (left / 2 ^ (4 * i)) in
    let longer : 4 + 4 * i ≡ 4 * (i + 1) = omega arith in
    let n = left / 2 ^ (4 * i) in
    let digits : bits 4 digit ≡ high = ap (bits 4) is ∙ sym (bits-low 4 (n / 2 ^ 4) (n % 2 ^ 4))
    ∙ ap (bits 4) (shr_split n 4) in
    bits-xor 128 next entry
    ∙ (λ t. add ((moved ∙ ap (times_x_power 4) so_far) t) ((chosen ∙ ap (λ d. field_product d q) digits) t))
    ∙ ap (λ k. add (times_x_power k (field_product (bits (4 * i) left) q)) (field_product high q))
    (sym (length-bits 4 n))
    ∙ sym (product-append high (bits (4 * i) left) q (length-bits 128 right))
    ∙ ap (λ d. field_product d q) (sym (bits-append 4 (4 * i) left) ∙ ap (λ k. bits k left) longer)

-- ---- the table
module _ (h h1 h2 h3 : ℕ) (e1 : bits 128 h1 ≡ times_x block_modulus (bits 128 h))
    (e2 : bits 128 h2 ≡ times_x block_modulus (bits 128 h1))
    (e3 : bits 128 h3 ≡ times_x block_modulus (bits 128 h2)) where
  Entry : ℕ → ℕ → Type 0
  Entry n x = bits 128 x ≡ field_product (bits 4 n) (bits 128 h)

  once : (z : List Bool) → field_product (true ∷ zeros z) (bits 128 h) ≡ bits 128 h
  unfolding field_product block_modulus
  once z = one_times true modulus_rest z (bits 128 h)
      (Same-length (bits 128 h) (true ∷ modulus_rest) (length-bits 128 h))

  moved : (p : List Bool) → field_product (false ∷ p) (bits 128 h) ≡ times_x block_modulus
      (field_product p (bits 128 h))
  moved p = field_product-cons false p (bits 128 h) (length-bits 128 h)
      ∙ add_nil (times_x block_modulus (field_product p (bits 128 h)))

  entry_0 : Entry 0 0
  unfolding Entry bits field_product block_modulus
  entry_0 = sym (times-zeros true modulus_rest (false ∷ false ∷ false ∷ false ∷ []) (bits 128 h))

  entry_8 : Entry 8 h
  unfolding Entry bits
  entry_8 = sym (once (false ∷ false ∷ false ∷ []))

  entry_4 : Entry 4 h1
  unfolding Entry bits
  entry_4 = e1 ∙ sym (moved (true ∷ false ∷ false ∷ []) ∙ ap (times_x block_modulus) (once (false ∷ false ∷ [])))

  entry_2 : Entry 2 h2
  unfolding Entry bits
  entry_2 =
      let x = times_x block_modulus in
      e2 ∙ ap x e1 ∙ sym (moved (false ∷ true ∷ false ∷ [])
      ∙ ap x (moved (true ∷ false ∷ []) ∙ ap x (once (false ∷ []))))

  entry_1 : Entry 1 h3
  unfolding Entry bits
  entry_1 =
      let x = times_x block_modulus in
      e3 ∙ ap x (e2 ∙ ap x e1) ∙ sym (moved (false ∷ false ∷ true ∷ [])
      ∙ ap x (moved (false ∷ true ∷ []) ∙ ap x (moved (true ∷ []) ∙ ap x (once []))))

  both : (a b n x y : ℕ) → bits 4 n ≡ add (bits 4 a) (bits 4 b) → Entry a x → Entry b y → Entry n (bit_xor x y)
  unfolding Entry
  both a b n x y e f g =
      bits-xor 128 x y ∙ (λ t. add (f t) (g t)) ∙ sym (field_product_add (bits 4 a) (bits 4 b) (bits 128 h))
      ∙ ap (λ d. field_product d (bits 128 h)) (sym e)

  entry_3 : Entry 3 (bit_xor h2 h3)
  unfolding bits
  entry_3 = both 2 1 3 h2 h3 refl entry_2 entry_1

  entry_5 : Entry 5 (bit_xor h1 h3)
  unfolding bits
  entry_5 = both 4 1 5 h1 h3 refl entry_4 entry_1

  entry_6 : Entry 6 (bit_xor h1 h2)
  unfolding bits
  entry_6 = both 4 2 6 h1 h2 refl entry_4 entry_2

  entry_7 : Entry 7 (bit_xor (bit_xor h1 h2) h3)
  unfolding bits
  entry_7 = both 6 1 7 (bit_xor h1 h2) h3 refl entry_6 entry_1

  entry_9 : Entry 9 (bit_xor h h3)
  unfolding bits
  entry_9 = both 8 1 9 h h3 refl entry_8 entry_1

  entry_10 : Entry 10 (bit_xor h h2)
  unfolding bits
  entry_10 = both 8 2 10 h h2 refl entry_8 entry_2

  entry_11 : Entry 11 (bit_xor (bit_xor h h2) h3)
  unfolding bits
  entry_11 = both 10 1 11 (bit_xor h h2) h3 refl entry_10 entry_1

  entry_12 : Entry 12 (bit_xor h h1)
  unfolding bits
  entry_12 = both 8 4 12 h h1 refl entry_8 entry_4

  entry_13 : Entry 13 (bit_xor (bit_xor h h1) h3)
  unfolding bits
  entry_13 = both 12 1 13 (bit_xor h h1) h3 refl entry_12 entry_1

  entry_14 : Entry 14 (bit_xor (bit_xor h h1) h2)
  unfolding bits
  entry_14 = both 12 2 14 (bit_xor h h1) h2 refl entry_12 entry_2

  entry_15 : Entry 15 (bit_xor (bit_xor (bit_xor h h1) h2) h3)
  unfolding bits
  entry_15 = both 14 1 15 (bit_xor (bit_xor h h1) h2) h3 refl entry_14 entry_1

  pub all_entries : AreMultiples (0 ∷ h3 ∷ h2 ∷ bit_xor h2 h3 ∷ h1 ∷ bit_xor h1 h3 ∷ bit_xor h1 h2
      ∷ bit_xor (bit_xor h1 h2) h3 ∷ h
      ∷ bit_xor h h3 ∷ bit_xor h h2 ∷ bit_xor (bit_xor h h2) h3 ∷ bit_xor h h1 ∷ bit_xor (bit_xor h h1) h3
      ∷ bit_xor (bit_xor h h1) h2
      ∷ bit_xor (bit_xor (bit_xor h h1) h2) h3 ∷ []) (bits 128 h)
  unfolding Entry
  all_entries = each_below _ 16 (
    entry_0,
    (
      entry_1,
      (
        entry_2,
        (
          entry_3,
          (
            entry_4,
            (
              entry_5,
              (
                entry_6,
                (
                  entry_7,
                  (
                    entry_8,
                    (
                      entry_9,
                      (
                        entry_10,
                        (entry_11, (entry_12, (entry_13, (entry_14, (entry_15, tt))))),
                      ),
                    ),
                  ),
                ),
              ),
            ),
          ),
        ),
      ),
    ),
  )
