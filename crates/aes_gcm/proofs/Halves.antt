-- Elements in two halves of 64 bits: x times an element, a choice, and a product by half of a factor.
use Rattle.std.proofs.Common.{◌≡◌, ℕ, ◌+◌, ◌*◌, ◌/◌, ◌%◌, ◌^◌, ◌<◌, cond, Bool, true, false, ◌==◌, List, [], ◌++◌}
use Rattle.std.proofs.Common.{length, bit_and, bit_or, bit_xor, refl, sym, ◌∙◌, ap, arith, add-one}
use Rattle.std.specs.Int.Bits.{xor_zero_r, or_shifted_r}
use Rattle.std.proofs.lemmas.List.{append-nil}
use Rattle.std.proofs.lemmas.Nat.{and_mask, xor_block, mul-add-lt}
use Rattle.seal_model.specs.Polynomial.{add, scaled, times_x, bit, bits}
use Rattle.seal_model.specs.Gcm.{block_modulus, field_product}
use Rattle.seal_model.specs.Lanes.{where_set}
use Rattle.seal_model.proofs.Algebra.{add_nil}
use Rattle.seal_model.proofs.Bits.{bits-xor, bits-cat, length-bits}
use Rattle.seal_model.proofs.BlockField.{add_none, field_product-cons}
use Rattle.aes_gcm.specs.Lanes.{joined}
use Rattle.aes_gcm.proofs.Numbers.{modulus_bits, times_x-bits}

-- a number or nothing, added
chosen : (b : Bool) (p : List Bool) (n : ℕ) → length p ≡ 128
    → add p (bits 128 (cond b n 0)) ≡ add p (scaled b (bits 128 n))
unfolding bits
chosen true p n e = refl
chosen false p n e = add_none p e ∙ sym (add_nil p)

both_chosen : (b : Bool) (h l : ℕ) → joined (cond b h 0) (cond b l 0) ≡ cond b (joined h l) 0
both_chosen true h l = refl
both_chosen false h l = refl

cond-lt : (b : Bool) (l : ℕ) → l < 2 ^ 64 → cond b l 0 < 2 ^ 64
cond-lt true l p = p
cond-lt false l p = omega arith

-- halves added are numbers added
joined-xor : (h l k m : ℕ) → l < 2 ^ 64 → m < 2 ^ 64
    → joined (bit_xor h k) (bit_xor l m) ≡ bit_xor (joined h l) (joined k m)
joined-xor h l k m p q = sym (xor_block 64 h k l m p q)

-- an element added where a test says so
pub added_where : (b : Bool) (h l k m : ℕ) → l < 2 ^ 64 → m < 2 ^ 64
    → bits 128 (joined (bit_xor h (cond b k 0)) (bit_xor l (cond b m 0))) ≡ add (bits 128 (joined h l))
    (scaled b (bits 128 (joined k m)))
added_where b h l k m p q =
    ap (bits 128) (joined-xor h l (cond b k 0) (cond b m 0) p (cond-lt b m q)
    ∙ ap (bit_xor (joined h l)) (both_chosen b k m))
    ∙ bits-xor 128 (joined h l) (cond b (joined k m) 0)
    ∙ chosen b (bits 128 (joined h l)) (joined k m) (length-bits 128 (joined h l))

-- x times an element, as the code computes it
pub moved_on : (h l : ℕ) → h < 2 ^ 64 → l < 2 ^ 64
    → bits 128 (joined (bit_xor (h / 2 ^ 1) (where_set l 1 0xe100000000000000))
    (bit_or (l / 2 ^ 1) (h * 2 ^ 63 % 2 ^ 64)))
    ≡ times_x block_modulus (bits 128 (joined h l))
moved_on h l p q =
    let x = joined h l in let b = bit_and l 1 == 1 in
    let low = h % 2 * 2 ^ 63 + l / 2 in
    let parts : bit_or (l / 2 ^ 1) (h * 2 ^ 63 % 2 ^ 64) ≡ low = ap (bit_or (l / 2 ^ 1)) on_top
    ∙ or_shifted_r (h % 2) 63 (l / 2) (omega arith) in
    let whole : joined (h / 2 ^ 1) low ≡ x / 2 = omega arith in
    let lowest : bit_and l 1 ≡ bit_and x 1 = and_mask l 1 ∙ omega arith ∙ sym (and_mask x 1) in
    ap (λ n. bits 128 (joined (bit_xor (h / 2 ^ 1) (cond b 0xe100000000000000 0)) n)) (parts ∙ sym (xor_zero_r low))
    ∙ ap (bits 128) (joined-xor (h / 2 ^ 1) low (cond b 0xe100000000000000 0) 0 (omega arith) (omega arith))
    ∙ bits-xor 128 (joined (h / 2 ^ 1) low) (joined (cond b 0xe100000000000000 0) 0)
    ∙ (λ t. add (bits 128 (whole t)) (bits 128 (modulus b t)))
    ∙ chosen b (bits 128 (x / 2)) 0xe1000000000000000000000000000000 (length-bits 128 (x / 2))
    ∙ (λ t. add (bits 128 (x / 2)) (scaled (lowest t == 1) (modulus_bits t)))
    ∙ sym (times_x-bits x (mul-add-lt h (2 ^ 64) l (2 ^ 64) p q))
  where
    on_top : h * 2 ^ 63 % 2 ^ 64 ≡ h % 2 * 2 ^ 63
    on_top = omega arith

    modulus : (b : Bool) → joined (cond b 0xe100000000000000 0) 0 ≡ cond b 0xe1000000000000000000000000000000 0
    modulus true = refl
    modulus false = refl

-- one coefficient more of half of a factor
pub coefficient_more : (q before : List Bool) (half i product next after : ℕ) → length q ≡ 128
    → bits 128 product ≡ field_product (bits i half ++ before) q
    → bits 128 next ≡ times_x block_modulus (bits 128 product)
    → bits 128 after ≡ add (bits 128 next) (scaled (bit half i) q)
    → bits 128 after ≡ field_product (bits (i + 1) half ++ before) q
unfolding bits
coefficient_more q before half i product next after long so_far moved is =
    is
    ∙ ap (λ p. add p (scaled (bit half i) q)) (moved ∙ ap (times_x block_modulus) so_far)
    ∙ sym (field_product-cons (bit half i) (bits i half ++ before) q long)
    ∙ ap (λ k. field_product (bits k half ++ before) q) (sym (add-one i))

-- the coefficients of both halves
pub whole_factor : (h l : ℕ) → l < 2 ^ 64 → bits 64 h ++ (bits 64 l ++ []) ≡ bits 128 (joined h l)
whole_factor h l q = ap (λ s. bits 64 h ++ s) (append-nil (bits 64 l)) ∙ sym (bits-cat 64 64 h l q)

-- the product by no coefficient
pub no_factor : (q : List Bool) → bits 128 (joined 0 0) ≡ field_product [] q
unfolding bits field_product block_modulus
no_factor q = refl

-- eight numbers added
pub xor_of_eight : (a b c d e f g h : ℕ)
    → bits 128 (bit_xor a (bit_xor b (bit_xor c (bit_xor d (bit_xor e (bit_xor f (bit_xor g h)))))))
    ≡ add (bits 128 a) (add (bits 128 b) (add (bits 128 c) (add (bits 128 d) (add (bits 128 e) (add (bits 128 f)
    (add (bits 128 g) (bits 128 h)))))))
xor_of_eight a b c d e f g h =
    bits-xor 128 a _ ∙ ap (add (bits 128 a))
    (bits-xor 128 b _ ∙ ap (add (bits 128 b))
    (bits-xor 128 c _ ∙ ap (add (bits 128 c))
    (bits-xor 128 d _ ∙ ap (add (bits 128 d))
    (bits-xor 128 e _ ∙ ap (add (bits 128 e))
    (bits-xor 128 f _ ∙ ap (add (bits 128 f)) (bits-xor 128 g h))))))
