-- Numbers of 128 bits as elements of the field.
use Rattle.std.proofs.Common.{◌≡◌, ℕ, zero, suc, ◌+◌, ◌*◌, ◌/◌, ◌%◌, ◌^◌, ◌<◌, false, ◌==◌, List, [], ◌∷◌, ◌++◌}
use Rattle.std.proofs.Common.{length, get_or, take, drop, bit_and, bit_xor, refl, sym, ◌∙◌, ap, subst, arith}
use Rattle.std.specs.Int.{w128, byte_at, bytes_high_first, from_be_bytes}
use Rattle.std.proofs.lemmas.Nat.{shr-shr, shr_split, and_mask, xor_shr, xor_mod}
use Rattle.std.proofs.lemmas.Nat.{pow-add, pow_pos, mod_below, mul-add-lt}
use Rattle.std.proofs.Math.Nat.{pow-suc}
use Rattle.std.proofs.lemmas.Nat.Bits.{bit_at_above, bit_at_lowest}
use Rattle.seal_model.specs.Polynomial.{add, scaled, but_last, last_of, times_x, bit, bits, number_of}
use Rattle.seal_model.specs.Bytes.{xor_bytes}
use Rattle.seal_model.specs.Gcm.{block_modulus, polynomial_of, bytes_of}
use Rattle.seal_model.proofs.Lists.{AreBytes, are_bytes, bytes_from, bytes_from-is}
use Rattle.seal_model.proofs.Bits.{bits-low, bits-cat, number_of-bits}
use Rattle.seal_model.proofs.BlockField.{take_bits, drop_bits}

-- ---- x times an element
but_last-bits : (n x : ℕ) → but_last (bit x n) (bits n x) ≡ bits n (x / 2)
unfolding bits
but_last-bits zero x = refl
but_last-bits (suc n) x =
    let moved : bit x (suc n) ≡ bit (x / 2) n =
    ap (λ d. d % 2 == 1) (ap (λ k. x / 2 ^ k) (omega arith) ∙ sym (shr-shr x 1 n)) in
    λ i. moved i ∷ but_last-bits n x i

last_of-bits : (n x : ℕ) → last_of (bit x n) (bits n x) ≡ bit x 0
unfolding bits
last_of-bits zero x = refl
last_of-bits (suc n) x = last_of-bits n x

pub times_x-bits : (x : ℕ) → x < 2 ^ 128
    → times_x block_modulus (bits 128 x) ≡ add (bits 128 (x / 2)) (scaled (bit_and x 1 == 1) block_modulus)
times_x-bits x h =
    let none : bit x 128 ≡ false = ap (λ d. d == 1) (bit_at_above x 128 128 h (omega arith)) in
    let lowest : bit x 0 ≡ (bit_and x 1 == 1) = ap (λ d. d == 1) (bit_at_lowest x ∙ sym (and_mask x 1)) in
    ap (λ b. add (but_last b (bits 128 x)) (scaled (last_of b (bits 128 x)) block_modulus)) (sym none)
    ∙ (λ i. add (but_last-bits 128 x i) (scaled ((last_of-bits 128 x ∙ lowest) i) block_modulus))

pub modulus_bits : bits 128 0xe1000000000000000000000000000000 ≡ block_modulus
unfolding bits block_modulus
modulus_bits = refl

-- ---- bytes
value : List ℕ → ℕ
value [] = 0
value (b ∷ s) = b * 2 ^ (8 * length s) + value s

value-lt : (s : List ℕ) → AreBytes s → value s < 2 ^ (8 * length s)
unfolding value
value-lt [] h = omega arith
value-lt (b ∷ s) h =
    subst (λ k. b * 2 ^ (8 * length s) + value s < k)
    (sym (pow-add 2 (8 * length s) 8) ∙ ap (λ k. 2 ^ k) (omega arith))
    (mul-add-lt b (2 ^ (8 * length s)) (value s) 256 h.0 (value-lt s h.1))

bits-value : (s : List ℕ) → AreBytes s → bits (8 * length s) (value s) ≡ polynomial_of s
unfolding value polynomial_of bits
bits-value [] h = refl
bits-value (b ∷ s) h =
    ap (λ k. bits k (b * 2 ^ (8 * length s) + value s)) (omega arith)
    ∙ bits-cat 8 (8 * length s) b (value s) (value-lt s h.1) ∙ ap (λ t. bits 8 b ++ t) (bits-value s h.1)

pub bits-from_be_bytes : (s : List ℕ) → length s ≡ 16 → ((i : ℕ) → get_or s i 0 < 256)
    → bits 128 (from_be_bytes w128 s) ≡ polynomial_of s
unfolding value bytes_from
bits-from_be_bytes s e h =
    let same : bytes_from 16 0 s ≡ s = bytes_from-is 16 0 s (sym e) in
    let number : from_be_bytes w128 s ≡ value (bytes_from 16 0 s) = omega arith in
    ap (bits 128) (number ∙ ap value same) ∙ ap (λ n. bits (8 * n) (value s)) (sym e) ∙ bits-value s (are_bytes s h)

pow_of_256 : (k : ℕ) → 256 ^ k ≡ 2 ^ (8 * k)
pow_of_256 zero = refl
pow_of_256 (suc k) =
    pow-suc 256 k ∙ ap (λ x. x * 256) (pow_of_256 k) ∙ sym (pow-add 2 (8 * k) 8) ∙ ap (λ j. 2 ^ j) (omega arith)

byte_at-is : (k n : ℕ) → byte_at k n ≡ n / 2 ^ (8 * k) % 256
byte_at-is zero n = omega arith
byte_at-is (suc k) n = ap (λ p. n / p % 256) (pow_of_256 (suc k))

pub bits-append : (m k n : ℕ) → bits (m + k) n ≡ bits m (n / 2 ^ k) ++ bits k n
bits-append m k n =
    let q = n / 2 ^ k in let r = n % 2 ^ k in let whole = shr_split n k in
    ap (bits (m + k)) (sym whole) ∙ bits-cat m k q r (mod_below n (2 ^ k) (pow_pos k))
    ∙ ap (λ t. bits m q ++ t) (sym (bits-low k q r) ∙ ap (bits k) whole)

pub bytes_of-bits : (k n : ℕ) → bytes_of k (bits (8 * k) n) ≡ bytes_high_first k n
unfolding bytes_of
bytes_of-bits zero n = refl
bytes_of-bits (suc k) n =
    let q = n / 2 ^ (8 * k) in
    let length_is : 8 * suc k ≡ 8 + 8 * k = omega arith in
    let parted = ap (λ j. bits j n) length_is ∙ bits-append 8 (8 * k) n in
    λ i. (ap (λ p. number_of (take 8 p)) parted ∙ ap number_of (take_bits q (bits (8 * k) n)) ∙ number_of-bits 8 q
    ∙ sym (byte_at-is k n)) i
    ∷ (ap (λ p. bytes_of k (drop 8 p)) parted ∙ ap (bytes_of k) (drop_bits q (bits (8 * k) n)) ∙ bytes_of-bits k n) i

byte_at-xor : (k a b : ℕ) → byte_at k (bit_xor a b) ≡ bit_xor (byte_at k a) (byte_at k b)
byte_at-xor k a b =
    byte_at-is k (bit_xor a b) ∙ ap (λ x. x % 256) (xor_shr a b (8 * k))
    ∙ xor_mod (a / 2 ^ (8 * k)) (b / 2 ^ (8 * k)) 8
    ∙ (λ i. bit_xor (sym (byte_at-is k a) i) (sym (byte_at-is k b) i))

pub bytes_high_first-xor : (k a b : ℕ)
    → bytes_high_first k (bit_xor a b) ≡ xor_bytes (bytes_high_first k a) (bytes_high_first k b)
bytes_high_first-xor zero a b = refl
bytes_high_first-xor (suc k) a b = λ i. byte_at-xor k a b i ∷ bytes_high_first-xor k a b i
