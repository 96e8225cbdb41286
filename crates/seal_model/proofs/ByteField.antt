-- The field of bytes.
use Rattle.std.proofs.Common.{◌≡◌, ◌≢◌, ℕ, zero, suc, ◌%◌, ◌^◌, ◌<◌, Bool, true, false, cond, ◌==◌, ◌&&◌, ◌||◌}
use Rattle.std.proofs.Common.{nat_lt, List, [], ◌∷◌, ◌++◌, length, reverse, bit_xor, slice_index, refl, sym, ◌∙◌, ap}
use Rattle.std.proofs.Common.{subst, ◌⊎◌, inl, inr, arith}
use Rattle.std.proofs.lemmas.List.{length-reverse, reverse-reverse, reverse-append}
use Rattle.std.proofs.lemmas.Nat.{xor_of_8}
use Rattle.std.proofs.lemmas.Bool.{eqb-true, eq-eqb, ne_eqb, ltb-true, cases_lt, false≢true}
use Rattle.seal_model.specs.Polynomial.{plus, add, zeros, product, bits, number_of}
use Rattle.seal_model.specs.Aes.{polynomial_of, byte_modulus, multiply, inverse_below, inverse, affine, s_box}
use Rattle.seal_model.specs.Laws.{Commutative, Associative, Distributive, IsClosed}
use Rattle.seal_model.specs.Laws.{IsOne, IsByte, IsByteField, SBoxValues}
use Rattle.seal_model.proofs.Algebra.{Same, none, more, times, Same-remainder}
use Rattle.seal_model.proofs.Algebra.{times_comm, times_assoc, times-add, one_times}
use Rattle.seal_model.proofs.Bits.{Same-length, length-Same, bits-xor, length-bits}
use Rattle.seal_model.proofs.Bits.{number_of-lt, bits-of_length, number_of-bits}

-- the modulus without its first coefficient
abbrev modulus_rest : List Bool
modulus_rest = true ∷ false ∷ true ∷ true ∷ false ∷ false ∷ false ∷ []

abbrev ring_product : List Bool → List Bool → List Bool
ring_product = times (true ∷ modulus_rest)

length-product : (p q : List Bool) → length (ring_product p q) ≡ 8
length-product p q =
    length-Same (ring_product p q) (true ∷ modulus_rest) (Same-remainder true modulus_rest (product p q))

multiply-is : (a b : ℕ) → multiply a b ≡ number_of (reverse (ring_product (polynomial_of a) (polynomial_of b)))
unfolding multiply byte_modulus
multiply-is a b = refl

polynomial_of-multiply : (a b : ℕ) → polynomial_of (multiply a b) ≡ ring_product (polynomial_of a) (polynomial_of b)
unfolding polynomial_of
polynomial_of-multiply a b =
    let r = ring_product (polynomial_of a) (polynomial_of b) in
    ap (λ n. reverse (bits 8 n)) (multiply-is a b)
    ∙ ap reverse (bits-of_length 8 (reverse r) (length-reverse r ∙ length-product (polynomial_of a) (polynomial_of b)))
    ∙ reverse-reverse r

add-append : (p q r s : List Bool) → Same p q → add (p ++ r) (q ++ s) ≡ add p q ++ add r s
add-append _ _ r s none = refl
add-append (a ∷ p) (b ∷ q) r s (more e) = ap (λ x. plus a b ∷ x) (add-append p q r s e)

reverse-add : (p q : List Bool) → Same p q → reverse (add p q) ≡ add (reverse p) (reverse q)
reverse-add _ _ none = refl
reverse-add (a ∷ p) (b ∷ q) (more e) =
    reverse-append (plus a b ∷ []) (add p q) ∙ ap (λ x. x ++ plus a b ∷ []) (reverse-add p q e)
    ∙ sym (add-append (reverse p) (reverse q) (a ∷ []) (b ∷ [])
    (Same-length (reverse p) (reverse q) (length-reverse p ∙ length-Same p q e ∙ sym (length-reverse q))))
    ∙ (λ i. add (sym (reverse-append (a ∷ []) p) i) (sym (reverse-append (b ∷ []) q) i))

polynomial_of-xor : (a b : ℕ) → polynomial_of (bit_xor a b) ≡ add (polynomial_of a) (polynomial_of b)
unfolding polynomial_of
polynomial_of-xor a b =
    ap reverse (bits-xor 8 a b)
    ∙ reverse-add (bits 8 a) (bits 8 b) (Same-length (bits 8 a) (bits 8 b) (length-bits 8 a ∙ sym (length-bits 8 b)))

length-polynomial_of : (a : ℕ) → length (polynomial_of a) ≡ 8
unfolding polynomial_of
length-polynomial_of a = length-reverse (bits 8 a) ∙ length-bits 8 a

same_byte : (a b : ℕ) → a < 256 → b < 256 → polynomial_of a ≡ polynomial_of b → a ≡ b
unfolding polynomial_of
same_byte a b h g e =
    let same : bits 8 a ≡ bits 8 b = sym (reverse-reverse (bits 8 a)) ∙ ap reverse e ∙ reverse-reverse (bits 8 b) in
    let mods : a % 256 ≡ b % 256 = sym (number_of-bits 8 a) ∙ ap number_of same ∙ number_of-bits 8 b in
    omega arith

pub multiply-lt : IsClosed IsByte multiply
multiply-lt a b =
    let r = ring_product (polynomial_of a) (polynomial_of b) in
    subst (λ n. n < 256) (sym (multiply-is a b))
    (subst (λ k. number_of (reverse r) < 2 ^ k)
    (length-reverse r ∙ length-product (polynomial_of a) (polynomial_of b)) (number_of-lt (reverse r)))

pub multiply_comm : Commutative multiply
multiply_comm a b =
    multiply-is a b
    ∙ ap (λ p. number_of (reverse p)) (times_comm true modulus_rest (polynomial_of a) (polynomial_of b))
    ∙ sym (multiply-is b a)

pub multiply_assoc : Associative multiply
multiply_assoc a b c =
    same_byte (multiply (multiply a b) c) (multiply a (multiply b c)) (multiply-lt (multiply a b) c)
    (multiply-lt a (multiply b c))
    (polynomial_of-multiply (multiply a b) c ∙ ap (λ p. ring_product p (polynomial_of c)) (polynomial_of-multiply a b)
    ∙ times_assoc true modulus_rest (polynomial_of a) (polynomial_of b) (polynomial_of c)
    ∙ ap (ring_product (polynomial_of a)) (sym (polynomial_of-multiply b c))
    ∙ sym (polynomial_of-multiply a (multiply b c)))

pub multiply-xor : Distributive multiply bit_xor
multiply-xor a b c =
    same_byte (multiply a (bit_xor b c)) (bit_xor (multiply a b) (multiply a c))
    (multiply-lt a (bit_xor b c)) (xor_of_8 (multiply a b) (multiply a c) (multiply-lt a b) (multiply-lt a c))
    (polynomial_of-multiply a (bit_xor b c) ∙ ap (ring_product (polynomial_of a)) (polynomial_of-xor b c)
    ∙ times-add true modulus_rest (polynomial_of a) (polynomial_of b) (polynomial_of c)
    ∙ (λ i. add (sym (polynomial_of-multiply a b) i) (sym (polynomial_of-multiply a c) i))
    ∙ sym (polynomial_of-xor (multiply a b) (multiply a c)))

polynomial_of-one : polynomial_of 1 ≡ true ∷ zeros modulus_rest
unfolding polynomial_of bits
polynomial_of-one = refl

pub one_multiply : IsOne IsByte multiply 1
one_multiply a h =
    same_byte (multiply 1 a) a (multiply-lt 1 a) h
    (polynomial_of-multiply 1 a ∙ ap (λ p. ring_product p (polynomial_of a)) polynomial_of-one
    ∙ one_times true modulus_rest modulus_rest (polynomial_of a)
    (Same-length (polynomial_of a) (true ∷ modulus_rest) (length-polynomial_of a)))

-- ---- inverses
-- a test of each number below n
unfoldable pub all_below : ℕ → (ℕ → Bool) → Bool
all_below zero test = true
all_below (suc n) test = test n && all_below n test

both_true : (a b : Bool) → (a && b) ≡ true → (a ≡ true) × (b ≡ true)
both_true true b e = (refl, e)
both_true false b e = cc

pub all_below-at : (n : ℕ) (test : ℕ → Bool) → all_below n test ≡ true → (k : ℕ) → k < n → test k ≡ true
unfolding all_below
all_below-at zero test e k h = absurd (omega arith)
all_below-at (suc n) test e k h =
    elim (cases_lt k n) [
      | inl below ↦ all_below-at n test (both_true (test n) (all_below n test) e).1 k below
      | inr above ↦ let same : n ≡ k = omega arith in
          subst (λ m. test m ≡ true) same (both_true (test n) (all_below n test) e).0
    ]

-- the inverse of each byte
unfoldable pub inverse_table : List ℕ
inverse_table =
    0 ∷ 1 ∷ 141 ∷ 246 ∷ 203 ∷ 82 ∷ 123 ∷ 209 ∷ 232 ∷ 79 ∷ 41 ∷ 192 ∷ 176 ∷ 225 ∷ 229 ∷ 199 ∷
    116 ∷ 180 ∷ 170 ∷ 75 ∷ 153 ∷ 43 ∷ 96 ∷ 95 ∷ 88 ∷ 63 ∷ 253 ∷ 204 ∷ 255 ∷ 64 ∷ 238 ∷ 178 ∷
    58 ∷ 110 ∷ 90 ∷ 241 ∷ 85 ∷ 77 ∷ 168 ∷ 201 ∷ 193 ∷ 10 ∷ 152 ∷ 21 ∷ 48 ∷ 68 ∷ 162 ∷ 194 ∷
    44 ∷ 69 ∷ 146 ∷ 108 ∷ 243 ∷ 57 ∷ 102 ∷ 66 ∷ 242 ∷ 53 ∷ 32 ∷ 111 ∷ 119 ∷ 187 ∷ 89 ∷ 25 ∷
    29 ∷ 254 ∷ 55 ∷ 103 ∷ 45 ∷ 49 ∷ 245 ∷ 105 ∷ 167 ∷ 100 ∷ 171 ∷ 19 ∷ 84 ∷ 37 ∷ 233 ∷ 9 ∷
    237 ∷ 92 ∷ 5 ∷ 202 ∷ 76 ∷ 36 ∷ 135 ∷ 191 ∷ 24 ∷ 62 ∷ 34 ∷ 240 ∷ 81 ∷ 236 ∷ 97 ∷ 23 ∷
    22 ∷ 94 ∷ 175 ∷ 211 ∷ 73 ∷ 166 ∷ 54 ∷ 67 ∷ 244 ∷ 71 ∷ 145 ∷ 223 ∷ 51 ∷ 147 ∷ 33 ∷ 59 ∷
    121 ∷ 183 ∷ 151 ∷ 133 ∷ 16 ∷ 181 ∷ 186 ∷ 60 ∷ 182 ∷ 112 ∷ 208 ∷ 6 ∷ 161 ∷ 250 ∷ 129 ∷ 130 ∷
    131 ∷ 126 ∷ 127 ∷ 128 ∷ 150 ∷ 115 ∷ 190 ∷ 86 ∷ 155 ∷ 158 ∷ 149 ∷ 217 ∷ 247 ∷ 2 ∷ 185 ∷ 164 ∷
    222 ∷ 106 ∷ 50 ∷ 109 ∷ 216 ∷ 138 ∷ 132 ∷ 114 ∷ 42 ∷ 20 ∷ 159 ∷ 136 ∷ 249 ∷ 220 ∷ 137 ∷ 154 ∷
    251 ∷ 124 ∷ 46 ∷ 195 ∷ 143 ∷ 184 ∷ 101 ∷ 72 ∷ 38 ∷ 200 ∷ 18 ∷ 74 ∷ 206 ∷ 231 ∷ 210 ∷ 98 ∷
    12 ∷ 224 ∷ 31 ∷ 239 ∷ 17 ∷ 117 ∷ 120 ∷ 113 ∷ 165 ∷ 142 ∷ 118 ∷ 61 ∷ 189 ∷ 188 ∷ 134 ∷ 87 ∷
    11 ∷ 40 ∷ 47 ∷ 163 ∷ 218 ∷ 212 ∷ 228 ∷ 15 ∷ 169 ∷ 39 ∷ 83 ∷ 4 ∷ 27 ∷ 252 ∷ 172 ∷ 230 ∷
    122 ∷ 7 ∷ 174 ∷ 99 ∷ 197 ∷ 219 ∷ 226 ∷ 234 ∷ 148 ∷ 139 ∷ 196 ∷ 213 ∷ 157 ∷ 248 ∷ 144 ∷ 107 ∷
    177 ∷ 13 ∷ 214 ∷ 235 ∷ 198 ∷ 14 ∷ 207 ∷ 173 ∷ 8 ∷ 78 ∷ 215 ∷ 227 ∷ 93 ∷ 80 ∷ 30 ∷ 179 ∷
    91 ∷ 35 ∷ 56 ∷ 52 ∷ 104 ∷ 70 ∷ 3 ∷ 140 ∷ 221 ∷ 156 ∷ 125 ∷ 160 ∷ 205 ∷ 26 ∷ 65 ∷ 28 ∷ []

-- the byte that the table has for x
abbrev pub table_inverse : ℕ → ℕ
table_inverse x = slice_index inverse_table x

table_test : all_below 256 (λ x. nat_lt (table_inverse x) 256 && (x == 0 || multiply x (table_inverse x) == 1)) ≡ true
unfolding all_below multiply byte_modulus polynomial_of bits inverse_table
table_test = refl

-- the table's entry is a byte, and an inverse
record Inverse (x y : ℕ) : Type 0 where
  fits : y < 256
  is_one : multiply x y ≡ 1

in_table : (x : ℕ) → x < 256 → x ≢ 0 → Inverse x (table_inverse x)
in_table x h nonzero =
    let passed = both_true _ _
    (all_below-at 256
    (λ k. nat_lt (table_inverse k) 256 && (k == 0 || multiply k (table_inverse k) == 1)) table_test x h) in
    record {
      fits = ltb-true (table_inverse x) 256 passed.0;
      is_one =
          eqb-true (multiply x (table_inverse x)) 1
          (subst (λ b. (b || multiply x (table_inverse x) == 1) ≡ true) (ne_eqb x 0 nonzero) passed.1);
    }

inverse_unique : (x y z : ℕ) → y < 256 → z < 256 → multiply x y ≡ 1 → multiply x z ≡ 1 → y ≡ z
inverse_unique x y z h g e f =
    sym (one_multiply y h) ∙ ap (λ n. multiply n y) (sym f ∙ multiply_comm x z) ∙ multiply_assoc z x y
    ∙ ap (multiply z) e ∙ multiply_comm z 1 ∙ one_multiply z g

chosen : (test : Bool) (y other x : ℕ) → (multiply x y == 1) ≡ test
    → (multiply x (cond test y other) ≡ 1) ⊎ (test ≡ false)
chosen true y other x e = inl (eqb-true (multiply x y) 1 e)
chosen false y other x e = inr refl

inverse_below-found : (n x y : ℕ) → y < n → multiply x y ≡ 1 → multiply x (inverse_below n x) ≡ 1
unfolding inverse_below
inverse_below-found zero x y h e = absurd (omega arith)
inverse_below-found (suc n) x y h e =
    elim (chosen (multiply x n == 1) n (inverse_below n x) x refl) [
      | inl found ↦ found
      | inr other ↦
          let not_last : y ≢ n =
          λ same. elim (false≢true (sym other ∙ eq-eqb (multiply x n) 1 (ap (multiply x) (sym same) ∙ e))) [ ] in
          subst (λ b. multiply x (cond b n (inverse_below n x)) ≡ 1) (sym other)
          (inverse_below-found n x y (omega arith) e)
    ]

inverse_below-lt : (n x : ℕ) → 0 < n → inverse_below n x < n
unfolding inverse_below
inverse_below-lt zero x h = absurd (omega arith)
inverse_below-lt (suc zero) x h =
    elim (multiply x 0 == 1) as (λ b. cond b 0 0 < 1) [ true ↦ omega arith | false ↦ omega arith ]
inverse_below-lt (suc (suc n)) x h =
    let below = inverse_below-lt (suc n) x (omega arith) in
    elim (multiply x (suc n) == 1) as (λ b. cond b (suc n) (inverse_below (suc n) x) < suc (suc n)) [
      | true ↦ omega arith
      | false ↦ omega arith
    ]

inverse-zero : inverse 0 ≡ 0
unfolding inverse inverse_below multiply byte_modulus polynomial_of bits
inverse-zero = refl

pub byte_field : IsByteField
unfolding inverse
byte_field = record {
  closed = multiply-lt;
  inverse_closed = λ x. inverse_below-lt 256 x (omega arith);
  commutative = multiply_comm;
  associative = multiply_assoc;
  distributive = multiply-xor;
  has_one = one_multiply;
  has_inverses = λ x h nonzero.
      let entry = in_table x h nonzero in
      inverse_below-found 256 x (table_inverse x) entry.fits entry.is_one;
  inverse_of_zero = inverse-zero;
}

pub inverse-table : (x : ℕ) → x < 256 → inverse x ≡ table_inverse x
unfolding inverse_table
inverse-table zero h = inverse-zero
inverse-table (suc x) h =
    let nonzero : suc x ≢ 0 = omega arith in let entry = in_table (suc x) h nonzero in
    inverse_unique (suc x) (inverse (suc x)) (table_inverse (suc x)) (byte_field.inverse_closed (suc x)) entry.fits
    (byte_field.has_inverses (suc x) h nonzero) entry.is_one

-- the S-box, with the table's inverse
pub s_box-table : (x : ℕ) → x < 256 → s_box x ≡ affine (table_inverse x)
unfolding s_box
s_box-table x h = ap affine (inverse-table x h)

pub s_box_values : SBoxValues
unfolding affine inverse_table
s_box_values = record {
  at_00 = s_box-table 0x00 (omega arith);
  at_01 = s_box-table 0x01 (omega arith);
  at_53 = s_box-table 0x53 (omega arith);
  at_ff = s_box-table 0xff (omega arith);
}
