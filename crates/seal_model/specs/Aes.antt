-- AES-256 (FIPS 197 of 2001). A block is 4 by 4 bytes, written column by column; section numbers are the standard's.
use Rattle.std.specs.Prelude.{ℕ, zero, suc, ◌+◌, ◌-◌, ◌*◌, ◌/◌, ◌%◌, Bool, true, false, if◌then◌else◌, ◌==◌, nat_lt}
use Rattle.std.specs.Prelude.{List, [], ◌∷◌, ◌++◌, map, reverse, bit_xor, slice_index, slice_index_or}
use Rattle.seal_model.specs.Polynomial.{plus, product, remainder, bit, bits, number_of}
use Rattle.seal_model.specs.Bytes.{xor_bytes}

-- a byte as a polynomial: bit i is the coefficient of x ^ i (4)
unfoldable pub polynomial_of : ℕ → List Bool
polynomial_of b = reverse (bits 8 b)

-- x ^ 4 + x ^ 3 + x + 1, what is left of the field's polynomial without x ^ 8 (4.2)
unfoldable pub byte_modulus : List Bool
byte_modulus = true ∷ true ∷ false ∷ true ∷ true ∷ false ∷ false ∷ false ∷ []

-- the product of two bytes in the field: the remainder of the carry-less product (4.2)
unfoldable pub multiply : ℕ → ℕ → ℕ
multiply a b = number_of (reverse (remainder byte_modulus (product (polynomial_of a) (polynomial_of b))))

-- x to the power n
unfoldable pub byte_power : ℕ → ℕ → ℕ
byte_power x zero = 1
byte_power x (suc n) = multiply (byte_power x n) x

-- the largest y below n with x y = 1, or 0 where there is none
unfoldable pub inverse_below : ℕ → ℕ → ℕ
inverse_below zero x = 0
inverse_below (suc y) x = if multiply x y == 1 then y else inverse_below y x

-- the inverse of a byte: the y with x y = 1, and 0 for 0 (4.2)
unfoldable pub inverse : ℕ → ℕ
inverse x = inverse_below 256 x

-- bit i of the affine map, with the constant 63 (5.1.1)
abbrev pub affine_bit : ℕ → ℕ → Bool
affine_bit b i =
    plus (bit b i) (plus (bit b ((i + 4) % 8)) (plus (bit b ((i + 5) % 8)) (plus (bit b ((i + 6) % 8))
    (plus (bit b ((i + 7) % 8)) (bit 0x63 i)))))

-- the affine map of a byte (5.1.1)
unfoldable pub affine : ℕ → ℕ
affine b = number_of (map (affine_bit b) (7 ∷ 6 ∷ 5 ∷ 4 ∷ 3 ∷ 2 ∷ 1 ∷ 0 ∷ []))

-- the S-box: the inverse, and then the affine map (5.1.1)
unfoldable pub s_box : ℕ → ℕ
s_box b = affine (inverse b)

-- the byte of row r and column c of a block (3.4)
abbrev pub at : List ℕ → ℕ → ℕ → ℕ
at block r c = slice_index block (r + 4 * c)

-- the block whose byte of row r and column c is f r c
abbrev pub block_of : (ℕ → ℕ → ℕ) → List ℕ
block_of f =
    f 0 0 ∷ f 1 0 ∷ f 2 0 ∷ f 3 0 ∷ f 0 1 ∷ f 1 1 ∷ f 2 1 ∷ f 3 1
    ∷ f 0 2 ∷ f 1 2 ∷ f 2 2 ∷ f 3 2 ∷ f 0 3 ∷ f 1 3 ∷ f 2 3 ∷ f 3 3 ∷ []

-- SubBytes (5.1.1)
abbrev pub sub_bytes : List ℕ → List ℕ
sub_bytes = map s_box

-- ShiftRows: row r moves to the left by r places (5.1.2)
unfoldable pub shift_rows : List ℕ → List ℕ
shift_rows block = block_of (λ r c. at block r ((c + r) % 4))

-- a byte of MixColumns, from the bytes a, b, c, d of its column, of which a is in its row (5.1.3)
abbrev pub mixed_byte : ℕ → ℕ → ℕ → ℕ → ℕ
mixed_byte a b c d = bit_xor (multiply 2 a) (bit_xor (multiply 3 b) (bit_xor c d))

-- MixColumns (5.1.3)
unfoldable pub mix_columns : List ℕ → List ℕ
mix_columns block =
    block_of (λ r c. mixed_byte (at block r c) (at block ((r + 1) % 4) c) (at block ((r + 2) % 4) c)
    (at block ((r + 3) % 4) c))

-- word i of a list of words
abbrev pub word : List (List ℕ) → ℕ → List ℕ
word words i = slice_index_or words i []

-- RotWord (5.2)
abbrev pub rot_word : List ℕ → List ℕ
rot_word w = slice_index w 1 ∷ slice_index w 2 ∷ slice_index w 3 ∷ slice_index w 0 ∷ []

-- x ^ n in the field
abbrev pub x_power : ℕ → ℕ
x_power zero = 1
x_power (suc n) = multiply 2 (x_power n)

-- Rcon[i] (5.2)
abbrev pub round_constant : ℕ → List ℕ
round_constant i = x_power (i - 1) ∷ 0 ∷ 0 ∷ 0 ∷ []

-- what word i adds to the word eight before it, from the word t before it (5.2)
abbrev pub key_step : ℕ → List ℕ → List ℕ
key_step i t =
    if i % 8 == 0 then xor_bytes (map s_box (rot_word t)) (round_constant (i / 8))
    else (if i % 8 == 4 then map s_box t else t)

-- word i of the key schedule, from those before it (5.2)
unfoldable pub next_word : List (List ℕ) → ℕ → List ℕ
next_word words i = xor_bytes (word words (i - 8)) (key_step i (word words (i - 1)))

-- word i of the key (5.2)
abbrev pub key_word : List ℕ → ℕ → List ℕ
key_word key i =
    slice_index key (4 * i) ∷ slice_index key (4 * i + 1) ∷ slice_index key (4 * i + 2)
    ∷ slice_index key (4 * i + 3) ∷ []

-- the first n words of the key schedule, of which eight are the key's (5.2)
unfoldable pub key_schedule : List ℕ → ℕ → List (List ℕ)
key_schedule key zero = []
key_schedule key (suc i) =
    key_schedule key i ++ (if nat_lt i 8 then key_word key i else next_word (key_schedule key i) i) ∷ []

-- the round key of round n: words 4 n to 4 n + 3, a column each (5.1.4)
unfoldable pub round_key : List (List ℕ) → ℕ → List ℕ
round_key words n = block_of (λ r c. slice_index (word words (4 * n + c)) r)

-- the block after n rounds, all with MixColumns (5.1)
unfoldable pub rounds : List (List ℕ) → List ℕ → ℕ → List ℕ
rounds words block zero = xor_bytes block (round_key words 0)
rounds words block (suc n) =
    xor_bytes (mix_columns (shift_rows (sub_bytes (rounds words block n)))) (round_key words (suc n))

-- the cipher with a key schedule: 13 rounds, and one without MixColumns (5.1)
unfoldable pub cipher : List (List ℕ) → List ℕ → List ℕ
cipher words block = xor_bytes (shift_rows (sub_bytes (rounds words block 13))) (round_key words 14)

-- the encryption of a block under a key of 32 bytes (5.1)
unfoldable pub encrypt : List ℕ → List ℕ → List ℕ
encrypt key block = cipher (key_schedule key 60) block
