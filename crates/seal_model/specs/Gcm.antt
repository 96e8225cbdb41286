-- GCM over AES-256 (SP 800-38D), with a nonce of 12 bytes and a tag of 16; section numbers are the standard's.
use Rattle.std.specs.Prelude.{ℕ, zero, suc, ◌+◌, ◌-◌, ◌*◌, ◌/◌, ◌%◌, ◌^◌, Bool, true, false, if◌then◌else◌, ◌&&◌}
use Rattle.std.specs.Prelude.{nat_le, List, [], ◌∷◌, ◌++◌, map, length, take, drop, replicate, Option, Some, None}
use Rattle.std.specs.Int.{w32, w64, to_be_bytes}
use Rattle.std.specs.Str.{bytes_eq}
use Rattle.seal_model.specs.Polynomial.{add, product, remainder, bits, number_of}
use Rattle.seal_model.specs.Bytes.{xor_bytes}
use Rattle.seal_model.specs.Aes.{encrypt}

-- bytes as a polynomial: the first bit of the first byte is the coefficient of x ^ 0 (6.3)
unfoldable pub polynomial_of : List ℕ → List Bool
polynomial_of [] = []
polynomial_of (b ∷ s) = bits 8 b ++ polynomial_of s

-- the n bytes with these coefficients
unfoldable pub bytes_of : ℕ → List Bool → List ℕ
bytes_of zero p = []
bytes_of (suc n) p = number_of (take 8 p) ∷ bytes_of n (drop 8 p)

-- x ^ 7 + x ^ 2 + x + 1, what is left of the field's polynomial without x ^ 128 (6.3)
unfoldable pub block_modulus : List Bool
block_modulus = true ∷ true ∷ true ∷ false ∷ false ∷ false ∷ false ∷ true ∷ replicate 120 false

-- the product of two blocks in the field: the remainder of the carry-less product (6.3)
unfoldable pub field_product : List Bool → List Bool → List Bool
field_product p q = remainder block_modulus (product p q)

-- the field's 1
unfoldable pub field_one : List Bool
field_one = true ∷ replicate 127 false

-- h to the power n
unfoldable pub power : List Bool → ℕ → List Bool
power h zero = field_one
power h (suc n) = field_product (power h n) h

-- the sum, over m blocks, of block i times h to the power m - i + 1
unfoldable pub power_sum : List Bool → List (List Bool) → List Bool
power_sum h [] = replicate 128 false
power_sum h (b ∷ blocks) = add (field_product b (power h (suc (length blocks)))) (power_sum h blocks)

-- GHASH of blocks (6.4)
unfoldable pub ghash : List ℕ → List (List ℕ) → List ℕ
ghash h blocks = bytes_of 16 (power_sum (polynomial_of h) (map polynomial_of blocks))

-- bytes filled up with zeros to a block
abbrev pub padded : List ℕ → List ℕ
padded s = s ++ replicate (16 - length s) 0

-- the first n blocks of a list of bytes, the last one padded
unfoldable pub first_blocks : ℕ → List ℕ → List (List ℕ)
first_blocks zero s = []
first_blocks (suc n) s = padded (take 16 s) ∷ first_blocks n (drop 16 s)

-- how many blocks n bytes take
abbrev pub block_count : ℕ → ℕ
block_count n = (n + 15) / 16

-- the blocks of a list of bytes, the last one padded
abbrev pub blocks_of : List ℕ → List (List ℕ)
blocks_of s = first_blocks (block_count (length s)) s

-- the block of the two lengths in bits, each as 64 bits (7.1, step 5)
abbrev pub lengths_block : List ℕ → List ℕ → List ℕ
lengths_block aad text = to_be_bytes w64 (8 * length aad) ++ to_be_bytes w64 (8 * length text)

-- H, the encryption of the zero block (7.1, step 1)
abbrev pub hash_key : List ℕ → List ℕ
hash_key key = encrypt key (replicate 16 0)

-- the counter block whose last 32 bits are n (7.1, steps 2 and 3)
abbrev pub counter_block : List ℕ → ℕ → List ℕ
counter_block nonce n = nonce ++ to_be_bytes w32 (n % 2 ^ 32)

-- the first n blocks of the key stream: block i, from 1, is the encryption of the counter block of 1 + i (6.5)
unfoldable pub key_stream : List ℕ → List ℕ → ℕ → List ℕ
key_stream key nonce zero = []
key_stream key nonce (suc i) = key_stream key nonce i ++ encrypt key (counter_block nonce (1 + suc i))

-- a text with the key stream added (7.1, step 3)
unfoldable pub encrypted : List ℕ → List ℕ → List ℕ → List ℕ
encrypted key nonce text = xor_bytes text (key_stream key nonce (block_count (length text)))

-- the tag of a ciphertext (7.1, steps 4 to 6)
unfoldable pub tag : List ℕ → List ℕ → List ℕ → List ℕ → List ℕ
tag key nonce aad ciphertext =
    xor_bytes (ghash (hash_key key) (blocks_of aad ++ blocks_of ciphertext ++ lengths_block aad ciphertext ∷ []))
    (encrypt key (counter_block nonce 1))

-- a sealed text: the ciphertext and its tag (7.1)
unfoldable pub seal : List ℕ → List ℕ → List ℕ → List ℕ → List ℕ
seal key nonce aad text = encrypted key nonce text ++ tag key nonce aad (encrypted key nonce text)

-- a sealed text without its tag, its last 16 bytes
abbrev pub ciphertext_of : List ℕ → List ℕ
ciphertext_of sealed = take (length sealed - 16) sealed

-- the last 16 bytes of a sealed text
abbrev pub tag_of : List ℕ → List ℕ
tag_of sealed = drop (length sealed - 16) sealed

-- the text of a sealed text: none where this has fewer than 16 bytes or another tag than its ciphertext's (7.2)
unfoldable pub unseal : List ℕ → List ℕ → List ℕ → List ℕ → Option (List ℕ)
unseal key nonce aad sealed =
    if nat_le 16 (length sealed) && bytes_eq (tag_of sealed) (tag key nonce aad (ciphertext_of sealed))
    then Some (encrypted key nonce (ciphertext_of sealed)) else None
