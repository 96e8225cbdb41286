-- A sum of powers that grows by blocks, and multiples of an element.
use Rattle.std.specs.Prelude.{◌≡◌, ◌<◌, ℕ, zero, suc, ◌+◌, ◌*◌, Bool, List, [], ◌∷◌, ◌++◌, take, drop, slice_index}
use Rattle.seal_model.specs.Polynomial.{bits, times_x}
use Rattle.seal_model.specs.Gcm.{block_modulus, field_product, padded, power_sum}

-- where `before` is the sum over any blocks, `after` is that over those and `more`
abbrev pub Adds : List Bool → List Bool → List Bool → List (List Bool) → Type 0
Adds h before after more =
    (blocks : List (List Bool)) → before ≡ power_sum h blocks → after ≡ power_sum h (blocks ++ more)

-- block i of a list of bytes, filled up with zeros
abbrev pub block : List ℕ → ℕ → List ℕ
block s i = padded (take 16 (drop (16 * i) s))

-- n blocks of a list of bytes, from block i on
abbrev pub blocks_from : ℕ → ℕ → List ℕ → List (List ℕ)
blocks_from zero i s = []
blocks_from (suc n) i s = block s i ∷ blocks_from n (i + 1) s

-- x ^ n times an element
abbrev pub times_x_power : ℕ → List Bool → List Bool
times_x_power zero p = p
times_x_power (suc n) p = times_x block_modulus (times_x_power n p)

-- a table of the multiples of an element by the polynomials below x ^ 4, in the order of their bits as numbers
abbrev pub AreMultiples : List ℕ → List Bool → Type 0
AreMultiples table h = (n : ℕ) → n < 16 → bits 128 (slice_index table n) ≡ field_product (bits 4 n) h
