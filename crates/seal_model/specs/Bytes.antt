-- Lists of bytes.
use Rattle.std.specs.Prelude.{ℕ, List, [], ◌∷◌, bit_xor}

-- the sum of two lists of bytes, byte by byte, as long as the shorter of them
abbrev pub xor_bytes : List ℕ → List ℕ → List ℕ
xor_bytes [] t = []
xor_bytes (a ∷ s) [] = []
xor_bytes (a ∷ s) (b ∷ t) = bit_xor a b ∷ xor_bytes s t
