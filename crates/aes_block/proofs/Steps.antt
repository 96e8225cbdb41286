-- One more step of a loop over a block.
use Rattle.std.proofs.Common.{◌≡◌, ℕ, zero, suc, ◌+◌, ◌<◌, List, [], ◌∷◌, ◌++◌, length, get_or, set, take, drop, map}
use Rattle.std.proofs.Common.{bit_xor, refl, sym, ◌∙◌, ap, arith, add-one}
use Rattle.seal_model.specs.Bytes.{xor_bytes}

-- f at the first i bytes of s, and then the rest of s
abbrev pub mapped : (ℕ → ℕ) → List ℕ → ℕ → List ℕ
mapped f s i = map f (take i s) ++ drop i s

map-suc : (f : ℕ → ℕ) (s : List ℕ) (i : ℕ) → i < length s
    → set (mapped f s i) i (f (get_or (mapped f s i) i 0)) ≡ mapped f s (suc i)
map-suc f [] i h = absurd (omega arith)
map-suc f (a ∷ s) zero h = refl
map-suc f (a ∷ s) (suc i) h = ap (λ t. f a ∷ t) (map-suc f s i (omega arith))

pub map-step : (f : ℕ → ℕ) (s : List ℕ) (i : ℕ) → i < length s
    → set (mapped f s i) i (f (get_or (mapped f s i) i 0)) ≡ mapped f s (i + 1)
map-step f s i h = map-suc f s i h ∙ ap (mapped f s) (sym (add-one i))

-- the sum of the first i bytes of s and t, and then the rest of s
abbrev pub summed : List ℕ → List ℕ → ℕ → List ℕ
summed s t i = xor_bytes (take i s) (take i t) ++ drop i s

xor-suc : (s t : List ℕ) (i : ℕ) → i < length s → i < length t
    → set (summed s t i) i (bit_xor (get_or (summed s t i) i 0) (get_or t i 0)) ≡ summed s t (suc i)
xor-suc [] t i h g = absurd (omega arith)
xor-suc (a ∷ s) [] i h g = absurd (omega arith)
xor-suc (a ∷ s) (b ∷ t) zero h g = refl
xor-suc (a ∷ s) (b ∷ t) (suc i) h g = ap (λ u. bit_xor a b ∷ u) (xor-suc s t i (omega arith) (omega arith))

pub xor-step : (s t : List ℕ) (i : ℕ) → i < length s → i < length t
    → set (summed s t i) i (bit_xor (get_or (summed s t i) i 0) (get_or t i 0)) ≡ summed s t (i + 1)
xor-step s t i h g = xor-suc s t i h g ∙ ap (summed s t) (sym (add-one i))
