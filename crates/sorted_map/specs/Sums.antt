-- Sums over lists.
use Rattle.std.specs.Prelude.{ℕ, ◌+◌, List, [], ◌∷◌}

-- the sum of a count over a list
abbrev pub total_by : {X : Type 0} → (X → ℕ) → List X → ℕ
total_by count [] = 0
total_by count (x ∷ xs) = count x + total_by count xs
