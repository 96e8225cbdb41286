-- Vectors of numbers, lane by lane.
use Rattle.std.specs.Prelude.{◌≡◌, ℕ, ◌<◌, ◌==◌, if◌then◌else◌, List, length, bit_and, slice_index}

-- v has n lanes, and lane i holds `lane i`
pub record HasLanes (n : ℕ) (v : List ℕ) (lane : ℕ → ℕ) : Type 0 where
  pub long : length v ≡ n
  pub lanes : (i : ℕ) → i < n → slice_index v i ≡ lane i

-- b where a has the bit, and 0 otherwise
abbrev pub where_set : ℕ → ℕ → ℕ → ℕ
where_set a bit b = if bit_and a bit == bit then b else 0
