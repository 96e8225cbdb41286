-- Sixteen blocks side by side: vector p holds byte p of each, a lane for each block.
use Rattle.std.specs.Prelude.{ℕ, List, [], ◌∷◌, bit_xor, slice_index, slice_index_or}
use Rattle.seal_model.specs.Lanes.{where_set}

-- lane j of vector p
abbrev pub lane_at : List (List ℕ) → ℕ → ℕ → ℕ
lane_at x p j = slice_index (slice_index_or x p []) j

-- block j
abbrev pub lane : ℕ → List (List ℕ) → List ℕ
lane j x =
    lane_at x 0 j ∷ lane_at x 1 j ∷ lane_at x 2 j ∷ lane_at x 3 j ∷ lane_at x 4 j ∷ lane_at x 5 j ∷ lane_at x 6 j
    ∷ lane_at x 7 j
    ∷ lane_at x 8 j ∷ lane_at x 9 j ∷ lane_at x 10 j ∷ lane_at x 11 j ∷ lane_at x 12 j ∷ lane_at x 13 j
    ∷ lane_at x 14 j ∷ lane_at x 15 j ∷ []

-- the columns of rows, one after the other
abbrev pub columns : List (List ℕ) → List (List ℕ)
columns rows =
    lane 0 rows ∷ lane 1 rows ∷ lane 2 rows ∷ lane 3 rows ∷ lane 4 rows ∷ lane 5 rows ∷ lane 6 rows ∷ lane 7 rows
    ∷ lane 8 rows ∷ lane 9 rows ∷ lane 10 rows ∷ lane 11 rows ∷ lane 12 rows ∷ lane 13 rows ∷ lane 14 rows
    ∷ lane 15 rows ∷ []

-- the sum of the images of the bits of x, the lowest first
abbrev pub linear : List ℕ → ℕ → ℕ
linear images x =
    bit_xor (where_set x 1 (slice_index images 0)) (bit_xor (where_set x 2 (slice_index images 1))
    (bit_xor (where_set x 4 (slice_index images 2)) (bit_xor (where_set x 8 (slice_index images 3))
    (bit_xor (where_set x 16 (slice_index images 4)) (bit_xor (where_set x 32 (slice_index images 5))
    (bit_xor (where_set x 64 (slice_index images 6)) (where_set x 128 (slice_index images 7))))))))
