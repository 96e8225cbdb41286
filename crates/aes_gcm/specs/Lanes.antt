-- Eight elements of the field of blocks side by side: the upper halves of their numbers, and the lower halves.
use Rattle.std.specs.Prelude.{ℕ, ◌+◌, ◌*◌, ◌^◌, Bool, List, slice_index}
use Rattle.seal_model.specs.Polynomial.{add}

-- the number with these halves of 64 bits
abbrev pub joined : ℕ → ℕ → ℕ
joined high low = high * 2 ^ 64 + low

-- the number of element j
abbrev pub element : List ℕ → List ℕ → ℕ → ℕ
element high low j = joined (slice_index high j) (slice_index low j)

-- the sum of the first eight elements of a sequence
abbrev pub sum_of_eight : (ℕ → List Bool) → List Bool
sum_of_eight f = add (f 0) (add (f 1) (add (f 2) (add (f 3) (add (f 4) (add (f 5) (add (f 6) (f 7)))))))
