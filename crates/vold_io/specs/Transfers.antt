-- What a call that failed on the way left.
use Rattle.std.specs.Prelude.{◌≡◌, ℕ, ◌≤◌, List, length, take, Option}
use Rattle.std.specs.Io.KnownBytes.{append_known, prepend_known}

-- at most `limit` bytes were taken off the front of the rest
abbrev pub LosesAtMost : ℕ → Option (List ℕ) → Option (List ℕ) → Type 0
LosesAtMost limit rest rest' = (bytes : List ℕ) × (length bytes ≤ limit) × (rest ≡ prepend_known bytes rest')

-- a front of the bytes was added to what was taken
abbrev pub AddsFront : List ℕ → Option (List ℕ) → Option (List ℕ) → Type 0
AddsFront bytes taken taken' = (count : ℕ) × (count ≤ length bytes) × (taken' ≡ append_known taken (take count bytes))
