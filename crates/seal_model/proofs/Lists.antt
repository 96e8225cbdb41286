-- Lists of bytes, and their elements one by one; numbers one by one.
use Rattle.std.proofs.Common.{◌≡◌, ℕ, zero, suc, ◌+◌, ◌<◌, ◌≤◌, List, [], ◌∷◌, length, get_or, drop, sym, ◌∙◌, ap}
use Rattle.std.proofs.Common.{subst, inl, inr, arith, add-one}
use Rattle.std.proofs.lemmas.Bool.{cases_lt}
use Rattle.std.proofs.Math.Seq.{drop-cons, drop-length}

-- every element is a byte
abbrev pub AreBytes : List ℕ → Type 0
AreBytes [] = Unit {0}
AreBytes (b ∷ s) = (b < 256) × AreBytes s

pub are_bytes : (s : List ℕ) → ((i : ℕ) → get_or s i 0 < 256) → AreBytes s
are_bytes [] h = tt
are_bytes (b ∷ s) h = (h 0, are_bytes s (λ i. h (suc i)))

-- n bytes from byte k on
unfoldable pub bytes_from : ℕ → ℕ → List ℕ → List ℕ
bytes_from zero k s = []
bytes_from (suc n) k s = get_or s k 0 ∷ bytes_from n (k + 1) s

pub bytes_from-is : (n k : ℕ) (s : List ℕ) → k + n ≡ length s → bytes_from n k s ≡ drop k s
unfolding bytes_from
bytes_from-is zero k s e = sym (drop-length s) ∙ ap (λ j. drop j s) (omega arith)
bytes_from-is (suc n) k s e =
    ap (λ t. get_or s k 0 ∷ t) (bytes_from-is n (k + 1) s (omega arith) ∙ ap (λ j. drop j s) (add-one k))
    ∙ sym (drop-cons s k 0 (omega arith))

-- P holds at k and on, n times
abbrev pub Each : (P : ℕ → Type 0) → ℕ → ℕ → Type 0
Each P k zero = Unit {0}
Each P k (suc n) = P k × Each P (k + 1) n

pub each_at : (P : ℕ → Type 0) (k n j : ℕ) → Each P k n → k ≤ j → j < k + n → P j
each_at P k zero j h le lt = absurd (omega arith)
each_at P k (suc n) j h le lt =
    elim (cases_lt k j) [
      | inl below ↦ each_at P (k + 1) n j h.1 (omega arith) (omega arith)
      | inr reached ↦ let same : k ≡ j = omega arith in subst P same h.0
    ]

-- P holds at each number below n
pub each_below : (P : ℕ → Type 0) (n : ℕ) → Each P 0 n → (j : ℕ) → j < n → P j
each_below P n h j lt = each_at P 0 n j h (omega arith) (omega arith)
