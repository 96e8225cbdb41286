-- Words that are one word.
use Rattle.std.proofs.Common.{◌≡◌, ℕ, ◌<◌, ◌≤◌, List, [], ◌∷◌, length, get_or, map, sym, ap, arith}

pub one_word : {W : Type 0} (text : W → List ℕ) (words : List W) (word : W) → 1 ≤ length words → length words < 2
    → word ≡ get_or words 0 word → map text words ≡ text word ∷ []
one_word text [] word some few is = absurd (omega arith)
one_word text (other ∷ []) word some few is = ap (λ w. text w ∷ []) (sym is)
one_word text (other ∷ another ∷ words) word some few is = absurd (omega arith)

pub same_word : (one other : List ℕ) → one ∷ [] ≡ other ∷ [] → one ≡ other
same_word one other same = cc
