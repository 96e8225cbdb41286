-- Finite maps as contracts see them: what one holds, for how many further keys it has memory, and its next keys.
use Rattle.std.specs.Prelude.{◌≡◌, ◌⊎◌, ℕ, List, Option, Some, None, IsSome, refl}
use Rattle.std.specs.declared.cmp.Ordering.{Ordering}
use Rattle.std.specs.declared.cmp.Ordering.TheVariants.{Less, Equal}
use Rattle.std.specs.FinMap as map
use Rattle.std.specs.Coded.{Coded, code_by, coded×, coded_ℕ, coded_list}

-- rows in the order of their keys, and how many further keys there is memory for
pub record Stored (K V : Type 0) : Type 0 where
  pub rows : List (K × V)
  pub room : ℕ

abbrev pub stored_code : {K V : Type 0} → Coded K → Coded V → Coded (Stored K V)
stored_code {K} {V} key value =
    code_by (List (K × V) × ℕ) (coded× (coded_list (coded× key value)) coded_ℕ) (λ stored. (stored.rows, stored.room))
    (λ parts. record { rows = parts.0; room = parts.1 }) (λ _. refl)

-- the finite map that is stored, by the order of its keys
abbrev pub held : {K V : Type 0} → (cmp : K → K → Ordering) → Stored K V → map.FinMap cmp V
held cmp stored = map.from_sorted stored.rows

-- whether a key comes after another; each comes after none
abbrev pub IsAfter : {K : Type 0} → (K → K → Ordering) → Option K → K → Type 0
IsAfter cmp None key = Unit {0}
IsAfter cmp (Some after) key = cmp after key ≡ Less

-- the first key of the map after another, or of all; none exactly where there is none
abbrev pub IsNextKey : {K V : Type 0} {cmp : K → K → Ordering} → map.FinMap cmp V → Option K → Option K → Type 0
IsNextKey {cmp = cmp} m after None = (key : _) → IsSome (map.get m key) → IsAfter cmp after key → ⊥
IsNextKey {cmp = cmp} m after (Some next) =
    IsSome (map.get m next) × IsAfter cmp after next
    × ((key : _) → IsSome (map.get m key) → IsAfter cmp after key → (cmp next key ≡ Less) ⊎ (cmp next key ≡ Equal))
