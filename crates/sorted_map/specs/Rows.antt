-- Maps as lists of rows in the order of their keys, and where a key stands among keys that rise.
use Rattle.std.specs.Prelude.{◌≡◌, ℕ, Bool, true, List, [], ◌∷◌, map, length, Option, Some, None}
use Rattle.std.proofs.Common.{zero, suc}
use Rattle.std.specs.declared.cmp.Ordering.{Ordering}
use Rattle.std.specs.declared.cmp.Ordering.TheVariants.{Less, Equal, Greater}
use Rattle.std.specs.Ordering.{is_lt, eq_by_cmp}
use Rattle.std.specs.Prelude.{not, IsTrue}
use Rattle.std.specs.List.{find, zip}
use Rattle.std.specs.FinMap.Entries.{is_sorted, where_key}

-- the keys of rows, in their order
abbrev pub keys : {K V : Type 0} → List (K × V) → List K
keys rows = map (λ row. row.0) rows

-- the values of rows, in the order of their keys
abbrev pub values : {K V : Type 0} → List (K × V) → List V
values rows = map (λ row. row.1) rows

-- the keys strictly rise
abbrev pub IsSorted : {K V : Type 0} → (K → K → Ordering) → List (K × V) → Type 0
IsSorted cmp rows = IsTrue (is_sorted cmp rows)

-- two vectors that hold a map: each key has a value, and the keys strictly rise
pub record IsAligned {K V : Type 0} (cmp : K → K → Ordering) (ks : List K) (vs : List V) : Type 0 where
  pub lengths : length vs ≡ length ks
  pub sorted : IsSorted cmp (zip ks vs)

-- the rows but that of a key
abbrev pub without : {K V : Type 0} → (K → K → Ordering) → K → List (K × V) → List (K × V)
without cmp key rows = where_key cmp (λ other. not (eq_by_cmp cmp key other)) rows

-- whether a key comes after another; each comes after none
abbrev pub is_after : {K : Type 0} → (K → K → Ordering) → Option K → K → Bool
is_after cmp None key = true
is_after cmp (Some after) key = is_lt (cmp after key)

-- the first key after another, or the first of all
abbrev pub next_after : {K V : Type 0} → (K → K → Ordering) → Option K → List (K × V) → Option K
next_after cmp after rows = find (is_after cmp after) (keys rows)

-- each key is above the one that is looked for
abbrev pub AllAbove : {K : Type 0} → (K → K → Ordering) → K → List K → Type 0
AllAbove cmp key [] = Unit {0}
AllAbove cmp key (k ∷ ks) = (cmp k key ≡ Greater) × AllAbove cmp key ks

-- the key stands at this place, with lower keys before it and higher ones behind
abbrev pub StandsAt : {K : Type 0} → (K → K → Ordering) → K → List K → ℕ → Type 0
StandsAt cmp key [] i = ⊥
StandsAt cmp key (k ∷ ks) zero = (cmp k key ≡ Equal) × AllAbove cmp key ks
StandsAt cmp key (k ∷ ks) (suc i) = (cmp k key ≡ Less) × StandsAt cmp key ks i

-- the key is absent and belongs at this place, between lower and higher keys
abbrev pub BelongsAt : {K : Type 0} → (K → K → Ordering) → K → List K → ℕ → Type 0
BelongsAt cmp key ks zero = AllAbove cmp key ks
BelongsAt cmp key [] (suc i) = ⊥
BelongsAt cmp key (k ∷ ks) (suc i) = (cmp k key ≡ Less) × BelongsAt cmp key ks i
