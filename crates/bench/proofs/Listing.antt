-- A table that gets places in order, and that these are then the places of the tree which the device lists.
use Rattle.std.proofs.Common.{◌≡◌, ◌<◌, ◌≤◌, ◌+◌, ℕ, Bool, true, false, cond, refl, sym, ap, ◌∙◌, List, length}
use Rattle.std.proofs.Common.{get_or, take, subst, arith}
use Rattle.std.specs.Prelude.{Option, Some, None, is_some, ◌||◌, max}
use Rattle.std.specs.List.{list_any}
use Rattle.std.specs.Ordering.{eq_by_cmp}
use Rattle.std.specs.FinMap as map
use Rattle.std.specs.FinMap.{contains_key-keys}
use Rattle.std.proofs.lemmas.List.{length-map}
use Rattle.std.proofs.lemmas.List.Folds.{list_any_more}
use Rattle.tree_model.specs.declared.blobs.Blob.{Blob}
use Rattle.tree_model.specs.declared.places.Place.{Place}
use Rattle.tree_model.specs.Order.{place_cmp, place_total}
use Rattle.tree_model.specs.Tree.{Tree}
use Rattle.step_core.specs.Table.{NamedPlaces, TableState, named_by, with_place, room_left}
use Rattle.bench.specs.Bench.{KnowsPlaces}
use Rattle.bench.specs.Steps.{if_listed}

-- the table has exactly the first of these places
abbrev pub IsListedTo : NamedPlaces → List Place → ℕ → Type 0
IsListedTo table places i = (place : Place)
    → map.get table place ≡ if_listed (list_any (eq_by_cmp place_cmp place) (take i places))

pub listed-more : (table : NamedPlaces) (places : List Place) (i : ℕ) (default : Place) → i < length places
    → IsListedTo table places i → IsListedTo (map.insert table (get_or places i default) None) places (i + 1)
listed-more table places i default within listed place =
    map.get-insert place_total table (get_or places i default) None place
    ∙ ap (cond (same (get_or places i default)) (Some None)) (listed place)
    ∙ either (same (get_or places i default)) (list_any same (take i places))
    ∙ sym (ap if_listed (list_any_more same places i default within))
  where
    same : Place → Bool
    same other = eq_by_cmp place_cmp place other

    either : (this before : Bool) → cond this (Some None) (if_listed before) ≡ if_listed (before || this)
    either true true = refl
    either true false = refl
    either false true = refl
    either false false = refl

-- room for as many places as the tree has is room for these
pub listed-fit : (tree : Tree) (places : List Place) (before after : TableState) (count : ℕ) → places ≡ map.keys tree
    → count ≡ map.len tree → after ≡ record before { room = max before.room count } → length places ≤ after.room
listed-fit tree places before after count is counted reserved =
    omega (
      arith,
      ap length is,
      length-map (map.entries tree) (λ row. row.0),
      map.len-entries tree,
      counted,
      ap (λ (t : TableState). t.room) reserved,
    )

-- a table of no place has none
pub none_in_empty : (table : NamedPlaces) (place : Place) → table ≡ map.empty → map.get table place ≡ None
none_in_empty table place is = ap (λ (t : NamedPlaces). map.get t place) is ∙ map.get-empty place_cmp place

room-kept : (found : Option (Option Blob)) (room : ℕ) → room ≤ room_left found room + 1
room-kept None room = omega arith
room-kept (Some named) room = omega arith

-- a place that is put takes room for one at most
pub room-put : (before after : TableState) (place : Place) (named : Option Blob)
    → after ≡ with_place before place named → before.room ≤ after.room + 1
room-put before after place named is =
    subst (λ (t : TableState). before.room ≤ t.room + 1) (sym is) (room-kept (map.get before.places place) before.room)

module _ (table : NamedPlaces) (places : List Place)
    (listed : (place : Place) → map.get table place ≡ if_listed (list_any (eq_by_cmp place_cmp place) places)) where
  -- these are the places of the tree
  pub listed-known : (tree : Tree) → places ≡ map.keys tree → KnowsPlaces table tree
  listed-known tree is place = ap is_some (listed place) ∙ there (list_any (eq_by_cmp place_cmp place) places)
      ∙ ap (list_any (eq_by_cmp place_cmp place)) is ∙ sym (contains_key-keys tree place)
    where
      there : (found : Bool) → is_some (if_listed found) ≡ found
      there true = refl
      there false = refl

  -- and of none a blob is known
  pub listed-unread : (place : Place) → named_by (map.get table place) ≡ None
  listed-unread place = ap named_by (listed place) ∙ none (list_any (eq_by_cmp place_cmp place) places)
    where
      none : (found : Bool) → named_by (if_listed found) ≡ None
      none true = refl
      none false = refl
