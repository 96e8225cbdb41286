-- Two maps of places that answer for the same places have the same keys in order, whatever each holds.
use Rattle.std.proofs.Common.{◌≡◌, T, Bool, true, false, cond, List, [], ◌∷◌, ◌&&◌, length, refl, sym, ap, ◌∙◌}
use Rattle.std.specs.Prelude.{Option, Some, None, is_some}
use Rattle.std.specs.Ordering.{eq_by_cmp, is_lt}
use Rattle.std.specs.FinMap as map
use Rattle.std.specs.FinMap.{entries_sorted}
use Rattle.std.specs.FinMap.Entries.{find, is_sorted, below_all, same_entries}
use Rattle.std.proofs.lemmas.Float.{T_from_true}
use Rattle.std.proofs.lemmas.List.{length-map}
use Rattle.sorted_map.specs.Rows.{keys}
use Rattle.tree_model.proofs.Logic.{true_from_T}
use Rattle.tree_model.specs.declared.places.Place.{Place}
use Rattle.tree_model.specs.Order.{place_cmp, place_total, place_exact}

-- the rows with nothing but their keys
abbrev bare : {V : Type 0} → List (Place × V) → List (Place × Unit {0})
bare [] = []
bare (row ∷ rows) = (row.0, tt) ∷ bare rows

keys-bare : {V : Type 0} (rows : List (Place × V)) → keys (bare rows) ≡ keys rows
keys-bare [] = refl
keys-bare (row ∷ rows) = ap (λ rest. row.0 ∷ rest) (keys-bare rows)

below-bare : {V : Type 0} (low : Place) (rows : List (Place × V))
    → below_all place_cmp low (bare rows) ≡ below_all place_cmp low rows
below-bare low [] = refl
below-bare low (row ∷ rows) = ap (λ rest. is_lt (place_cmp low row.0) && rest) (below-bare low rows)

sorted-bare : {V : Type 0} (rows : List (Place × V)) → is_sorted place_cmp (bare rows) ≡ is_sorted place_cmp rows
sorted-bare [] = refl
sorted-bare (row ∷ rows) =
    ap (λ below. below && is_sorted place_cmp (bare rows)) (below-bare row.0 rows)
    ∙ ap (λ rest. below_all place_cmp row.0 rows && rest) (sorted-bare rows)

abbrev there : Bool → Option (Unit {0})
there found = cond found (Some tt) None

find-bare : {V : Type 0} (place : Place) (rows : List (Place × V))
    → find place_cmp place (bare rows) ≡ there (is_some (find place_cmp place rows))
find-bare place [] = refl
find-bare place (row ∷ rows) = elim (eq_by_cmp place_cmp place row.0) as (λ t.
    cond t (Some tt) (find place_cmp place (bare rows))
    ≡ there (is_some (cond t (Some row.1) (find place_cmp place rows)))) [
      | true ↦ refl
      | false ↦ find-bare place rows
    ]

module _ {X Y : Type 0} (m : map.FinMap place_cmp X) (n : map.FinMap place_cmp Y)
    (same : (place : Place) → is_some (map.get m place) ≡ is_some (map.get n place)) where
  pub same-keys : map.keys m ≡ map.keys n
  same-keys =
      sym (keys-bare (map.entries m))
      ∙ ap keys (same_entries place_cmp place_total place_exact (bare (map.entries m)) (bare (map.entries n))
      (rising m) (rising n) (λ place. find-bare place (map.entries m)
      ∙ ap there (sym (ap is_some (map.get-entries m place)) ∙ same place ∙ ap is_some (map.get-entries n place))
      ∙ sym (find-bare place (map.entries n))))
      ∙ keys-bare (map.entries n)
    where
      rising : {V : Type 0} (o : map.FinMap place_cmp V) → T (is_sorted place_cmp (bare (map.entries o)))
      rising o = T_from_true _ (sorted-bare (map.entries o) ∙ true_from_T _ (entries_sorted o))

  pub same-count : map.len m ≡ map.len n
  same-count =
      map.len-entries m ∙ sym (length-map (map.entries m) _) ∙ ap length same-keys ∙ length-map (map.entries n) _
      ∙ sym (map.len-entries n)
