-- What each place names, from what is known of each place: look-ups, and what an edit of one place does.
use Rattle.std.proofs.Common.{◌≡◌, Bool, true, false, cond, T, List, [], ◌∷◌, map as map_list}
use Rattle.std.proofs.Common.{refl, sym, ap, ◌∙◌, subst}
use Rattle.std.specs.Prelude.{ℕ, Option, Some, None, option_map, ◌&&◌}
use Rattle.std.specs.declared.cmp.Ordering.{Ordering}
use Rattle.std.specs.Ordering.{eq_by_cmp, is_lt}
use Rattle.std.specs.FinMap as map
use Rattle.std.specs.FinMap.Entries.{find, is_sorted, below_all}
use Rattle.tree_model.specs.declared.places.Place.{Place}
use Rattle.tree_model.specs.Order.{place_cmp, place_total, place_exact}
use Rattle.step_core.specs.declared.table.Known.{Known}
use Rattle.step_core.specs.Known.{KnownPlaces, places_of}

module _ {V W : Type 0} (f : V → W) where
  mapped-cond : (b : Bool) (value : V) (found : Option V)
      → option_map f (cond b (Some value) found) ≡ cond b (Some (f value)) (option_map f found)
  mapped-cond true value found = refl
  mapped-cond false value found = refl

  mapped-unless : (b : Bool) (found : Option V) → option_map f (cond b None found) ≡ cond b None (option_map f found)
  mapped-unless true found = refl
  mapped-unless false found = refl

module _ {K V W : Type 0} (R : K → K → Ordering) (f : V → W) where
  abbrev mapped : List (K × V) → List (K × W)
  mapped rows = map_list (λ row. (row.0, f row.1)) rows

  below-mapped : (key : K) (rows : List (K × V)) → below_all R key (mapped rows) ≡ below_all R key rows
  below-mapped key [] = refl
  below-mapped key (row ∷ rows) = ap (λ rest. is_lt (R key row.0) && rest) (below-mapped key rows)

  sorted-mapped : (rows : List (K × V)) → is_sorted R (mapped rows) ≡ is_sorted R rows
  sorted-mapped [] = refl
  sorted-mapped (row ∷ rows) = λ i. below-mapped row.0 rows i && sorted-mapped rows i

  find-mapped : (key : K) (rows : List (K × V)) → find R key (mapped rows) ≡ option_map f (find R key rows)
  find-mapped key [] = refl
  find-mapped key (row ∷ rows) =
      ap (cond (eq_by_cmp R key row.0) (Some (f row.1))) (find-mapped key rows)
      ∙ sym (mapped-cond f (eq_by_cmp R key row.0) row.1 (find R key rows))

  keys-mapped : (rows : List (K × V)) → map_list (λ row. row.0) (mapped rows) ≡ map_list (λ row. row.0) rows
  keys-mapped [] = refl
  keys-mapped (row ∷ rows) = ap (λ rest. row.0 ∷ rest) (keys-mapped rows)

abbrev named : Known → Option (List ℕ)
named known = known.named

-- what is said of a place by what is known of it
abbrev pub naming : Option Known → Option (Option (List ℕ))
naming found = option_map named found

rows-sorted : (known : KnownPlaces) → T (is_sorted place_cmp (mapped place_cmp named (map.entries known)))
rows-sorted known = subst T (sym (sorted-mapped place_cmp named (map.entries known))) (map.entries_sorted known)

pub get-places_of : (known : KnownPlaces) (place : Place)
    → map.get (places_of known) place ≡ naming (map.get known place)
unfolding places_of
get-places_of known place =
    map.get-from_sorted place_cmp _ place (rows-sorted known)
    ∙ find-mapped place_cmp named place (map.entries known) ∙ ap naming (sym (map.get-entries known place))

pub keys-places_of : (known : KnownPlaces) → map.keys (places_of known) ≡ map.keys known
unfolding places_of
keys-places_of known =
    ap (map_list (λ row. row.0)) (map.entries-from_sorted place_cmp _ (rows-sorted known))
    ∙ keys-mapped place_cmp named (map.entries known)

pub places_of-empty : places_of map.empty ≡ map.empty
places_of-empty = map.same_map place_total place_exact _ _ (λ place.
    get-places_of map.empty place ∙ ap naming (map.get-empty place_cmp place) ∙ sym (map.get-empty place_cmp place))

pub places_of-insert : (known : KnownPlaces) (place : Place) (of_place : Known)
    → places_of (map.insert known place of_place) ≡ map.insert (places_of known) place of_place.named
places_of-insert known place of_place = map.same_map place_total place_exact _ _ (λ other.
    get-places_of _ other ∙ ap naming (map.get-insert place_total known place of_place other)
    ∙ mapped-cond named (eq_by_cmp place_cmp other place) of_place (map.get known other)
    ∙ ap (cond (eq_by_cmp place_cmp other place) (Some of_place.named)) (sym (get-places_of known other))
    ∙ sym (map.get-insert place_total (places_of known) place of_place.named other))

pub places_of-remove : (known : KnownPlaces) (place : Place)
    → places_of (map.remove known place) ≡ map.remove (places_of known) place
places_of-remove known place = map.same_map place_total place_exact _ _ (λ other.
    get-places_of _ other ∙ ap naming (map.get-remove place_total known place other)
    ∙ mapped-unless named (eq_by_cmp place_cmp other place) (map.get known other)
    ∙ ap (cond (eq_by_cmp place_cmp other place) None) (sym (get-places_of known other))
    ∙ sym (map.get-remove place_total (places_of known) place other))
