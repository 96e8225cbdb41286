-- The blobs that known places name, collected and sorted, and what a search among them finds.
use Rattle.std.proofs.Common.{◌≡◌, ◌≢◌, inl, inr, ℕ, Bool, true, false, not, cond, List, [], ◌∷◌, length}
use Rattle.std.proofs.Common.{refl, sym, ap, ◌∙◌, subst, arith}
use Rattle.std.specs.Prelude.{Option, Some, None, Result, Ok, Err, is_ok, is_some, Contains}
use Rattle.std.specs.declared.cmp.Ordering.{Ordering}
use Rattle.std.specs.declared.cmp.Ordering.TheVariants.{Less, Equal, Greater}
use Rattle.std.specs.Cmp.{eq_by_cmp_equiv}
use Rattle.std.specs.List.{filter, filter_map, cons_option}
use Rattle.std.specs.List.Sorted.{IsPermutation, IsSorted, IsSearchInRange, IsBinarySearchResult}
use Rattle.std.specs.Ordering.{eq_by_cmp}
use Rattle.std.specs.FinMap as map
use Rattle.std.specs.FinMap.{contains_key-keys}
use Rattle.std.proofs.lemmas.Bool.{cases_lt, false≢true}
use Rattle.std.proofs.lemmas.List.Folds.{list_any_at, list_any_none}
use Rattle.std.proofs.lemmas.List.Sorted.{Contains-permutation, IsPermutation-sym, searchable_from_sorted}
use Rattle.std.proofs.lemmas.Map.Views.{list_any-from_Contains, Contains-from_any}
use Rattle.tree_model.specs.declared.blobs.Blob.{Blob}
use Rattle.tree_model.specs.declared.places.Place.{Place}
use Rattle.tree_model.specs.Blobs.{blob_cmp, blob_total, blob_exact}
use Rattle.tree_model.specs.Order.{place_exact}
use Rattle.tree_model.proofs.Logic.{is_equal}
use Rattle.tree_model.proofs.Maps.{tied, apart}
use Rattle.keystore_model.proofs.Elements.{Contains-none, Contains-first, Contains-rest, Contains-cases}
use Rattle.step_core.specs.Table.{NamedPlaces, named_by}
use Rattle.bench.specs.Bench.{IsKnown, AreUnnamed, Named, Unnamed, Nothing}
use Rattle.bench.specs.Steps.{AreNamed, is_among}

module _ {X Y : Type 0} (h : X → Option Y) where
  -- what is collected is of some element, and of each that has something
  filter_map-from : (xs : List X) (y : Y) → Contains (filter_map h xs) y → (x : X) × (Contains xs x × (h x ≡ Some y))
  filter_map-from [] y has = absurd (Contains-none y has)
  filter_map-from (x ∷ xs) y has = elim (h x) as (λ found. h x ≡ found
      → Contains (cons_option found (filter_map h xs)) y → (z : X) × (Contains (x ∷ xs) z × (h z ≡ Some y))) [
        | None ↦ λ is later. rest (filter_map-from xs y later)
        | Some first ↦ λ is some. elim (Contains-cases first (filter_map h xs) y some) [
          | inl same ↦ (x, (Contains-first x xs, is ∙ ap Some same))
          | inr later ↦ rest (filter_map-from xs y later)
        ]
      ] refl has
    where
      rest : (z : X) × (Contains xs z × (h z ≡ Some y)) → (z : X) × (Contains (x ∷ xs) z × (h z ≡ Some y))
      rest of = (of.0, (Contains-rest x xs of.0 of.1.0, of.1.1))

  filter_map-has : (xs : List X) (x : X) (y : Y) → Contains xs x → h x ≡ Some y → Contains (filter_map h xs) y
  filter_map-has [] x y has is = absurd (Contains-none x has)
  filter_map-has (first ∷ xs) x y has is = elim (Contains-cases first xs x has) [
    | inl same ↦ subst (λ found. Contains (cons_option found (filter_map h xs)) y) (sym (ap h same ∙ is))
        (Contains-first y (filter_map h xs))
    | inr later ↦ either (h first) (filter_map-has xs x y later is)
  ]
    where
      either : (found : Option Y) → Contains (filter_map h xs) y → Contains (cons_option found (filter_map h xs)) y
      either None there = there
      either (Some z) there = Contains-rest z (filter_map h xs) y there

pub named-back : (found : Option (Option Blob)) (blob : Blob) → named_by found ≡ Some blob → found ≡ Some (Some blob)
named-back None blob is = cc
named-back (Some named) blob is = ap Some is

module _ (places : NamedPlaces) where
  abbrev pub named_among : List Place → List Blob
  named_among keys = filter_map (λ place. named_by (map.get places place)) keys

  known-from : (blob : Blob) → Contains (named_among (map.keys places)) blob → IsKnown places blob
  known-from blob has =
      let of = filter_map-from (λ place. named_by (map.get places place)) (map.keys places) blob has in
      record { place = of.0; names = named-back (map.get places of.0) blob of.1.1 }

  pub known-key : (place : Place) → is_some (map.get places place) ≡ true → Contains (map.keys places) place
  known-key place there = Contains-from_any (λ a b e. place_exact a b (is_equal _ e)) place (map.keys places)
      (sym (contains_key-keys places place) ∙ there)

  known-has : (blob : Blob) → IsKnown places blob → Contains (named_among (map.keys places)) blob
  known-has blob known = filter_map-has (λ place. named_by (map.get places place)) (map.keys places) known.place blob
      (known-key known.place (ap is_some known.names)) (ap named_by known.names)

  pub are-named : (found sorted : List Blob) → found ≡ named_among (map.keys places) → IsPermutation found sorted
      → IsSorted blob_cmp sorted → AreNamed places sorted
  are-named found sorted is moved rises = record {
    sorted = rises;
    known = λ blob has. known-from blob (subst (λ blobs. Contains blobs blob) is
        (Contains-permutation sorted found blob (IsPermutation-sym found sorted moved) has));
    all = λ blob known. Contains-permutation found sorted blob moved
        (subst (λ blobs. Contains blobs blob) (sym is) (known-has blob known));
  }

-- blobs that don't tie aren't equal
differ : (a b : Blob) (order : Ordering) → blob_cmp a b ≡ order → order ≢ Equal → eq_by_cmp blob_cmp b a ≡ false
differ a b order is apart_so = apart blob_total blob_exact b a (λ same. apart_so (sym is ∙ tie same))
  where
    tie : b ≡ a → blob_cmp a b ≡ Equal
    tie same = is_equal _ (tied blob_total blob_exact a b (sym same))

-- a binary search tells whether the blob is there
pub searched-among : (named : List Blob) (blob : Blob) (r : Result ℕ ℕ) → IsSorted blob_cmp named
    → IsSearchInRange r (length named) → IsBinarySearchResult (λ other. blob_cmp other blob) named r
    → is_ok r ≡ is_among named blob
searched-among named blob (Ok i) rises within tie =
    sym (list_any_at (eq_by_cmp blob_cmp blob) named i blob within
    (tied blob_total blob_exact blob _ (sym (blob_exact _ blob (tie blob)))))
searched-among named blob (Err i) rises within parted =
    let at = parted (searchable_from_sorted blob_total (λ other. other) named blob rises) in
    sym (list_any_none (eq_by_cmp blob_cmp blob) named (λ k d inside. elim (cases_lt k i) [
      | inl below ↦ differ _ blob Less (at.0 k d (omega arith) below) (λ e. cc)
      | inr above ↦ differ _ blob Greater (at.1 k d above inside) (λ e. cc)
    ]))

-- what isn't among the blobs that known places name, none of them names
module _ (places : NamedPlaces) (named : List Blob) (are : AreNamed places named) where
  abbrev others : List Blob → List Blob
  others blobs = filter (λ blob. not (is_among named blob)) blobs

  first-unnamed : (blob : Blob) (blobs : List Blob) (found : Bool) → is_among named blob ≡ found
      → AreUnnamed places blobs (others blobs)
      → AreUnnamed places (blob ∷ blobs) (cond (not found) (blob ∷ others blobs) (others blobs))
  first-unnamed blob blobs true is rest = Named blob blobs (others blobs)
      (are.known blob (Contains-from_any (λ a b e. blob_exact a b (is_equal _ e)) blob named is)) rest
  first-unnamed blob blobs false is rest =
      Unnamed blob blobs (others blobs) (λ known. false≢true (sym is ∙ among known)) rest
    where
      among : IsKnown places blob → is_among named blob ≡ true
      among known = list_any-from_Contains (eq_by_cmp_equiv blob_total) blob named (are.all blob known)

  pub are-unnamed : (blobs : List Blob) → AreUnnamed places blobs (others blobs)
  are-unnamed [] = Nothing
  are-unnamed (blob ∷ blobs) = first-unnamed blob blobs (is_among named blob) refl (are-unnamed blobs)
