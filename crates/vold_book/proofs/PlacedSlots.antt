-- A user's slots, place by place: which they are, that they stand in their order, and the last of them.
use Rattle.std.proofs.Common.{◌≡◌, ◌⊎◌, ℕ, ◌+◌, ◌-◌, ◌<◌, ◌≤◌, ◌==◌, inl, inr, Bool, true, false, cond, List, []}
use Rattle.std.proofs.Common.{◌∷◌, ◌++◌, length, get_or, take, refl, sym, ap, ◌∙◌, subst, arith, eq-eqb, eqb-true}
use Rattle.std.proofs.Common.{length-append, suc}
use Rattle.std.proofs.lemmas.Bool.{and_parts}
use Rattle.std.proofs.lemmas.List.{append-nil, take_more}
use Rattle.std.proofs.lemmas.List.Concat.{flat_map-append}
use Rattle.std.proofs.lemmas.List.Elements.{Contains-append_left, Contains-append_right, Contains-append_cases}
use Rattle.std.specs.Prelude.{Option, IsSome, slice_get, unwrap_or, Contains}
use Rattle.std.specs.List.{flat_map}
use Rattle.std.specs.declared.cmp.Ordering.TheVariants.{Less}
use Rattle.std.specs.FinMap as map
use Rattle.std.specs.FinMap.{entries_sorted}
use Rattle.std.specs.FinMap.Entries.{is_sorted}
use Rattle.keystore_model.proofs.Elements.{Contains-none, Contains-first, Contains-rest, Contains-cases}
use Rattle.sorted_map.specs.Rows.{keys}
use Rattle.tree_model.specs.declared.blobs.Blob.{Blob}
use Rattle.tree_model.specs.declared.places.Place.{Place}
use Rattle.tree_model.specs.declared.places.Place.TheVariants.{De, Ce, Temp}
use Rattle.tree_model.specs.declared.places.Slot.{Slot}
use Rattle.tree_model.specs.Order.{slot_cmp, place_cmp}
use Rattle.tree_model.proofs.Logic.{true_from_T}
use Rattle.step_core.specs.Table.{NamedPlaces}
use Rattle.bench.specs.Slots.{slot_of, slots_known}
use Rattle.vold_book.specs.Slots.{last_slot}
use Rattle.vold_book.proofs.Counted.{Contains-single, length-keys}
use Rattle.vold_book.proofs.SlotsToTry.{places-order, key-there, there-key, below-key}

-- the last is the one that a vector has last
pub last-is : (slot : Slot) (slots : List Slot)
    → last_slot slot slots ≡ unwrap_or (slice_get slots (length slots - 1)) slot
last-is slot [] = refl
last-is slot (first ∷ []) = refl
last-is slot (first ∷ (second ∷ slots)) =
    let behind : suc (length (second ∷ slots) - 1) ≡ length (first ∷ (second ∷ slots)) - 1 = omega arith in
    last-is slot (second ∷ slots)
    ∙ ap (λ k. unwrap_or (slice_get (first ∷ (second ∷ slots)) k) slot) behind

-- it is one of them
pub last-in : (first : Slot) (slots : List Slot) → Contains (first ∷ slots) (last_slot first slots)
last-in first [] = Contains-first first []
last-in first (second ∷ slots) = Contains-rest first (second ∷ slots) (last_slot second slots) (last-in second slots)

-- slots, the oldest first
abbrev pub AreOldestFirst : List Slot → Type 0
AreOldestFirst [] = Unit {0}
AreOldestFirst (slot ∷ slots) =
    ((other : Slot) → Contains slots other → slot_cmp slot other ≡ Less) × AreOldestFirst slots

-- and then the last is the newest
pub last-newest : (first : Slot) (slots : List Slot) → AreOldestFirst (first ∷ slots) → (other : Slot)
    → Contains (first ∷ slots) other
    → (other ≡ last_slot first slots) ⊎ (slot_cmp other (last_slot first slots) ≡ Less)
last-newest first [] order other has = inl (sym (Contains-single first other has))
last-newest first (second ∷ slots) order other has = elim (Contains-cases first (second ∷ slots) other has) [
  | inl same ↦ inr (subst (λ slot. slot_cmp slot (last_slot second slots) ≡ Less) same
      (order.0 (last_slot second slots) (last-in second slots)))
  | inr rest ↦ last-newest second slots order.1 other rest
]

module _ (user : ℕ) where
  -- with one more place
  pub slots-more : (places : List Place) (i : ℕ) (default : Place) (now : List Slot) → i < length places
      → now ≡ slot_of user (get_or places i default)
      → flat_map (slot_of user) (take i places) ++ now ≡ flat_map (slot_of user) (take (i + 1) places)
  slots-more places i default now within is =
      ap (λ slots. flat_map (slot_of user) (take i places) ++ slots)
      (is ∙ sym (append-nil (slot_of user (get_or places i default))))
      ∙ sym (ap (flat_map (slot_of user)) (take_more places i default within)
      ∙ flat_map-append (slot_of user) (take i places) (get_or places i default ∷ []))

  -- whose slot a place's is
  at-slot : (place : Place) (slot : Slot) → Contains (slot_of user place) slot → place ≡ Ce user slot
  at-slot (De owner) slot has = absurd (Contains-none slot has)
  at-slot (Temp owner) slot has = absurd (Contains-none slot has)
  at-slot (Ce owner other) slot has = by (owner == user) refl has
    where
      by : (same : Bool) → (owner == user) ≡ same → Contains (cond same (other ∷ []) []) slot
          → Ce owner other ≡ Ce user slot
      by true one among = λ i. Ce (eqb-true owner user one i) (Contains-single other slot among i)
      by false one among = absurd (Contains-none slot among)

  to-slot : (slot : Slot) → Contains (slot_of user (Ce user slot)) slot
  to-slot slot = subst (λ t. Contains (cond t (slot ∷ []) []) slot) (sym (eq-eqb user user refl))
      (Contains-first slot [])

  in-places : (all : List Place) (slot : Slot) → Contains (flat_map (slot_of user) all) slot
      → Contains all (Ce user slot)
  in-places [] slot has = absurd (Contains-none slot has)
  in-places (place ∷ all) slot has =
      elim (Contains-append_cases (slot_of user place) (flat_map (slot_of user) all) slot has) [
        | inl one ↦ subst (Contains (place ∷ all)) (at-slot place slot one) (Contains-first place all)
        | inr among ↦ Contains-rest place all (Ce user slot) (in-places all slot among)
      ]

  of-places : (all : List Place) (slot : Slot) → Contains all (Ce user slot)
      → Contains (flat_map (slot_of user) all) slot
  of-places [] slot has = absurd (Contains-none (Ce user slot) has)
  of-places (place ∷ all) slot has = elim (Contains-cases place all (Ce user slot) has) [
    | inl same ↦ Contains-append_left (slot_of user place) (flat_map (slot_of user) all) slot
        (subst (λ p. Contains (slot_of user p) slot) (sym same) (to-slot slot))
    | inr rest ↦ Contains-append_right (slot_of user place) (flat_map (slot_of user) all) slot
        (of-places all slot rest)
  ]

  -- a slot of the user's is known where its place is
  pub in-known : (places : NamedPlaces) (slot : Slot) → Contains (slots_known places user) slot
      → IsSome (map.get places (Ce user slot))
  in-known places slot has = key-there places (Ce user slot) (in-places (map.keys places) slot has)

  pub to-known : (places : NamedPlaces) (slot : Slot) → IsSome (map.get places (Ce user slot))
      → Contains (slots_known places user) slot
  to-known places slot there = of-places (map.keys places) slot (there-key places (Ce user slot) there)

  -- they are no more than the places
  few-at : (place : Place) → length (slot_of user place) ≤ 1
  few-at (De owner) = omega arith
  few-at (Temp owner) = omega arith
  few-at (Ce owner slot) = by (owner == user)
    where
      by : (same : Bool) → length (cond same (slot ∷ []) []) ≤ 1
      by true = omega arith
      by false = omega arith

  few-of : (all : List Place) → length (flat_map (slot_of user) all) ≤ length all
  few-of [] = omega arith
  few-of (place ∷ all) =
      let rest = few-of all in
      let one = few-at place in
      let long = length-append (slot_of user place) (flat_map (slot_of user) all) in
      omega (arith, rest, one, long)

  pub few-known : (places : NamedPlaces) → length (slots_known places user) ≤ map.len places
  few-known places =
      let few = few-of (map.keys places) in let all = length-keys places in omega (arith, few, all)

  -- and stand in their order
  oldest-at : (place : Place) (slots : List Slot) → AreOldestFirst slots
      → ((slot other : Slot) → place ≡ Ce user slot → Contains slots other → slot_cmp slot other ≡ Less)
      → AreOldestFirst (slot_of user place ++ slots)
  oldest-at (De owner) slots order newer = order
  oldest-at (Temp owner) slots order newer = order
  oldest-at (Ce owner slot) slots order newer = by (owner == user) refl
    where
      by : (same : Bool) → (owner == user) ≡ same → AreOldestFirst (cond same (slot ∷ []) [] ++ slots)
      by true one =
          ((λ other has. newer slot other (λ i. Ce (eqb-true owner user one i) slot) has), order)
      by false one = order

  oldest-in : (rows : List (Place × Option Blob)) → is_sorted place_cmp rows ≡ true
      → AreOldestFirst (flat_map (slot_of user) (keys rows))
  oldest-in [] sorted = tt
  oldest-in (row ∷ rows) sorted =
      oldest-at row.0 (flat_map (slot_of user) (keys rows)) (oldest-in rows (and_parts _ _ sorted).1)
      (λ slot other is has. places-order user slot other
      (subst (λ p. place_cmp p (Ce user other) ≡ Less) is
      (below-key row.0 rows (and_parts _ _ sorted).0 (Ce user other) (in-places (keys rows) other has))))

  pub oldest-known : (places : NamedPlaces) → AreOldestFirst (slots_known places user)
  oldest-known places = oldest-in (map.entries places) (true_from_T _ (entries_sorted places))
