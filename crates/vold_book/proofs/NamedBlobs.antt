-- The blobs that a user's directories are known to name, place by place: the device key's, the current slot's, and
-- those of the numbered slots in the order of their numbers.
use Rattle.std.proofs.Common.{◌≡◌, ◌≢◌, ◌<◌, ℕ, ◌==◌, inl, inr, Bool, true, false, cond, List, [], ◌∷◌, ◌++◌, refl}
use Rattle.std.proofs.Common.{sym, ap, ◌∙◌, subst, arith, eq-eqb, eqb-true}
use Rattle.std.proofs.lemmas.Bool.{and_parts}
use Rattle.std.proofs.lemmas.Cmp.{ranked}
use Rattle.std.proofs.lemmas.List.{append-nil, append_assoc}
use Rattle.std.proofs.lemmas.List.Elements.{Contains-get_or}
use Rattle.std.proofs.lemmas.List.Kept.{AllPairs-cons}
use Rattle.std.specs.Prelude.{Option, Some, None, is_some, IsSome, AllPairs, Contains, option_to_list}
use Rattle.std.specs.List.{flat_map}
use Rattle.std.specs.declared.cmp.Ordering.{Ordering}
use Rattle.std.specs.declared.cmp.Ordering.TheVariants.{Less, Equal, Greater}
use Rattle.std.specs.Ordering.{nat_cmp, ordering_then}
use Rattle.std.specs.FinMap as map
use Rattle.std.specs.FinMap.{entries_sorted}
use Rattle.std.specs.FinMap.Entries.{is_sorted}
use Rattle.keystore_model.proofs.Elements.{Contains-none, Contains-first, Contains-rest, Contains-cases}
use Rattle.sorted_map.specs.Rows.{keys}
use Rattle.tree_model.specs.declared.blobs.Blob.{Blob}
use Rattle.tree_model.specs.declared.places.Place.{Place}
use Rattle.tree_model.specs.declared.places.Place.TheVariants.{De, Ce, Temp}
use Rattle.tree_model.specs.declared.places.Slot.{Slot}
use Rattle.tree_model.specs.declared.places.Slot.TheVariants.{Current, Cx}
use Rattle.tree_model.specs.Order.{slot_cmp, place_cmp, place_total, place_exact}
use Rattle.tree_model.proofs.Logic.{true_from_T, is_equal}
use Rattle.tree_model.proofs.Maps.{tied}
use Rattle.step_core.specs.Table.{NamedPlaces, named_by}
use Rattle.bench.specs.Bench.{is_kept_of, named_here, names_of_user}
use Rattle.bench.specs.Slots.{slot_of, slots_known}
use Rattle.vold_book.specs.Listing.{AreSlotNumbers, blobs_named}
use Rattle.vold_book.proofs.PlacedSlots.{AreOldestFirst, in-known, oldest-known, to-known}
use Rattle.vold_book.proofs.SlotsToTry.{below-key, key-there, there-key}

-- no place is below itself, and the device keys' are below all others
not-below : (place other : Place) → place_cmp place other ≡ Less → place ≢ other
not-below place other less same =
    let equal = is_equal (place_cmp place other) (tied place_total place_exact place other same) in
    apart (sym less ∙ equal)
  where
    apart : Less ≡ Equal → ⊥
    apart e = cc

devices-first : (place : Place) (user : ℕ) → place_cmp place (De user) ≡ Less → (owner : ℕ) × (place ≡ De owner)
devices-first (De owner) user less = (owner, refl)
devices-first (Ce owner slot) user less = cc
devices-first (Temp owner) user less = cc

abbrev Row : Type 0
Row = Place × Option Blob

-- a row's place is below those of the rows behind it
below-rest : (row : Row) (rows : List Row) → is_sorted place_cmp (row ∷ rows) ≡ true → (other : Place)
    → Contains (keys rows) other → place_cmp row.0 other ≡ Less
below-rest row rows sorted other has = below-key row.0 rows (and_parts _ _ sorted).0 other has

module _ (places : NamedPlaces) (user : ℕ) where
  abbrev named_of : Place → List Blob
  named_of place = cond (is_kept_of user place) (named_here places place) []

  abbrev in_slot : Slot → List Blob
  in_slot slot = named_here places (Ce user slot)

  -- what the place names where it is the user's device key's
  abbrev in_device : Place → List Blob
  in_device (De owner) = cond (owner == user) (named_here places (De user)) []
  in_device place = []

  device-other : (place : Place) → place ≢ De user → in_device place ≡ []
  device-other (De owner) differ = by (owner == user) refl
    where
      by : (same : Bool) → (owner == user) ≡ same → cond same (named_here places (De user)) [] ≡ []
      by true is = absurd (differ (ap De (eqb-true owner user is)))
      by false is = refl
  device-other (Ce owner slot) differ = refl
  device-other (Temp owner) differ = refl

  no-device : (all : List Place) → ((place : Place) → Contains all place → place ≢ De user)
      → flat_map in_device all ≡ []
  no-device [] differ = refl
  no-device (place ∷ all) differ =
      (λ i. device-other place (differ place (Contains-first place all)) i
      ++ no-device all (λ other has. differ other (Contains-rest place all other has)) i)

  one-device : (rows : List Row) → is_sorted place_cmp rows ≡ true → Contains (keys rows) (De user)
      → flat_map in_device (keys rows) ≡ named_here places (De user)
  one-device [] sorted has = absurd (Contains-none (De user) has)
  one-device (row ∷ rows) sorted has = elim (Contains-cases row.0 (keys rows) (De user) has) [
    | inl same ↦
        (λ i. (ap in_device same ∙ ap (λ t. cond t (named_here places (De user)) []) (eq-eqb user user refl)) i
        ++ no-device (keys rows) (λ other later is. not-below row.0 other (below-rest row rows sorted other later)
        (same ∙ sym is)) i) ∙ append-nil (named_here places (De user))
    | inr later ↦
        ap (λ blobs. blobs ++ flat_map in_device (keys rows))
        (device-other row.0 (not-below row.0 (De user) (below-rest row rows sorted (De user) later)))
        ∙ one-device rows (and_parts _ _ sorted).1 later
  ]

  devices : flat_map in_device (map.keys places) ≡ named_here places (De user)
  devices = by (map.get places (De user)) refl
    where
      by : (found : Option (Option Blob)) → map.get places (De user) ≡ found
          → flat_map in_device (map.keys places) ≡ named_here places (De user)
      by (Some named) is = one-device (map.entries places) (true_from_T _ (entries_sorted places))
          (there-key places (De user) (ap is_some is))
      by None is = no-device (map.keys places) (λ place has same. none (sym (ap is_some is)
          ∙ subst (λ p. IsSome (map.get places p)) same (key-there places place has)))
          ∙ sym (ap (λ found. option_to_list (named_by found)) is)
        where
          none : false ≡ true → ⊥
          none e = cc

  -- the device key's comes first, and then those of the slots
  split-names : (rows : List Row) → is_sorted place_cmp rows ≡ true → flat_map named_of (keys rows)
      ≡ flat_map in_device (keys rows) ++ flat_map in_slot (flat_map (slot_of user) (keys rows))
  split-names [] sorted = refl
  split-names (row ∷ rows) sorted =
      by row.0 (λ other has. below-rest row rows sorted other has) (split-names rows (and_parts _ _ sorted).1)
    where
      rest : List Blob
      rest = flat_map in_device (keys rows)

      slots : List Slot
      slots = flat_map (slot_of user) (keys rows)

      no-rest : (place : Place) → ((owner : ℕ) → place ≢ De owner)
          → ((other : Place) → Contains (keys rows) other → place_cmp place other ≡ Less) → rest ≡ []
      no-rest place differ below = no-device (keys rows) (λ other has same.
          let first = devices-first place user (subst (λ p. place_cmp place p ≡ Less) same (below other has)) in
          differ first.0 first.1)

      by : (place : Place) → ((other : Place) → Contains (keys rows) other → place_cmp place other ≡ Less)
          → flat_map named_of (keys rows) ≡ rest ++ flat_map in_slot slots
          → named_of place ++ flat_map named_of (keys rows)
          ≡ (in_device place ++ rest) ++ flat_map in_slot (slot_of user place ++ slots)
      by (De owner) below later = elim (owner == user) as (λ t. (owner == user) ≡ t
          → cond t (named_here places (De owner)) [] ++ flat_map named_of (keys rows)
          ≡ (cond t (named_here places (De user)) [] ++ rest) ++ flat_map in_slot slots) [
            | true ↦ λ same.
                (λ i. named_here places (De (eqb-true owner user same i)) ++ later i)
                ∙ sym (append_assoc (named_here places (De user)) rest (flat_map in_slot slots))
            | false ↦ λ same. later
          ] refl
      by (Ce owner slot) below later = elim (owner == user) as (λ t. (owner == user) ≡ t
          → cond t (named_here places (Ce owner slot)) [] ++ flat_map named_of (keys rows)
          ≡ rest ++ flat_map in_slot (cond t (slot ∷ []) [] ++ slots)) [
            | true ↦ λ same.
                let none = no-rest (Ce owner slot) (λ other is. apart other is) below in
                (λ i. named_here places (Ce (eqb-true owner user same i) slot)
                ++ (later ∙ ap (λ blobs. blobs ++ flat_map in_slot slots) none) i)
                ∙ ap (λ blobs. blobs ++ (in_slot slot ++ flat_map in_slot slots)) (sym none)
            | false ↦ λ same. later
          ] refl
        where
          apart : (other : ℕ) → Ce owner slot ≡ De other → ⊥
          apart other e = cc
      by (Temp owner) below later = later

-- the numbers of slots
abbrev pub numbers_in : List Slot → List ℕ
numbers_in [] = []
numbers_in (Current ∷ slots) = numbers_in slots
numbers_in (Cx number ∷ slots) = number ∷ numbers_in slots

number-in : (slots : List Slot) (number : ℕ) → Contains (numbers_in slots) number → Contains slots (Cx number)
number-in [] number has = absurd (Contains-none number has)
number-in (Current ∷ slots) number has = Contains-rest Current slots (Cx number) (number-in slots number has)
number-in (Cx other ∷ slots) number has = elim (Contains-cases other (numbers_in slots) number has) [
  | inl same ↦ subst (Contains (Cx other ∷ slots)) (ap Cx same) (Contains-first (Cx other) slots)
  | inr later ↦ Contains-rest (Cx other) slots (Cx number) (number-in slots number later)
]

in-number : (slots : List Slot) (number : ℕ) → Contains slots (Cx number) → Contains (numbers_in slots) number
in-number [] number has = absurd (Contains-none (Cx number) has)
in-number (Current ∷ slots) number has = elim (Contains-cases Current slots (Cx number) has) [
  | inl same ↦ absurd (apart same)
  | inr later ↦ in-number slots number later
]
  where
    apart : Current ≡ Cx number → ⊥
    apart e = cc
in-number (Cx other ∷ slots) number has = elim (Contains-cases (Cx other) slots (Cx number) has) [
  | inl same ↦ subst (Contains (other ∷ numbers_in slots)) (inner same) (Contains-first other (numbers_in slots))
  | inr later ↦ Contains-rest other (numbers_in slots) number (in-number slots number later)
]
  where
    inner : Cx other ≡ Cx number → other ≡ number
    inner e = cc

-- the current slot is the first, and the others stand in the order of their numbers
none-current : (slot : Slot) → slot_cmp slot Current ≡ Less → ⊥
none-current Current less = cc
none-current (Cx number) less = cc

number-rises : (number other : ℕ) → slot_cmp (Cx number) (Cx other) ≡ Less → number < other
number-rises number other less = by (nat_cmp number other) refl less
  where
    by : (order : Ordering) → nat_cmp number other ≡ order → ordering_then order Equal ≡ Less → number < other
    by Less is less = ranked number other Less (sym is)
    by Equal is less = cc
    by Greater is less = cc

rising-numbers : (slots : List Slot) → AreOldestFirst slots
    → AllPairs (λ earlier later. earlier < later) (numbers_in slots)
rising-numbers [] order = λ i j d before within. absurd (omega arith)
rising-numbers (Current ∷ slots) order = rising-numbers slots order.1
rising-numbers (Cx number ∷ slots) order =
    AllPairs-cons (λ earlier later. earlier < later) number (numbers_in slots)
    (λ k d within. number-rises number _ (order.0 _
    (number-in slots _ (Contains-get_or (numbers_in slots) k d within)))) (rising-numbers slots order.1)

module _ (places : NamedPlaces) (user : ℕ) where
  abbrev in_number : ℕ → List Blob
  in_number number = named_here places (Ce user (Cx number))

  -- behind the first slot none is the current one
  numbered-names : (first : Slot) (slots : List Slot) → AreOldestFirst (first ∷ slots)
      → flat_map (in_slot places user) slots ≡ flat_map in_number (numbers_in slots)
  numbered-names first [] order = refl
  numbered-names first (Current ∷ slots) order =
      absurd (none-current first (order.0 Current (Contains-first Current slots)))
  numbered-names first (Cx number ∷ slots) order =
      ap (λ blobs. in_number number ++ blobs) (numbered-names (Cx number) slots order.1)

  slots-named : (slots : List Slot) → AreOldestFirst slots
      → (¬ (Contains slots Current) → in_slot places user Current ≡ [])
      → flat_map (in_slot places user) slots
      ≡ in_slot places user Current ++ flat_map in_number (numbers_in slots)
  slots-named [] order none = sym (append-nil _ ∙ none (λ has. Contains-none Current has))
  slots-named (Current ∷ slots) order none =
      ap (λ blobs. in_slot places user Current ++ blobs) (numbered-names Current slots order)
  slots-named (Cx number ∷ slots) order none =
      ap (λ blobs. in_number number ++ blobs) (numbered-names (Cx number) slots order)
      ∙ ap (λ blobs. blobs ++ (in_number number ++ flat_map in_number (numbers_in slots)))
      (sym (none (λ has. elim (Contains-cases (Cx number) slots Current has) [
        | inl same ↦ apart same
        | inr later ↦ none-current (Cx number) (order.0 Current later)
      ])))
    where
      apart : Cx number ≡ Current → ⊥
      apart e = cc

  abbrev pub numbers : List ℕ
  numbers = numbers_in (slots_known places user)

  pub slot-numbers : AreSlotNumbers places user numbers
  slot-numbers = record {
    rising = rising-numbers (slots_known places user) (oldest-known user places);
    all = λ number. (
      λ has. in-known user places (Cx number) (number-in (slots_known places user) number has),
      λ there. in-number (slots_known places user) number (to-known user places (Cx number) there),
    );
  }

  current-none : ¬ (Contains (slots_known places user) Current) → in_slot places user Current ≡ []
  current-none none = by (map.get places (Ce user Current)) refl
    where
      by : (found : Option (Option Blob)) → map.get places (Ce user Current) ≡ found
          → in_slot places user Current ≡ []
      by None is = ap (λ found. option_to_list (named_by found)) is
      by (Some named) is = absurd (none (to-known user places Current (ap is_some is)))

  -- so these are all that the user's directories name
  pub names-all : names_of_user places user ≡ blobs_named places user numbers
  names-all = split-names places user (map.entries places) (true_from_T _ (entries_sorted places))
      ∙ (λ i. devices places user i
      ++ slots-named (slots_known places user) (oldest-known user places) current-none i)
