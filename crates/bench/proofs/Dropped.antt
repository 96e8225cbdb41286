-- The blobs that an operation drops, by what is known of the places, and those that the user's directories name.
use Rattle.std.proofs.Common.{◌≡◌, ◌≢◌, ◌≤◌, ◌+◌, ◌==◌, inl, inr, ℕ, Bool, true, false, cond, T, List, [], ◌∷◌, length}
use Rattle.std.proofs.Common.{◌++◌, map as map_list, flat_map, refl, sym, ap, ◌∙◌, subst, arith, length-append}
use Rattle.std.proofs.lemmas.Bool.{eqb-true, eq-eqb}
use Rattle.std.proofs.lemmas.List.Elements.{Contains-append_left, Contains-append_right, Contains-append_cases}
use Rattle.std.specs.Prelude.{Option, Some, None, is_some, IsSome, Contains, option_to_list}
use Rattle.std.specs.Ordering.{is_lt}
use Rattle.std.specs.FinMap as map
use Rattle.std.specs.FinMap.{entries_sorted}
use Rattle.std.specs.FinMap.Entries.{is_sorted, below_all}
use Rattle.tree_model.specs.declared.blobs.Blob.{Blob}
use Rattle.tree_model.specs.declared.places.Place.{Place}
use Rattle.tree_model.specs.declared.places.Place.TheVariants.{De as DePlace, Ce as CePlace, Temp as TempPlace}
use Rattle.tree_model.specs.declared.places.Slot.{Slot}
use Rattle.tree_model.specs.declared.sites.Site.{Site}
use Rattle.tree_model.specs.declared.sites.Site.TheVariants.{De, Ce, Temp}
use Rattle.tree_model.specs.declared.sites.LocalOp.{LocalOp}
use Rattle.tree_model.specs.declared.sites.LocalOp.TheVariants.{RemoveDir}
use Rattle.tree_model.specs.Dir.{Files}
use Rattle.tree_model.specs.Named.{named_at, PartNames}
use Rattle.tree_model.specs.Order.{place_cmp, place_total, place_exact}
use Rattle.tree_model.specs.Parts.{Part, part_of, standing}
use Rattle.tree_model.specs.Sites.{place_of, touches}
use Rattle.tree_model.specs.Tree.{Tree}
use Rattle.tree_model.proofs.Logic.{T_first, T_second, T_less, is_equal}
use Rattle.tree_model.proofs.Maps.{decide_key, tied}
use Rattle.keystore_model.specs.Store.{Differ}
use Rattle.keystore_model.proofs.Elements.{Contains-none, Contains-first, Contains-cases}
use Rattle.key_directory.specs.Shape.{sized}
use Rattle.blob_custody.specs.Operations.{AreNamed, NamesAlone, names_of}
use Rattle.blob_custody.proofs.Names.{option-in, option-from}
use Rattle.step_core.specs.Table.{NamedPlaces, named_by}
use Rattle.bench.specs.Bench.{named_in, is_kept_of, named_here, names_of_user, dropped}
use Rattle.bench.specs.Known.{IsLasting, Knows}
use Rattle.bench.specs.Slots.{slot_of, slots_known}
use Rattle.bench.specs.Steps.{IsWhole}
use Rattle.bench.proofs.Known.{sized-whole}
use Rattle.bench.proofs.Named.{named-back, known-key}

module _ {X Y : Type 0} (f : X → List Y) where
  flat_map-from : (xs : List X) (y : Y) → Contains (flat_map f xs) y → (x : X) × Contains (f x) y
  flat_map-from [] y has = absurd (Contains-none y has)
  flat_map-from (x ∷ xs) y has = elim (Contains-append_cases (f x) (flat_map f xs) y has) [
    | inl here ↦ (x, here)
    | inr later ↦ flat_map-from xs y later
  ]

  flat_map-has : (xs : List X) (x : X) (y : Y) → Contains xs x → Contains (f x) y → Contains (flat_map f xs) y
  flat_map-has [] x y has here = absurd (Contains-none x has)
  flat_map-has (first ∷ xs) x y has here = elim (Contains-cases first xs x has) [
    | inl same ↦ Contains-append_left (f first) (flat_map f xs) y (subst (λ at. Contains (f at) y) (sym same) here)
    | inr later ↦ Contains-append_right (f first) (flat_map f xs) y (flat_map-has xs x y later here)
  ]

below-differs : (place above : Place) → T (is_lt (place_cmp place above)) → above ≢ place
below-differs place above below same =
    let less = T_less (place_cmp place above) below in
    let equal = is_equal _ (tied place_total place_exact place above (sym same)) in
    cc

-- a list of at most one blob, before others among which it isn't
differ-before : (one others : List Blob) → length one ≤ 1
    → ((blob : Blob) → Contains one blob → ¬ (Contains others blob)) → Differ others → Differ (one ++ others)
differ-before [] others short apart differ = differ
differ-before (blob ∷ []) others short apart differ = (apart blob (Contains-first blob []), differ)
differ-before (blob ∷ next ∷ rest) others short apart differ = absurd (omega (arith, short))

module _ (places : NamedPlaces) (user : ℕ) where
  -- the blob that a place is known to name, where it is one of the user's
  abbrev pub named_of : Place → List Blob
  named_of place = cond (is_kept_of user place) (named_here places place) []

  kept-site : (place : Place) → is_kept_of user place ≡ true
      → (site : Site) × IsLasting (place_of user site) × (place ≡ place_of user site)
  kept-site (DePlace owner) is = (De, (λ temporary. temporary), ap DePlace (eqb-true owner user is))
  kept-site (CePlace owner slot) is =
      (Ce slot, (λ temporary. temporary), ap (λ o. CePlace o slot) (eqb-true owner user is))
  kept-site (TempPlace owner) is = cc

  site-kept : (site : Site) → IsLasting (place_of user site) → is_kept_of user (place_of user site) ≡ true
  site-kept De lasting = eq-eqb user user refl
  site-kept (Ce slot) lasting = eq-eqb user user refl
  site-kept Temp lasting = absurd (lasting tt)

  -- a place names one blob at most, and none but the device key's names any where no slot is
  one-named : (named : Option Blob) → length (option_to_list named) ≤ 1
  one-named None = omega arith
  one-named (Some blob) = omega arith

  few-named : (place : Place) → length (named_of place) ≤ 1
  few-named place = by (is_kept_of user place)
    where
      by : (kept : Bool) → length (cond kept (named_here places place) []) ≤ 1
      by true = one-named (named_by (map.get places place))
      by false = omega arith

  slot-named : (place : Place) → place ≢ DePlace user → length (named_of place) ≤ length (slot_of user place)
  slot-named (TempPlace owner) differ = omega arith
  slot-named (DePlace owner) differ = by (owner == user) refl
    where
      by : (kept : Bool) → (owner == user) ≡ kept → length (cond kept (named_here places (DePlace owner)) []) ≤ 0
      by true is = absurd (differ (ap DePlace (eqb-true owner user is)))
      by false is = omega arith
  slot-named (CePlace owner slot) differ = by (owner == user)
    where
      by : (kept : Bool) → length (cond kept (named_here places (CePlace owner slot)) [])
          ≤ length (cond kept (slot ∷ []) [])
      by true = one-named (named_by (map.get places (CePlace owner slot)))
      by false = omega arith

  abbrev Row : Type 0
  Row = Place × Option (List ℕ)

  abbrev names_in : List Row → List Blob
  names_in rows = flat_map named_of (map_list (λ row. row.0) rows)

  abbrev slots_in : List Row → List Slot
  slots_in rows = flat_map (slot_of user) (map_list (λ row. row.0) rows)

  -- a row above a place, at another place
  later-named : (place : Place) (rows : List Row) → T (below_all place_cmp place rows) → (blob : Blob)
      → Contains (names_in rows) blob → (later : Place) × (later ≢ place) × Contains (named_of later) blob
  later-named place [] below blob has = absurd (Contains-none blob has)
  later-named place (row ∷ rows) below blob has =
      elim (Contains-append_cases (named_of row.0) (names_in rows) blob has) [
        | inl here ↦ (row.0, below-differs place row.0 (T_first _ _ below), here)
        | inr rest ↦ later-named place rows (T_second _ _ below) blob rest
      ]

  -- no blob twice where no two places name one
  differ-in : ((place other : Place) (blob : Blob) → other ≢ place → Contains (named_of place) blob
      → ¬ (Contains (named_of other) blob))
      → (rows : List Row) → T (is_sorted place_cmp rows) → Differ (names_in rows)
  differ-in apart [] sorted = tt
  differ-in apart (row ∷ rows) sorted =
      differ-before (named_of row.0) (names_in rows) (few-named row.0)
      (λ blob here rest. let later = later-named row.0 rows (T_first _ _ sorted) blob rest in
      apart row.0 later.0 blob later.1 here later.2)
      (differ-in apart rows (T_second _ _ sorted))

  few-after : (rows : List Row) → T (below_all place_cmp (DePlace user) rows)
      → length (names_in rows) ≤ length (slots_in rows)
  few-after [] below = omega arith
  few-after (row ∷ rows) below =
      let above = below-differs (DePlace user) row.0 (T_first _ _ below) in
      simp length-append (omega (arith, slot-named row.0 above, few-after rows (T_second _ _ below)))

  few-in : (rows : List Row) → T (is_sorted place_cmp rows) → length (names_in rows) ≤ 1 + length (slots_in rows)
  few-in [] sorted = omega arith
  few-in (row ∷ rows) sorted = elim (decide_key place_total place_exact row.0 (DePlace user)) [
    | inl same ↦
        let below = subst (λ place. T (below_all place_cmp place rows)) same (T_first _ _ sorted) in
        simp length-append (omega (arith, few-named row.0, few-after rows below))
    | inr differ ↦ simp length-append (omega (arith, slot-named row.0 differ, few-in rows (T_second _ _ sorted)))
  ]

  -- an operation drops no more than the user's slots and the device key name
  pub dropped-few : (op : LocalOp) → length (dropped places user op) ≤ 1 + length (slots_known places user)
  dropped-few (RemoveDir De) = few-in (map.entries places) (entries_sorted places)
  dropped-few (RemoveDir (Ce slot)) = by (map.contains_key places (DePlace user))
    where
      by : (there : Bool) → length (cond there (named_here places (CePlace user slot)) [])
          ≤ 1 + length (slots_known places user)
      by true = let one = one-named (named_by (map.get places (CePlace user slot))) in omega (arith, one)
      by false = omega arith
  dropped-few op = omega arith

named-sized : (held : Option Files) → named_by (named_in held) ≡ sized (named_at held)
named-sized None = refl
named-sized (Some files) = refl

module _ (places : NamedPlaces) (tree : Tree) (user : ℕ) (knows : Knows places tree) where
  -- nothing where the device key's directory isn't there and stays away
  pub dropped-debris : (op : LocalOp) → touches op De ≡ false → part_of tree user De ≡ None
      → dropped places user op ≡ []
  dropped-debris (RemoveDir De) other absent = cc
  dropped-debris (RemoveDir (Ce slot)) other absent =
      ap (λ there. cond there (named_here places (CePlace user slot)) [])
      (knows.there (DePlace user) ∙ ap is_some absent)
  dropped-debris op other absent = refl

  -- where it is there, and each blob that the user's directories name has 32 bytes
  module _ (present : IsSome (part_of tree user De))
      (whole : (blob : Blob) → PartNames (part_of tree user) blob → length blob ≡ 32) where
    abbrev part : Part
    part = part_of tree user

    stands : (site : Site) → IsLasting (place_of user site) → standing part site ≡ part site
    stands De lasting = refl
    stands (Ce slot) lasting = refl
    stands Temp lasting = absurd (lasting tt)

    long : (site : Site) (named : Option Blob) → named_at (standing part site) ≡ named → IsWhole named
    long site None is = tt
    long site (Some blob) is = whole blob (record { present = present; site = site; names = is })

    known-named : (site : Site) → IsLasting (place_of user site)
        → named_by (map.get places (place_of user site)) ≡ named_at (standing part site)
    known-named site lasting =
        ap named_by (knows.names (place_of user site) lasting) ∙ named-sized (part site)
        ∙ ap (λ held. sized (named_at held)) (sym (stands site lasting))
        ∙ sized-whole (named_at (standing part site)) (long site (named_at (standing part site)) refl)

    site-in : (site : Site) → IsLasting (place_of user site) → (blob : Blob)
        → named_at (standing part site) ≡ Some blob → Contains (names_of_user places user) blob
    site-in site lasting blob names =
        let named = known-named site lasting ∙ names in
        let there = ap is_some (named-back (map.get places (place_of user site)) blob named) in
        flat_map-has (named_of places user) (map.keys places) (place_of user site) blob
        (known-key places (place_of user site) there)
        (subst (λ kept. Contains (cond kept (named_here places (place_of user site)) []) blob)
        (sym (site-kept places user site lasting))
        (option-in (named_by (map.get places (place_of user site))) blob named))

    named-from : (place : Place) (blob : Blob) → Contains (named_of places user place) blob
        → (site : Site) × (place ≡ place_of user site) × (named_at (standing part site) ≡ Some blob)
    named-from place blob = by (is_kept_of user place) refl
      where
        by : (kept : Bool) → is_kept_of user place ≡ kept → Contains (cond kept (named_here places place) []) blob
            → (site : Site) × (place ≡ place_of user site) × (named_at (standing part site) ≡ Some blob)
        by false is has = absurd (Contains-none blob has)
        by true is has =
            let at = kept-site places user place is in
            let here = subst (λ other. Contains (named_here places other) blob) at.2 has in
            (at.0, at.2, sym (known-named at.0 at.1) ∙ option-from _ blob here)

    -- with the device key's directory what the user's directories name
    pub dropped-named : AreNamed part (dropped places user (RemoveDir De))
    dropped-named = record {
      are = λ blob has.
          let of = flat_map-from (named_of places user) (map.keys places) blob has in
          let from = named-from of.0 blob of.1 in
          record { present = present; site = from.0; names = from.2 };
      all = λ blob names. lasting-in names.site blob names.names;
    }
      where
        lasting-in : (site : Site) (blob : Blob) → named_at (standing part site) ≡ Some blob
            → Contains (names_of_user places user) blob
        lasting-in Temp blob names = cc
        lasting-in De blob names = site-in De (λ temporary. temporary) blob names
        lasting-in (Ce slot) blob names = site-in (Ce slot) (λ temporary. temporary) blob names

    -- and no blob twice, where each slot's directory names another than the others
    pub dropped-differ : ((slot : Slot) → NamesAlone part slot) → Differ (dropped places user (RemoveDir De))
    dropped-differ alone = differ-in places user (λ place other blob differ here there.
        let from = named-from place blob here in
        let to = named-from other blob there in
        apart from.0 to.0 blob (λ same. differ (to.1 ∙ sym (ap (place_of user) same) ∙ sym from.1)) from.2 to.2)
        (map.entries places) (entries_sorted places)
      where
        apart : (site other : Site) (blob : Blob) → site ≢ other → named_at (standing part site) ≡ Some blob
            → named_at (standing part other) ≢ Some blob
        apart Temp other blob differ names named = cc
        apart De De blob differ names named = differ refl
        apart De (Ce slot) blob differ names named = (alone slot).device blob names named
        apart De Temp blob differ names named = cc
        apart (Ce slot) De blob differ names named = (alone slot).device blob named names
        apart (Ce slot) (Ce other) blob differ names named =
            (alone other).apart slot blob (λ same. differ (ap Ce same)) names named
        apart (Ce slot) Temp blob differ names named = cc

    -- and with a slot's what that names
    pub dropped-slot : (slot : Slot) → dropped places user (RemoveDir (Ce slot)) ≡ names_of part (Ce slot)
    dropped-slot slot =
        ap (λ there. cond there (named_here places (CePlace user slot)) []) (knows.there (DePlace user) ∙ present)
        ∙ ap option_to_list (known-named (Ce slot) (λ temporary. temporary))
