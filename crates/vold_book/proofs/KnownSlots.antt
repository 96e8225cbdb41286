-- What is known of a user's slots is what the machine has: whether one is left for a further secret, and which.
use Rattle.std.proofs.Common.{◌≡◌, ◌==◌, ◌≤◌, ◌^◌, ℕ, true, false, cond, List, [], ◌∷◌, ◌++◌, length, map, inl, inr}
use Rattle.std.proofs.Common.{refl, sym, ap, ◌∙◌, subst, arith}
use Rattle.std.proofs.lemmas.Bool.{eqb-true, eq-eqb}
use Rattle.std.proofs.lemmas.List.{length-map, map-append}
use Rattle.std.proofs.lemmas.List.Concat.{flat_map_single}
use Rattle.std.proofs.lemmas.List.Folds.{flat_map-map}
use Rattle.std.specs.Prelude.{Bool, ◌||◌, ◌&&◌, Option, Some, None, is_some, IsSome, Contains, nat_le}
use Rattle.std.specs.List.{flat_map}
use Rattle.std.specs.FinMap as maps
use Rattle.tree_model.specs.declared.places.Place.{Place}
use Rattle.tree_model.specs.declared.places.Place.TheVariants.{De, Ce, Temp}
use Rattle.tree_model.specs.declared.places.Slot.{Slot}
use Rattle.tree_model.specs.declared.places.Slot.TheVariants.{Current, Cx}
use Rattle.tree_model.specs.declared.sites.Site.TheVariants.{De as DeSite, Ce as CeSite}
use Rattle.tree_model.specs.Dir.{Files}
use Rattle.tree_model.specs.Disk.{view}
use Rattle.tree_model.specs.Order.{place_total, place_exact, slot_total, slot_exact}
use Rattle.tree_model.specs.Parts.{Part, part_of, standing}
use Rattle.tree_model.specs.Tree.{Tree}
use Rattle.keystore_model.proofs.Elements.{Contains-none, Contains-first, Contains-rest, Contains-cases}
use Rattle.journal_model.specs.declared.commands.Command.TheVariants.{Protect}
use Rattle.journal_model.specs.Machine.{Machine, is_full as is_full_there}
use Rattle.journal_model.specs.Users.{Record, after_slot, next_number, leave_none, slots_of, fold_changes}
use Rattle.user_world.specs.Meaning.{PartStands}
use Rattle.user_world.specs.OwnWorlds.{own_view, own_record}
use Rattle.user_world.proofs.OwnWorlds.{view-stands}
use Rattle.user_world.proofs.Timelines.{view-shown, known-shown}
use Rattle.key_directory.specs.Vaults.{Vault, OpensAt, SealedStands, sealed}
use Rattle.key_directory.proofs.Present.{there-user}
use Rattle.task_turns.specs.Shares.{Share, IsNextSlot}
use Rattle.step_core.specs.Table.{NamedPlaces}
use Rattle.bench.specs.Known.{Knows}
use Rattle.bench.specs.Slots.{slot_of, slots_known}
use Rattle.vold_book.specs.Slots.{is_full, slot_numbered, slot_next}
use Rattle.vold_book.specs.State.{Plain, machine_of, ground_of, share_of}
use Rattle.vold_book.specs.Whole.{Whole}
use Rattle.vold_book.proofs.Counted.{NoneTwice, same-count, all_of, all-found, from-all, all-once, Contains-single}
use Rattle.vold_book.proofs.SlotsToTry.{some-of}

-- the numbers behind slots
abbrev numbers : List Slot → List ℕ
numbers slots = map after_slot slots

number-below : (slots : List Slot) (u : ℕ) → Contains (numbers slots) u → u ≤ next_number slots
number-below [] u has = absurd (Contains-none u has)
number-below (slot ∷ slots) u has = elim (Contains-cases (after_slot slot) (numbers slots) u has) [
  | inl same ↦ omega (arith, same)
  | inr rest ↦ omega (arith, number-below slots u rest)
]

-- among more numbers the greatest is no less
next-more : (slots others : List Slot) → ((u : ℕ) → Contains (numbers slots) u → Contains (numbers others) u)
    → next_number slots ≤ next_number others
next-more [] others there = omega arith
next-more (slot ∷ slots) others there =
    let first = number-below others (after_slot slot) (there _ (Contains-first (after_slot slot) (numbers slots))) in
    let rest = next-more slots others (λ u has. there u (Contains-rest (after_slot slot) (numbers slots) u has)) in
    omega (arith, first, rest)

after-exact : (slot other : Slot) → after_slot slot ≡ after_slot other → slot ≡ other
after-exact Current Current e = refl
after-exact Current (Cx n) e = absurd (omega (arith, e))
after-exact (Cx n) Current e = absurd (omega (arith, e))
after-exact (Cx n) (Cx m) e = let same : n ≡ m = omega (arith, e) in ap Cx same

-- a slot of a user at a place
record IsSlotAt (user : ℕ) (place : Place) (u : ℕ) : Type 0 where
  slot : Slot
  is : place ≡ Ce user slot
  number : after_slot slot ≡ u

abbrev at_place : ℕ → Place → Option (List ℕ) → List ℕ
at_place user place named = numbers (slot_of user place)

abbrev at_slot : Slot → List ℕ → List ℕ
at_slot slot secret = after_slot slot ∷ []

slot-at : (user : ℕ) (place : Place) (u : ℕ) → Contains (numbers (slot_of user place)) u → IsSlotAt user place u
slot-at user (De owner) u has = absurd (Contains-none u has)
slot-at user (Temp owner) u has = absurd (Contains-none u has)
slot-at user (Ce owner slot) u has = by (owner == user) refl has
  where
    by : (t : Bool) → (owner == user) ≡ t → Contains (numbers (cond t (slot ∷ []) [])) u
        → IsSlotAt user (Ce owner slot) u
    by true is among = record {
      slot = slot;
      is = ap (λ o. Ce o slot) (eqb-true owner user is);
      number = Contains-single (after_slot slot) u among;
    }
    by false is among = absurd (Contains-none u among)

at-short : (user : ℕ) (place : Place) → length (numbers (slot_of user place)) ≤ 1
at-short user (De owner) = omega arith
at-short user (Temp owner) = omega arith
at-short user (Ce owner slot) = by (owner == user)
  where
    by : (t : Bool) → length (numbers (cond t (slot ∷ []) [])) ≤ 1
    by true = omega arith
    by false = omega arith

numbers-all : (user : ℕ) (all : List (Place × Option (List ℕ)))
    → numbers (flat_map (slot_of user) (map (λ row. row.0) all))
    ≡ flat_map (λ row. numbers (slot_of user row.0)) all
numbers-all user [] = refl
numbers-all user (row ∷ all) =
    map-append after_slot (slot_of user row.0) (flat_map (slot_of user) (map (λ r. r.0) all))
    ∙ ap (λ rest. numbers (slot_of user row.0) ++ rest) (numbers-all user all)

module _ (places : NamedPlaces) (tree : Tree) (knows : Knows places tree) (user : ℕ) (vault : Vault) (part : Part)
    (shown : part ≡ part_of tree user) (known : Record) (stands : SealedStands vault user (standing part) known) where
  -- a slot is recorded where its place is known
  pub slot-there : (slot : Slot) → is_some (maps.get places (Ce user slot)) ≡ is_some (maps.get known.secrets slot)
  slot-there slot = knows.there (Ce user slot) ∙ ap (λ p. is_some (p (CeSite slot))) (sym shown)
      ∙ by (part (CeSite slot)) (maps.get known.secrets slot) _ (stands.opens (CeSite slot))
    where
      by : (found : Option Files) (secret : Option (List ℕ)) (key : List ℕ)
          → OpensAt vault user (CeSite slot) found secret key → is_some found ≡ is_some secret
      by None None key opens = refl
      by None (Some secret) key opens = absurd opens
      by (Some files) None key opens = absurd opens
      by (Some files) (Some secret) key opens = refl

  abbrev recorded : List Slot
  recorded = maps.keys known.secrets

  known-all : numbers (slots_known places user) ≡ all_of (at_place user) places
  known-all = numbers-all user (maps.entries places)

  recorded-all : numbers recorded ≡ all_of at_slot known.secrets
  recorded-all = sym (flat_map_single after_slot recorded)
      ∙ flat_map-map (λ slot. after_slot slot ∷ []) (λ row. row.0) (maps.entries known.secrets)

  known-once : NoneTwice (numbers (slots_known places user))
  known-once = subst NoneTwice (sym known-all)
      (all-once place_total place_exact (at_place user) places (λ place named. at-short user place)
      (λ k k' x x' u at at' has has'. let one = slot-at user k u has in let other = slot-at user k' u has' in
      one.is ∙ ap (Ce user) (after-exact one.slot other.slot (one.number ∙ sym other.number)) ∙ sym other.is))

  recorded-once : NoneTwice (numbers recorded)
  recorded-once = subst NoneTwice (sym recorded-all)
      (all-once slot_total slot_exact at_slot known.secrets (λ slot secret. omega arith)
      (λ k k' x x' u at at' has has'. after-exact k k'
      (Contains-single (after_slot k) u has ∙ sym (Contains-single (after_slot k') u has'))))

  there : (u : ℕ) → Contains (numbers (slots_known places user)) u → Contains (numbers recorded) u
  there u has =
      let from = all-found place_total place_exact (at_place user) places u
      (subst (λ us. Contains us u) known-all has) in
      let at = slot-at user from.key u from.has in
      let found = some-of (maps.get known.secrets at.slot) (sym (slot-there at.slot)
      ∙ ap (λ place. is_some (maps.get places place)) (sym at.is) ∙ ap is_some from.at) in
      subst (λ us. Contains us u) (sym recorded-all)
      (from-all slot_total slot_exact at_slot known.secrets at.slot found.0 u found.1
      (subst (Contains (after_slot at.slot ∷ [])) at.number (Contains-first (after_slot at.slot) [])))

  back : (u : ℕ) → Contains (numbers recorded) u → Contains (numbers (slots_known places user)) u
  back u has =
      let from = all-found slot_total slot_exact at_slot known.secrets u
      (subst (λ us. Contains us u) recorded-all has) in
      let found = some-of (maps.get places (Ce user from.key)) (slot-there from.key ∙ ap is_some from.at) in
      subst (λ us. Contains us u) (sym known-all)
      (from-all place_total place_exact (at_place user) places (Ce user from.key) found.0 u found.1
      (subst (λ t. Contains (numbers (cond t (from.key ∷ []) [])) u) (sym (eq-eqb user user refl)) from.has))

  pub same-next : next_number (slots_known places user) ≡ next_number recorded
  same-next = let most = next-more (slots_known places user) recorded there in
      let least = next-more recorded (slots_known places user) back in omega (arith, most, least)

  pub as-many : length (slots_known places user) ≡ length recorded
  as-many = sym (length-map (slots_known places user) after_slot)
      ∙ same-count (numbers (slots_known places user)) (numbers recorded) known-once recorded-once there back
      ∙ length-map recorded after_slot

  pub same-left : leave_none (slots_known places user) ≡ leave_none recorded
  same-left = λ i. nat_le 8 (as-many i) || nat_le (2 ^ 32) (same-next i)

-- where one is left, it is the slot of the next number
pub left-next : (slots : List Slot) → leave_none slots ≡ false
    → slot_numbered (next_number slots) ≡ Cx (next_number slots)
left-next slots left = ap (λ high. cond high Current (Cx (next_number slots)))
    (low (nat_le 8 (length slots)) (nat_le (2 ^ 32) (next_number slots)) left)
  where
    low : (many high : Bool) → (many || high) ≡ false → high ≡ false
    low true high is = cc
    low false high is = is

module _ (book : Plain) (whole : Whole book) (user : ℕ) (knows : Knows book.bench.places (view book.bench.disk)) where
  abbrev machine : Machine
  machine = machine_of book

  abbrev pub share : Share
  share = share_of user (ground_of book)

  pub shown : own_view share.own ≡ part_of (view book.bench.disk) user
  shown = view-shown user _ (ground_of book).line whole.worlds.shows

  pub record-is : own_record share.own ≡ maps.get (fold_changes machine.log) user
  record-is = known-shown user _ (ground_of book).line whole.worlds.shows

  view-is : PartStands (sealed share.vault) user (own_view share.own) (own_record share.own)
  view-is = view-stands (sealed share.vault) user share.own (whole.worlds.images user)

  -- the record of a user who is there
  pub record IsThere : Type 0 where
    pub known : Record
    pub is : own_record share.own ≡ Some known
    pub stands : SealedStands share.vault user (standing (own_view share.own)) known

  pub who-is : IsSome (maps.get book.bench.places (De user)) → IsThere
  who-is there = by (own_record share.own) refl view-is
    where
      here : is_some (own_view share.own DeSite) ≡ true
      here = ap (λ p. is_some (p DeSite)) shown ∙ sym (knows.there (De user)) ∙ there

      by : (found : Option Record) → own_record share.own ≡ found
          → PartStands (sealed share.vault) user (own_view share.own) found → IsThere
      by None is gone = let none : false ≡ true = sym (ap is_some gone) ∙ here in cc
      by (Some known) is stands = record { known = known; is = is; stands = stands }

  -- whether a slot is left for a further secret
  pub slots-agree : is_full book.bench.places (Some user) ≡ is_full_there (Some user) (fold_changes machine.log)
  slots-agree = by (maps.get book.bench.places (De user)) refl
    where
      recorded-none : (found : Option Record) → is_some found ≡ false → leave_none (slots_of found) ≡ false
      recorded-none None none = refl
      recorded-none (Some known) none = cc

      by : (found : _) → maps.get book.bench.places (De user) ≡ found
          → (is_some found && leave_none (slots_known book.bench.places user))
          ≡ leave_none (slots_of (maps.get (fold_changes machine.log) user))
      by None none = sym (recorded-none _ (sym (there-user share.vault (ground_of book).line user whole.worlds)
          ∙ sym (knows.there (De user)) ∙ ap is_some none))
      by (Some named) is =
          let there = who-is (ap is_some is) in
          same-left book.bench.places (view book.bench.disk) knows user share.vault (own_view share.own) shown
          there.known there.stands
          ∙ ap (λ found. leave_none (slots_of found)) (sym there.is ∙ record-is)

  -- and which
  pub next-slot : (given fresh : List ℕ) → IsSome (maps.get book.bench.places (De user))
      → is_full book.bench.places (Some user) ≡ false
      → IsNextSlot share (slot_next book.bench.places (Protect user given fresh))
  next-slot given fresh there left = let of = who-is there in record {
    known = of.known;
    there = of.is;
    next = left-next (slots_known book.bench.places user)
        (ap (λ t. t && leave_none (slots_known book.bench.places user)) (sym there) ∙ left)
        ∙ ap Cx (same-next book.bench.places (view book.bench.disk) knows user share.vault (own_view share.own) shown
        of.known of.stands);
  }
