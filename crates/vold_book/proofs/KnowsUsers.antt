-- What a Book knows of a user as a command of the user's begins is so in the user's share.
use Rattle.std.proofs.Common.{◌≡◌, ◌≢◌, ◌⊎◌, ℕ, inl, inr, Bool, true, false, List, [], ◌∷◌, length, refl, sym, ap}
use Rattle.std.proofs.Common.{◌∙◌, subst, arith}
use Rattle.std.proofs.lemmas.Option.{same_Some}
use Rattle.std.specs.Cmp.{tied_itself}
use Rattle.std.specs.Prelude.{not, Option, Some, None, is_some, IsSome, Contains}
use Rattle.std.specs.declared.cmp.Ordering.TheVariants.{Less}
use Rattle.std.specs.FinMap as map
use Rattle.keystore_model.proofs.Elements.{Contains-none, Contains-first, Contains-rest, Contains-cases}
use Rattle.blob_custody.proofs.Lists.{map-from, map-has}
use Rattle.tree_model.specs.declared.places.Class.{Class}
use Rattle.tree_model.specs.declared.places.Class.TheVariants.{De as ForDe, Ce as ForCe}
use Rattle.tree_model.specs.declared.places.Place.TheVariants.{De, Ce, Temp}
use Rattle.tree_model.specs.declared.places.Slot.{Slot}
use Rattle.tree_model.specs.declared.places.Slot.TheVariants.{Current}
use Rattle.tree_model.specs.declared.sites.Site.{Site}
use Rattle.tree_model.specs.declared.sites.Site.TheVariants.{De as DeSite, Ce as CeSite, Temp as TempSite}
use Rattle.tree_model.specs.Disk.{view}
use Rattle.tree_model.specs.Order.{slot_cmp, slot_total}
use Rattle.tree_model.specs.Parts.{part_of}
use Rattle.tree_model.specs.Sites.{place_of}
use Rattle.tree_model.proofs.Logic.{is_none}
use Rattle.journal_model.specs.declared.commands.Command.{Command}
use Rattle.journal_model.specs.declared.commands.Command.TheVariants.{Create, Unlock, Lock, Protect, Fixate, Destroy}
use Rattle.journal_model.specs.declared.commands.Command.TheVariants.{Recover}
use Rattle.journal_model.specs.declared.commands.Reply.{Reply}
use Rattle.journal_model.specs.declared.commands.Reply.TheVariants.{NoUser, NoSlot}
use Rattle.journal_model.specs.Command.{user_in}
use Rattle.journal_model.specs.HeldSlots.{HasSlot}
use Rattle.journal_model.specs.Refusals.{refusal_of, due, first_due}
use Rattle.journal_model.specs.Users.{HasNewest}
use Rattle.journal_model.proofs.HeldSlots.{held-slots}
use Rattle.key_directory.specs.Opened.{WasGiven}
use Rattle.key_directory.specs.Tried.{given_by, not_empty}
use Rattle.key_ring.specs.Ring.{has_owner}
use Rattle.key_ring.proofs.Owners.{found}
use Rattle.user_world.specs.OwnWorlds.{own_view}
use Rattle.task_turns.specs.Shares.{HasKey}
use Rattle.task_turns.specs.Shares.{Share, ShareFact, Own, LeftToTry, NextSlot, AllSlots, Newest, SlotsFew, Has}
use Rattle.task_turns.specs.Shares.{IsHeld}
use Rattle.user_world.specs.Facts.{Sites, HasSites}
use Rattle.step_core.specs.Table.{NamedPlaces}
use Rattle.bench.specs.Known.{Knows}
use Rattle.bench.specs.Slots.{slots_known}
use Rattle.user_tasks.specs.declared.looks.Known.{Known}
use Rattle.user_tasks.specs.Destroy.{all_sites, sites_of}
use Rattle.user_tasks.specs.Tasks.{AreToTry, KnowsUser}
use Rattle.vold_book.specs.Knowing.{IsKnown, has_temp_in, has_key_in}
use Rattle.vold_book.specs.Slots.{slots_in, slots_of, last_slot, slot_next, is_full}
use Rattle.vold_book.specs.State.{Plain, machine_of, ground_of, share_of}
use Rattle.vold_book.specs.Turns.{facts_in, user_there}
use Rattle.vold_book.specs.Whole.{Whole}
use Rattle.vold_book.proofs.KnownSlots.{IsThere, shown, who-is, record-is, slot-there, as-many, next-slot}
use Rattle.vold_book.proofs.PlacedSlots.{AreOldestFirst, in-known, to-known, last-in, last-newest, oldest-known}
use Rattle.vold_book.proofs.SlotsToTry.{left-to-try, sound-share}

not-below : (slot : Slot) → slot_cmp slot slot ≢ Less
not-below slot less = let equal = tied_itself slot_total slot in cc

not-both : (slot other : Slot) → slot_cmp slot other ≡ Less → slot_cmp other slot ≢ Less
not-both slot other less more = not-below slot (slot_total.trans slot other slot less more)

module _ (book : Plain) (whole : Whole book) (user : ℕ) (knows : Knows book.bench.places (view book.bench.disk))
    (there : IsSome (map.get book.bench.places (De user))) where
  abbrev places : NamedPlaces
  places = book.bench.places

  abbrev slots : List Slot
  slots = slots_known places user

  abbrev share : Share
  share = share_of user (ground_of book)

  abbrev of : IsThere book whole user knows
  of = who-is book whole user knows there

  seen : own_view share.own ≡ part_of (view book.bench.disk) user
  seen = shown book whole user knows

  -- a slot is recorded where it is known
  has-slot : (slot : Slot) → is_some (map.get places (Ce user slot)) ≡ is_some (map.get of.known.secrets slot)
  has-slot =
      slot-there places (view book.bench.disk) knows user share.vault (own_view share.own) seen of.known of.stands

  known-recorded : (slot : Slot) → Contains slots slot → IsSome (map.get of.known.secrets slot)
  known-recorded slot has = sym (has-slot slot) ∙ in-known user places slot has

  recorded-known : (slot : Slot) → IsSome (map.get of.known.secrets slot) → Contains slots slot
  recorded-known slot recorded = to-known user places slot (has-slot slot ∙ recorded)

  pub all-slots : Has (AllSlots slots) share
  all-slots = record { known = of.known; there = of.is; has = known-recorded; all = recorded-known }

  pub newest-slot : Has (Newest (last_slot Current slots)) share
  newest-slot = record {
    known = of.known;
    there = of.is;
    newest = by slots (oldest-known user places) known-recorded recorded-known;
  }
    where
      some : HasSlot of.known
      some = held-slots book.ledger.entries whole.legal user of.known
          (sym (record-is book whole user knows) ∙ of.is)

      by : (all : List Slot) → AreOldestFirst all
          → ((slot : Slot) → Contains all slot → IsSome (map.get of.known.secrets slot))
          → ((slot : Slot) → IsSome (map.get of.known.secrets slot) → Contains all slot)
          → HasNewest of.known (last_slot Current all)
      by [] order has back = absurd (Contains-none some.slot (back some.slot some.there))
      by (first ∷ all) order has back = record {
        there = has (last_slot first all) (last-in first all);
        newest = λ other above. none other above (is_some (map.get of.known.secrets other)) refl;
      }
        where
          none : (other : Slot) → slot_cmp (last_slot first all) other ≡ Less → (found : Bool)
              → is_some (map.get of.known.secrets other) ≡ found → map.get of.known.secrets other ≡ None
          none other above false is = is_none (map.get of.known.secrets other) is
          none other above true is = elim (last-newest first all order other (back other is)) [
            | inl same ↦ absurd (not-below other
                (subst (λ slot. slot_cmp slot other ≡ Less) (sym same) above))
            | inr below ↦ absurd (not-both other (last_slot first all) below above)
          ]

  pub many-slots : length slots ≡ length (map.keys of.known.secrets)
  many-slots =
      as-many places (view book.bench.disk) knows user share.vault (own_view share.own) seen of.known of.stands

  pub few-slots : Has (SlotsFew (length slots)) share
  few-slots = let same = many-slots in record { known = of.known; there = of.is; few = omega (arith, same) }

  -- a site stands where its place is known
  stands-at : (site : Site) → is_some (own_view share.own site) ≡ is_some (map.get places (place_of user site))
  stands-at site = ap (λ part. is_some (part site)) seen ∙ sym (knows.there (place_of user site))

  kept-there : (site : Site) → Contains (DeSite ∷ sites_of slots) site → IsSome (own_view share.own site)
  kept-there site has = elim (Contains-cases DeSite (sites_of slots) site has) [
    | inl same ↦ subst (λ s. IsSome (own_view share.own s)) same (stands-at DeSite ∙ there)
    | inr rest ↦
        let from = map-from (λ slot. CeSite slot) slots site rest in
        subst (λ s. IsSome (own_view share.own s)) from.1.1
        (stands-at (CeSite from.0) ∙ in-known user places from.0 from.1.0)
  ]

  there-kept : (site : Site) → IsSome (own_view share.own site)
      → (TempSite ≡ site) ⊎ Contains (DeSite ∷ sites_of slots) site
  there-kept DeSite stands = inr (Contains-first DeSite (sites_of slots))
  there-kept (CeSite slot) stands = inr (Contains-rest DeSite (sites_of slots) (CeSite slot)
      (map-has (λ s. CeSite s) slots slot (to-known user places slot (sym (stands-at (CeSite slot)) ∙ stands))))
  there-kept TempSite stands = inl refl

  all-there : (temp : Bool) → is_some (map.get places (Temp user)) ≡ temp
      → HasSites (own_view share.own) (all_sites temp slots)
  all-there true is = record {
    there = λ site has. elim (Contains-cases TempSite (DeSite ∷ sites_of slots) site has) [
      | inl same ↦ subst (λ s. IsSome (own_view share.own s)) same (stands-at TempSite ∙ is)
      | inr rest ↦ kept-there site rest
    ];
    all = λ site stands. elim (there-kept site stands) [
      | inl same ↦ subst (Contains (TempSite ∷ (DeSite ∷ sites_of slots))) same
          (Contains-first TempSite (DeSite ∷ sites_of slots))
      | inr kept ↦ Contains-rest TempSite (DeSite ∷ sites_of slots) site kept
    ];
  }
  all-there false is = record {
    there = kept-there;
    all = λ site stands. elim (there-kept site stands) [
      | inl same ↦
          let none : true ≡ false = sym stands ∙ ap (λ s. is_some (own_view share.own s)) (sym same)
          ∙ stands-at TempSite ∙ is in
          absurd (cc)
      | inr kept ↦ kept
    ];
  }

  pub all-sites : Has (Own (Sites (all_sites (is_some (map.get places (Temp user))) slots))) share
  all-sites = all-there (is_some (map.get places (Temp user))) refl

-- whose command is not refused is there, and a protect leaves a slot
present-by : (present : Bool) → due (not present) NoUser ≡ None → present ≡ true
present-by true none = refl
present-by false none = cc

there-by : (present : Bool) (other : Option Reply) → first_due (due (not present) NoUser) other ≡ None
    → (present ≡ true) × (other ≡ None)
there-by true other none = (refl, none)
there-by false other none = cc

not-due : (holds : Bool) → due holds NoSlot ≡ None → holds ≡ false
not-due true none = cc
not-due false none = refl

-- what is left of a user's share once the command began: each fact that held, and the secret that it gave was tried
pub record HasBegun (command : Command) (user : ℕ) (before after : Share) : Type 0 where
  pub still : (fact : ShareFact) → IsHeld [] fact → Has fact before → Has fact after
  pub gave : (secret : List ℕ) → given_by command ≡ not_empty secret → WasGiven (after.vault.attempts user) secret

module _ (book : Plain) (whole : Whole book) (user : ℕ) (knows : Knows book.bench.places (view book.bench.disk)) where
  here : (command : Command) → user_in command ≡ Some user → user_there book.bench.places (user_in command) ≡ true
      → IsSome (map.get book.bench.places (De user))
  here command whose there = subst (λ of. user_there book.bench.places of ≡ true) whose there

  -- what is known of the user's slots and directories, of one who is there
  module _ (command : Command) (known : Known) (whose : user_in command ≡ Some user)
      (is : IsKnown book.bench.places (machine_of book).ring command known)
      (there : user_there book.bench.places (user_in command) ≡ true) where
    slots-are : known.slots.items ≡ slots_known book.bench.places user
    slots-are = is.slots ∙ ap (slots_of book.bench.places) whose

    has-all : Has (AllSlots known.slots.items) (share_of user (ground_of book))
    has-all = subst (λ slots. Has (AllSlots slots) (share_of user (ground_of book))) (sym slots-are)
        (all-slots book whole user knows (here command whose there))

    has-newest : Has (Newest known.newest) (share_of user (ground_of book))
    has-newest = subst (λ slot. Has (Newest slot) (share_of user (ground_of book)))
        (sym (is.newest ∙ ap (λ of. last_slot Current (slots_of book.bench.places of)) whose))
        (newest-slot book whole user knows (here command whose there))

    has-few : Has (SlotsFew (length known.slots.items)) (share_of user (ground_of book))
    has-few = subst (λ slots. Has (SlotsFew (length slots)) (share_of user (ground_of book))) (sym slots-are)
        (few-slots book whole user knows (here command whose there))

    has-sites : Has (Own (Sites (all_sites known.has_temp known.slots.items))) (share_of user (ground_of book))
    has-sites =
        subst (λ temp. Has (Own (Sites (all_sites temp known.slots.items))) (share_of user (ground_of book)))
        (sym (is.has_temp ∙ ap (has_temp_in book.bench.places) whose))
        (subst (λ slots. Has (Own (Sites (all_sites (is_some (map.get book.bench.places (Temp user))) slots)))
        (share_of user (ground_of book))) (sym slots-are) (all-sites book whole user knows (here command whose there)))

  -- whether the user's keys are in the ring is known
  key-known : (whom : Option ℕ) (class : Class) (there : Bool) → whom ≡ Some user
      → there ≡ has_key_in (machine_of book).ring whom class → Has (HasKey class there)
      (share_of user (ground_of book))
  key-known whom class there whose is =
      sym (is ∙ ap (λ of. has_key_in (machine_of book).ring of class) whose
      ∙ ap (λ all. has_owner all user class) whole.ring.owned ∙ found book.bench.keys user class)

  -- the slots that a secret of the user's is tried with
  to-try : (command : Command) (secret : List ℕ) (slots : List Slot)
      → slots ≡ slots_in book.bench.places user secret (map.keys book.bench.places)
      → IsSome (map.get book.bench.places (De user)) → given_by command ≡ not_empty secret → (after : Share)
      → HasBegun command user (share_of user (ground_of book)) after → AreToTry after user secret slots
  to-try command secret slots are there gives after begun = record {
    left = begun.still (LeftToTry secret slots) tt
        (subst (λ all. Has (LeftToTry secret all) (share_of user (ground_of book))) (sym are)
        (left-to-try book.bench.places (view book.bench.disk) knows user secret (share_of user (ground_of book))
        (sound-share book whole user) (shown book whole user knows) there));
    gave = begun.gave secret gives;
  }

  -- what a command that isn't refused knows of the user is so once it began
  pub knows-user : (command : Command) (known : Known) → user_in command ≡ Some user
      → IsKnown book.bench.places (machine_of book).ring command known
      → refusal_of command (facts_in book.bench.places book command) ≡ None → (after : Share)
      → HasBegun command user (share_of user (ground_of book)) after → KnowsUser command known after
  knows-user (Create owner) known whose is goes after begun = tt
  knows-user (Lock owner) known whose is goes after begun = tt
  knows-user (Unlock owner secret) known whose is goes after begun =
      let there = present-by _ goes in
      let same : user ≡ owner = sym (same_Some owner user whose) in (
        subst (λ u. AreToTry after u secret known.to_try.items) same
            (to-try (Unlock owner secret) secret known.to_try.items
            (is.to_try ∙ ap (λ u. slots_in book.bench.places u secret (map.keys book.bench.places)) (sym same))
            (here (Unlock owner secret) whose there) refl after begun),
        begun.still (AllSlots known.slots.items) tt (has-all (Unlock owner secret) known whose is there),
      )
  knows-user (Protect owner given fresh) known whose is goes after begun =
      let passes = there-by _ _ goes in
      let present = here (Protect owner given fresh) whose passes.0 in
      let left = subst (λ of. is_full book.bench.places of ≡ false) whose (not-due _ passes.1) in
      let same : user ≡ owner = sym (same_Some owner user whose) in (
        subst (λ u. AreToTry after u given known.to_try.items) same
            (to-try (Protect owner given fresh) given known.to_try.items
            (is.to_try ∙ ap (λ u. slots_in book.bench.places u given (map.keys book.bench.places)) (sym same))
            present refl after begun),
        begun.still (NextSlot known.next) tt
            (subst (λ slot. Has (NextSlot slot) (share_of user (ground_of book)))
            (sym (is.next ∙ ap (λ u. slot_next book.bench.places (Protect u given fresh)) (sym same)))
            (next-slot book whole user knows given fresh present left)),
      )
  knows-user (Fixate owner) known whose is goes after begun =
      let there = present-by _ goes in (
        begun.still (AllSlots known.slots.items) tt (has-all (Fixate owner) known whose is there),
        begun.still (Newest known.newest) tt (has-newest (Fixate owner) known whose is there),
      )
  knows-user (Destroy owner) known whose is goes after begun =
      let there = present-by _ goes in (
        begun.still (Own (Sites (all_sites known.has_temp known.slots.items))) tt
            (has-sites (Destroy owner) known whose is there),
        begun.still (SlotsFew (length known.slots.items)) tt (has-few (Destroy owner) known whose is there),
        begun.still (HasKey ForCe known.has_ce) tt (key-known (Some owner) ForCe known.has_ce whose is.has_ce),
        begun.still (HasKey ForDe known.has_de) tt (key-known (Some owner) ForDe known.has_de whose is.has_de),
      )
  knows-user Recover known whose is goes after begun = tt
