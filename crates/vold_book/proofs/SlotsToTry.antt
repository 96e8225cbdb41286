-- The slots that a command with a secret has to try: they are those that are left to try.
use Rattle.std.proofs.Common.{◌≡◌, ◌⊎◌, ℕ, ◌+◌, ◌<◌, ◌≤◌, ◌==◌, ◌&&◌, inl, inr, Bool, true, false, cond, List, [], ◌∷◌}
use Rattle.std.proofs.Common.{◌++◌, length, get_or, take, refl, sym, ap, ◌∙◌, subst, arith, eq-eqb, eqb-true}
use Rattle.std.proofs.lemmas.Bool.{and_parts}
use Rattle.std.proofs.lemmas.List.{append-nil, append_assoc, length-append, take_more}
use Rattle.std.proofs.lemmas.List.Elements.{Contains-append_left, Contains-append_right, Contains-append_cases}
use Rattle.std.proofs.lemmas.List.Elements.{Contains-push_cases}
use Rattle.std.proofs.lemmas.Option.{same_Some}
use Rattle.std.specs.Prelude.{Option, Some, None, is_some, IsSome, Contains}
use Rattle.std.specs.declared.cmp.Ordering.TheVariants.{Less}
use Rattle.std.specs.Ordering.{eq_by_cmp, ordering_then}
use Rattle.std.specs.Cmp.{nat_cmp_total, tied_itself}
use Rattle.std.specs.FinMap as map
use Rattle.std.specs.FinMap.{entries_sorted}
use Rattle.std.specs.FinMap.Entries.{find, is_sorted, below_all}
use Rattle.keystore_model.proofs.Elements.{Contains-none, Contains-first, Contains-rest, Contains-cases}
use Rattle.sorted_map.specs.Rows.{keys}
use Rattle.tree_model.specs.declared.blobs.Blob.{Blob}
use Rattle.tree_model.specs.declared.places.Place.{Place}
use Rattle.tree_model.specs.declared.places.Place.TheVariants.{De, Ce, Temp}
use Rattle.tree_model.specs.declared.places.Slot.{Slot}
use Rattle.tree_model.specs.declared.sites.Site.TheVariants.{De as DeSite, Ce as CeSite}
use Rattle.tree_model.specs.Dir.{Files}
use Rattle.tree_model.specs.Disk.{view}
use Rattle.tree_model.specs.Named.{named_at}
use Rattle.tree_model.specs.Order.{slot_cmp, place_cmp, place_total, place_exact}
use Rattle.tree_model.specs.Parts.{part_of, standing}
use Rattle.tree_model.specs.Tree.{Tree}
use Rattle.tree_model.proofs.Logic.{true_from_T, is_less, is_equal}
use Rattle.tree_model.proofs.Maps.{tied}
use Rattle.journal_model.specs.declared.commands.Actor.{Actor}
use Rattle.journal_model.specs.declared.commands.Actor.TheVariants.{User}
use Rattle.journal_model.specs.declared.phase.Phase.{Phase}
use Rattle.journal_model.specs.declared.phase.Phase.TheVariants.{Up, Down, Halted}
use Rattle.journal_model.specs.Machine.{TakesTurn}
use Rattle.journal_model.specs.Users.{Record}
use Rattle.user_world.specs.OwnWorlds.{own_view, own_record}
use Rattle.user_world.proofs.OwnWorlds.{view-stands}
use Rattle.key_directory.specs.Opened.{fits_secret, OpensTo, SlotTells}
use Rattle.key_directory.specs.Shape.{sized}
use Rattle.key_directory.specs.Vaults.{sealed, SealedStands}
use Rattle.key_directory.proofs.Apart.{known-there}
use Rattle.key_directory.proofs.Fitting.{fitting}
use Rattle.key_directory.proofs.Opened.{slots-tell}
use Rattle.step_core.specs.Table.{NamedPlaces, named_by}
use Rattle.task_turns.specs.Shares.{Share, IsSound, AreNewestFirst, MayOpen, AreLeftToTry}
use Rattle.bench.specs.Bench.{named_in}
use Rattle.bench.specs.Known.{Knows}
use Rattle.vold_book.specs.Slots.{slot_at, slots_in}
use Rattle.vold_book.specs.State.{Plain, machine_of, ground_of, share_of}
use Rattle.vold_book.specs.Whole.{PhaseStands, Whole}
use Rattle.vold_book.proofs.Grounds.{not_boot}

-- slots stay the newest first with an older one at the end
newest-push : (slots : List Slot) (last : Slot) → AreNewestFirst slots
    → ((slot : Slot) → Contains slots slot → slot_cmp last slot ≡ Less) → AreNewestFirst (slots ++ last ∷ [])
newest-push [] last order older = ((λ other has. absurd (Contains-none other has)), tt)
newest-push (slot ∷ slots) last order older = (
  (λ other has. elim (Contains-push_cases slots last other has) [
    | inl among ↦ order.0 other among
    | inr same ↦ subst (λ s. slot_cmp s slot ≡ Less) same (older slot (Contains-first slot slots))
  ]),
  newest-push slots last order.1 (λ other has. older other (Contains-rest slot slots other has)),
)

-- a user's places of credential keys stand in the order of their slots
pub places-order : (user : ℕ) (slot other : Slot) → place_cmp (Ce user slot) (Ce user other) ≡ Less
    → slot_cmp slot other ≡ Less
places-order user slot other less =
    sym (ap (λ o. ordering_then o (slot_cmp slot other)) (tied_itself nat_cmp_total user)) ∙ less

module _ {V : Type 0} where
  -- a key stands where it is found
  found-key : (rows : List (Place × V)) (key : Place) → IsSome (find place_cmp key rows) → Contains (keys rows) key
  found-key [] key there = cc
  found-key (row ∷ rows) key there =
      elim (eq_by_cmp place_cmp key row.0) as (λ t. eq_by_cmp place_cmp key row.0 ≡ t
      → IsSome (cond t (Some row.1) (find place_cmp key rows)) → Contains (keys (row ∷ rows)) key) [
        | true ↦ λ e h. subst (Contains (keys (row ∷ rows)))
            (sym (place_exact key row.0 (is_equal (place_cmp key row.0) e))) (Contains-first row.0 (keys rows))
        | false ↦ λ e h. Contains-rest row.0 (keys rows) key (found-key rows key h)
      ] refl there

  key-found : (rows : List (Place × V)) (key : Place) → Contains (keys rows) key → IsSome (find place_cmp key rows)
  key-found [] key has = absurd (Contains-none key has)
  key-found (row ∷ rows) key has = elim (Contains-cases row.0 (keys rows) key has) [
    | inl same ↦ subst (λ t. IsSome (cond t (Some row.1) (find place_cmp key rows)))
        (sym (tied place_total place_exact key row.0 (sym same))) refl
    | inr rest ↦ either (eq_by_cmp place_cmp key row.0) (key-found rows key rest)
  ]
    where
      either : (t : Bool) → IsSome (find place_cmp key rows)
          → IsSome (cond t (Some row.1) (find place_cmp key rows))
      either true there = refl
      either false there = there

  -- and each key is above one that is below all
  pub below-key : (low : Place) (rows : List (Place × V)) → below_all place_cmp low rows ≡ true → (key : Place)
      → Contains (keys rows) key → place_cmp low key ≡ Less
  below-key low [] below key has = absurd (Contains-none key has)
  below-key low (row ∷ rows) below key has = elim (Contains-cases row.0 (keys rows) key has) [
    | inl same ↦ subst (λ k. place_cmp low k ≡ Less) same
        (is_less (place_cmp low row.0) (and_parts _ _ below).0)
    | inr rest ↦ below-key low rows (and_parts _ _ below).1 key rest
  ]

pub key-there : (places : NamedPlaces) (key : Place) → Contains (map.keys places) key → IsSome (map.get places key)
key-there places key has =
    subst IsSome (sym (map.get-entries places key)) (key-found (map.entries places) key has)

pub there-key : (places : NamedPlaces) (key : Place) → IsSome (map.get places key) → Contains (map.keys places) key
there-key places key there =
    found-key (map.entries places) key (subst IsSome (map.get-entries places key) there)

module _ (places : NamedPlaces) (user : ℕ) (secret : List ℕ) where
  -- with one more place at the end its slot comes first
  slots-push : (done : List Place) (place : Place)
      → slots_in places user secret (done ++ place ∷ [])
      ≡ slot_at places user secret place ++ slots_in places user secret done
  slots-push [] place = sym (append-nil (slot_at places user secret place))
  slots-push (first ∷ done) place =
      ap (λ slots. slots ++ slot_at places user secret first) (slots-push done place)
      ∙ append_assoc (slot_at places user secret place) (slots_in places user secret done)
      (slot_at places user secret first)

  pub slots-next : (items : List Place) (i : ℕ) (default : Place) (found now : List Slot) → i < length items
      → found ≡ slots_in places user secret (take i items)
      → now ≡ slot_at places user secret (get_or items i default)
      → now ++ found ≡ slots_in places user secret (take (i + 1) items)
  slots-next items i default found now within is one =
      ap (λ slots. now ++ slots) is
      ∙ ap (λ slots. slots ++ slots_in places user secret (take i items)) one
      ∙ sym (ap (slots_in places user secret) (take_more items i default within)
      ∙ slots-push (take i items) (get_or items i default))

  abbrev fits : Place → Bool
  fits place = fits_secret (named_by (map.get places place)) secret

  -- whose slot a place's is
  at-slot : (place : Place) (slot : Slot) → Contains (slot_at places user secret place) slot
      → (place ≡ Ce user slot) × (fits place ≡ true)
  at-slot (De owner) slot has = absurd (Contains-none slot has)
  at-slot (Temp owner) slot has = absurd (Contains-none slot has)
  at-slot (Ce owner other) slot has = by (owner == user) (fits (Ce owner other)) refl refl has
    where
      by : (same fit : Bool) → (owner == user) ≡ same → fits (Ce owner other) ≡ fit
          → Contains (cond (same && fit) (other ∷ []) []) slot
          → (Ce owner other ≡ Ce user slot) × (fits (Ce owner other) ≡ true)
      by true true one fit among = elim (Contains-cases other [] slot among) [
        | inl same ↦ ((λ i. Ce (eqb-true owner user one i) (same i)), fit)
        | inr none ↦ absurd (Contains-none slot none)
      ]
      by true false one fit among = absurd (Contains-none slot among)
      by false fit one is among = absurd (Contains-none slot among)

  to-slot : (slot : Slot) → fits (Ce user slot) ≡ true → Contains (slot_at places user secret (Ce user slot)) slot
  to-slot slot fit = subst (λ t. Contains (cond t (slot ∷ []) []) slot)
      (sym (ap (λ t. t && fits (Ce user slot)) (eq-eqb user user refl) ∙ fit)) (Contains-first slot [])

  -- which slots are to be tried
  in-slots : (all : List Place) (slot : Slot) → Contains (slots_in places user secret all) slot
      → Contains all (Ce user slot) × (fits (Ce user slot) ≡ true)
  in-slots [] slot has = absurd (Contains-none slot has)
  in-slots (place ∷ all) slot has =
      elim (Contains-append_cases (slots_in places user secret all) (slot_at places user secret place) slot has) [
        | inl among ↦
            let rest = in-slots all slot among in (Contains-rest place all (Ce user slot) rest.0, rest.1)
        | inr one ↦
            let at = at-slot place slot one in (
              subst (Contains (place ∷ all)) at.0 (Contains-first place all),
              subst (λ p. fits p ≡ true) at.0 at.1,
            )
      ]

  to-slots : (all : List Place) (slot : Slot) → Contains all (Ce user slot) → fits (Ce user slot) ≡ true
      → Contains (slots_in places user secret all) slot
  to-slots [] slot has fit = absurd (Contains-none (Ce user slot) has)
  to-slots (place ∷ all) slot has fit = elim (Contains-cases place all (Ce user slot) has) [
    | inl same ↦ Contains-append_right (slots_in places user secret all) (slot_at places user secret place) slot
        (subst (λ p. Contains (slot_at places user secret p) slot) (sym same) (to-slot slot fit))
    | inr rest ↦ Contains-append_left (slots_in places user secret all) (slot_at places user secret place) slot
        (to-slots all slot rest fit)
  ]

  -- they are no more than the places
  few-at : (place : Place) → length (slot_at places user secret place) ≤ 1
  few-at (De owner) = omega arith
  few-at (Temp owner) = omega arith
  few-at (Ce owner slot) = by (owner == user && fits (Ce owner slot))
    where
      by : (test : Bool) → length (cond test (slot ∷ []) []) ≤ 1
      by true = omega arith
      by false = omega arith

  pub few-in : (all : List Place) → length (slots_in places user secret all) ≤ length all
  few-in [] = omega arith
  few-in (place ∷ all) =
      let rest = few-in all in
      let one = few-at place in
      let long = length-append (slots_in places user secret all) (slot_at places user secret place) in
      omega (arith, rest, one, long)

  -- the newest first
  newest-at : (place : Place) (slots : List Slot) → AreNewestFirst slots
      → ((slot other : Slot) → place ≡ Ce user slot → Contains slots other → slot_cmp slot other ≡ Less)
      → AreNewestFirst (slots ++ slot_at places user secret place)
  newest-at (De owner) slots order older = subst AreNewestFirst (sym (append-nil slots)) order
  newest-at (Temp owner) slots order older = subst AreNewestFirst (sym (append-nil slots)) order
  newest-at (Ce owner slot) slots order older = by (owner == user) (fits (Ce owner slot)) refl
    where
      by : (same fit : Bool) → (owner == user) ≡ same
          → AreNewestFirst (slots ++ cond (same && fit) (slot ∷ []) [])
      by true true one = newest-push slots slot order
          (λ other has. older slot other (λ i. Ce (eqb-true owner user one i) slot) has)
      by true false one = subst AreNewestFirst (sym (append-nil slots)) order
      by false fit one = subst AreNewestFirst (sym (append-nil slots)) order

  newest-in : (rows : List (Place × Option Blob)) → is_sorted place_cmp rows ≡ true
      → AreNewestFirst (slots_in places user secret (keys rows))
  newest-in [] sorted = tt
  newest-in (row ∷ rows) sorted =
      newest-at row.0 (slots_in places user secret (keys rows)) (newest-in rows (and_parts _ _ sorted).1)
      (λ slot other is has. places-order user slot other
      (subst (λ p. place_cmp p (Ce user other) ≡ Less) is
      (below-key row.0 rows (and_parts _ _ sorted).0 (Ce user other) (in-slots (keys rows) other has).0)))

  newest-slots : AreNewestFirst (slots_in places user secret (map.keys places))
  newest-slots = newest-in (map.entries places) (true_from_T _ (entries_sorted places))

-- a blob of the right length is one to keep
all-sized : (name : Option Blob) → ((blob : Blob) → name ≡ Some blob → length blob ≡ 32) → sized name ≡ name
all-sized None long = refl
all-sized (Some blob) long = ap (λ t. cond t (Some blob) None) (eq-eqb (length blob) 32 (long blob refl))

pub some-of : {X : Type 0} (found : Option X) → IsSome found → (x : X) × (found ≡ Some x)
some-of None there = cc
some-of (Some x) there = (x, refl)

module _ (places : NamedPlaces) (tree : Tree) (knows : Knows places tree) (user : ℕ) (secret : List ℕ) (share : Share)
    (sound : IsSound user share) (shown : own_view share.own ≡ part_of tree user)
    (there : IsSome (map.get places (De user))) where
  present : IsSome (own_view share.own DeSite)
  present = ap (λ p. is_some (p DeSite)) shown ∙ sym (knows.there (De user)) ∙ there

  -- the user's record, for which the view stands
  pub known : (known : Record) × SealedStands share.vault user (standing (own_view share.own)) known
  known = known-there share.vault user (own_view share.own) (own_record share.own)
      (view-stands (sealed share.vault) user share.own sound.images) present

  module _ (slot : Slot) (files : Files) (at : own_view share.own (CeSite slot) ≡ Some files) where
    tells : (given : List ℕ) → SlotTells share.vault user known.0 slot files given
    tells given = slots-tell share.vault user (own_view share.own) known.0 slot files given known.1 at

    long : (blob : Blob) → named_at (Some files) ≡ Some blob → length blob ≡ 32
    long blob names =
        let named = fitting.names files ((tells []).fit (ap (λ n. fits_secret n []) names)) in
        ap length (same_Some blob named.0 (sym names ∙ named.1)) ∙ named.2

    in-tree : map.get tree (Ce user slot) ≡ Some files
    in-tree = sym (ap (λ p. p (CeSite slot)) shown) ∙ at

    -- what is known of the place is what its directory names
    names-known : named_by (map.get places (Ce user slot)) ≡ named_at (Some files)
    names-known =
        ap named_by (knows.names (Ce user slot) (λ temporary. temporary) ∙ ap named_in in-tree)
        ∙ all-sized (named_at (Some files)) long

    slot-tried : Contains (slots_in places user secret (map.keys places)) slot ⊎ OpensTo share.vault files secret None
    slot-tried = by (fits places user secret (Ce user slot)) refl
      where
        by : (fit : Bool) → fits places user secret (Ce user slot) ≡ fit
            → Contains (slots_in places user secret (map.keys places)) slot ⊎ OpensTo share.vault files secret None
        by true fit = inl (to-slots places user secret (map.keys places) slot
            (there-key places (Ce user slot) (knows.there (Ce user slot) ∙ ap is_some in-tree)) fit)
        by false misfit =
            inr ((tells secret).misfit (sym (ap (λ n. fits_secret n secret) names-known) ∙ misfit))

    slot-may : fits places user secret (Ce user slot) ≡ true → MayOpen share secret slot
    slot-may fit = record {
      files = files;
      there = at;
      fits = (tells secret).fit (sym (ap (λ n. fits_secret n secret) names-known) ∙ fit);
    }

  pub left-to-try : AreLeftToTry share secret (slots_in places user secret (map.keys places))
  left-to-try = record {
    present = present;
    tried = slot-tried;
    may = λ slot among.
        let among_all = in-slots places user secret (map.keys places) slot among in
        let found = some-of (own_view share.own (CeSite slot))
        (ap (λ p. is_some (p (CeSite slot))) shown ∙ sym (knows.there (Ce user slot))
        ∙ key-there places (Ce user slot) among_all.0) in
        slot-may slot found.0 found.1 among_all.1;
    order = newest-slots places user secret;
  }

-- where a user's command may take a turn the machine is up
pub user-up : (phase : Phase) (actor : Actor) (user : ℕ) → TakesTurn phase actor → actor ≡ User user → phase ≡ Up
user-up Up actor user takes is = refl
user-up Down actor user takes is = absurd (not_boot user (sym takes ∙ is))
user-up Halted actor user takes is = absurd takes

-- and the places of the view are known then
pub known-up : (book : Plain) (actor : Actor) → Whole book → TakesTurn book.tracker.phase actor → (user : ℕ)
    → actor ≡ User user → Knows book.bench.places (view book.bench.disk)
known-up book actor whole takes user is =
    (subst (λ phase. PhaseStands phase book (machine_of book)) (user-up book.tracker.phase actor user takes is)
    whole.phase).0

-- a user's share of a whole Book is sound
pub sound-share : (book : Plain) → Whole book → (user : ℕ) → IsSound user (share_of user (ground_of book))
sound-share book whole user = record {
  images = whole.worlds.images user;
  current = whole.current;
}
