-- Each turn of a task that fixates a user's slots shows what it has to.
use Rattle.std.proofs.Common.{◌≡◌, ◌≢◌, ℕ, ◌<◌, ◌+◌, inl, inr, cond, List, [], ◌∷◌, length, refl}
use Rattle.std.proofs.Common.{sym, ap, ◌∙◌, subst, arith}
use Rattle.std.specs.FinMap as map
use Rattle.std.specs.Prelude.{Option, Some, None, is_some, IsSome, slice_get}
use Rattle.std.proofs.lemmas.Bool.{false≢true}
use Rattle.std.proofs.lemmas.Option.{same_Some}
use Rattle.tree_model.specs.declared.ops.Fill.{Fill}
use Rattle.tree_model.specs.declared.places.Slot.{Slot}
use Rattle.tree_model.specs.declared.places.Slot.TheVariants.{Current, Cx}
use Rattle.tree_model.specs.declared.sites.LocalOp.{LocalOp}
use Rattle.tree_model.specs.declared.sites.LocalOp.TheVariants.{RenameDir, RemoveDir}
use Rattle.tree_model.specs.declared.sites.Site.TheVariants.{De, Ce}
use Rattle.tree_model.specs.Named.{PartNames}
use Rattle.tree_model.specs.Order.{slot_total, slot_exact}
use Rattle.tree_model.specs.Parts.{Part, standing, after_local, filled_local, local_kind}
use Rattle.tree_model.specs.Tree.{Drop as DropKind, Settle as SettleKind, kind_if}
use Rattle.tree_model.proofs.Maps.{apart, decide_key, get-insert_same, get-insert_other, get-remove_same}
use Rattle.tree_model.proofs.Maps.{get-remove_other}
use Rattle.keystore_model.proofs.Elements.{Contains-none, Contains-first}
use Rattle.journal_model.specs.Machine.{Fixes}
use Rattle.journal_model.specs.Users.{Record, Secrets, HasOnly, without_slot, settled_slot, moved_from}
use Rattle.user_world.specs.declared.changes.LocalChange.{LocalChange}
use Rattle.user_world.specs.declared.changes.LocalChange.TheVariants.{Dropped, Settled}
use Rattle.user_world.specs.Changes.{change_of, known_after}
use Rattle.user_world.specs.Meaning.{PartStands}
use Rattle.user_world.specs.OwnWorlds.{OwnWorld, own_view, own_record, Keeps}
use Rattle.user_world.proofs.OwnWorlds.{record-step, view-stands}
use Rattle.blob_custody.proofs.Names.{not-both, names-new}
use Rattle.blob_custody.proofs.Renamings.{whole-rename, whole-remove, moved-names, moved-keeps}
use Rattle.key_directory.specs.Vaults.{Vault, SealedStands, sealed}
use Rattle.key_directory.proofs.Dropping.{slots-stand, dropping-stands, settling-stands}
use Rattle.key_directory.proofs.Lasting.{stands-present}
use Rattle.task_turns.specs.Names.{Gains}
use Rattle.task_turns.specs.Shares.{Share, HasSlots, IsSound}
use Rattle.task_turns.specs.Turns.{operated}
use Rattle.fixate_task.specs.declared.task.Doing.TheVariants.{Drop, Settle}
use Rattle.fixate_task.specs.Task.{without}
use Rattle.fixate_task.specs.Turns.{FixTurns, DoingShows}
use Rattle.fixate_task.proofs.Without.{length-without, without-first, in-without, of-without}

module _ {A : Type 0} where
  lacks : (found : Option A) → found ≡ None → IsSome found → ⊥
  lacks found none there = false≢true (sym (ap is_some none) ∙ there)

  none-there : (found : Option A) → (IsSome found → ⊥) → found ≡ None
  none-there None lacking = refl
  none-there (Some a) lacking = absurd (lacking refl)

-- once a user's only slot is the current one, no other is there
moved-only : (secrets : Secrets) (slot : Slot) (found : Option (List ℕ)) → IsSome found
    → ((other : Slot) → other ≢ slot → map.get secrets other ≡ None)
    → IsSome (map.get (moved_from secrets slot found) Current)
    × ((other : Slot) → other ≢ Current → map.get (moved_from secrets slot found) other ≡ None)
moved-only secrets slot None there alone = absurd (false≢true there)
moved-only secrets slot (Some secret) there alone = (
  ap is_some (get-insert_same slot_total slot_exact (map.remove secrets slot) Current secret),
  λ other differ. get-insert_other slot_total slot_exact (map.remove secrets slot) Current secret other differ
      ∙ elim (decide_key slot_total slot_exact other slot) as (λ _. map.get (map.remove secrets slot) other ≡ None) [
        | inl same ↦ subst (λ s. map.get (map.remove secrets slot) s ≡ None) (sym same)
            (get-remove_same slot_total slot_exact secrets slot)
        | inr apart ↦ get-remove_other slot_total slot_exact secrets slot other apart ∙ alone other apart
      ],
)

-- a credential key's directory that is removed
pub removal-gains : (own : OwnWorld) (slot : Slot) → Gains own (RemoveDir (Ce slot)) []
removal-gains own slot = record {
  gained = λ left fill blob is names. elim (names-new left slot None blob
      (subst (λ op. PartNames (after_local left op) blob) (whole-remove (Ce slot) fill) names)) [
        | inl was ↦ inl was
        | inr now ↦ absurd (not-both None blob refl now)
      ];
  named = λ blob gains. absurd (Contains-none blob gains);
  kept = λ blob names. inr tt;
}

-- one that is moved to a free slot
move-gains : (own : OwnWorld) (from to : Slot) → own_view own (Ce to) ≡ None
    → Gains own (RenameDir (Ce from) (Ce to)) []
move-gains own from to free = record {
  gained = λ left fill blob is names. inl (moved-names left from to blob (left (Ce from)) refl
      (subst (λ op. PartNames (after_local left op) blob) (whole-rename (Ce from) (Ce to) fill) names));
  named = λ blob gains. absurd (Contains-none blob gains);
  kept = λ blob names. inl (moved-keeps (own_view own) from to blob free (own_view own (Ce from)) refl names);
}

module _ (user : ℕ) (share : Share) (kept : Slot) (others : List Slot) (has : HasSlots share kept others) where
  abbrev own : OwnWorld
  own = share.own

  abbrev known : Record
  known = has.known

  -- an operation that a stop leaves whole keeps each part that a stop can leave, where it keeps each that stands for
  -- the user's record
  keeps-whole : (vault : Vault) (op : LocalOp) (change : LocalChange) → ((fill : Fill) → filled_local fill op ≡ op)
      → ((left : Part) → SealedStands vault user (standing left) known
      → PartStands (sealed vault) user (after_local left op) (known_after (Some known) change))
      → Keeps (sealed vault) user own (record { op = op; note = Some change })
  keeps-whole vault op change whole stands = record {
    keeps = λ left fill is was.
        subst (λ o. PartStands (sealed vault) user (after_local left o) (known_after (own_record own) change))
        (sym (whole fill))
        (subst (λ found. PartStands (sealed vault) user left found
        → PartStands (sealed vault) user (after_local left op) (known_after found change)) (sym has.there)
        (stands left) was);
  }

  -- the user's record after a change, and before it the only one
  known-then : (op : LocalOp) (change : LocalChange)
      → own_record (operated share op (Some change)).own ≡ known_after (Some known) change
  known-then op change =
      record-step own (record { op = op; note = Some change }) ∙ ap (λ found. known_after found change) has.there

  known-one : (change : LocalChange) → Fixes user known kept (change_of user change) → (other : Record)
      → own_record own ≡ Some other → Fixes user other kept (change_of user change)
  known-one change fixes other is =
      subst (λ k. Fixes user k kept (change_of user change)) (same_Some known other (sym has.there ∙ is)) fixes

  -- a slot's directory is there where the user has the slot, and else it isn't
  module _ (vault : Vault) (left : Part) (stands : SealedStands vault user (standing left) known) (slot : Slot) where
    has-slot : IsSome (map.get known.secrets slot) → IsSome (left (Ce slot))
    has-slot is = slots-stand vault user left known stands slot ∙ is

    lacks-slot : map.get known.secrets slot ≡ None → left (Ce slot) ≡ None
    lacks-slot none = none-there (left (Ce slot)) (λ is. lacks (map.get known.secrets slot) none
        (sym (slots-stand vault user left known stands slot) ∙ is))

  module _ (sound : IsSound user share) where
    stands-now : SealedStands share.vault user (standing (own_view own)) known
    stands-now = subst (PartStands (sealed share.vault) user (own_view own)) has.there
        (view-stands (sealed share.vault) user own sound.images)

    device : IsSome (own_view own De)
    device = stands-present share.vault user (standing (own_view own)) known stands-now

-- the first of the others is dropped
module _ (user : ℕ) (share : Share) (kept slot : Slot) (others : List Slot)
    (has : HasSlots share kept (slot ∷ others)) where
  abbrev secrets : Secrets
  secrets = has.known.secrets

  first : (slot ≢ kept) × IsSome (map.get secrets slot)
  first = has.has_others slot (Contains-first slot others)

  -- each other slot stays
  stays : (other : Slot) → other ≢ slot
      → is_some (map.get (map.remove secrets slot) other) ≡ is_some (map.get secrets other)
  stays other differ = ap is_some (get-remove_other slot_total slot_exact secrets slot other differ)

  left-differs : (other : Slot) → IsSome (map.get (map.remove secrets slot) other) → other ≢ slot
  left-differs other there same = lacks (map.get (map.remove secrets slot) slot)
      (get-remove_same slot_total slot_exact secrets slot)
      (subst (λ s. IsSome (map.get (map.remove secrets slot) s)) same there)

  drop-rests : HasSlots (operated share (RemoveDir (Ce slot)) (Some (Dropped slot))) kept
      (without slot (slot ∷ others))
  drop-rests = record {
    known = without_slot has.known slot;
    there = known-then user share kept (slot ∷ others) has (RemoveDir (Ce slot)) (Dropped slot);
    has_kept = stays kept (λ same. first.0 (sym same)) ∙ has.has_kept;
    has_others = λ other among.
        let of = of-without slot (slot ∷ others) other among in
        let was = has.has_others other of.1 in (was.0, stays other of.0 ∙ was.1);
    all = λ other there.
        let differ = left-differs other there in
        elim (has.all other (sym (stays other differ) ∙ there)) [
          | inl same ↦ inl same
          | inr among ↦ inr (in-without slot (slot ∷ others) other differ among)
        ];
  }

  drop-falls : length (without slot (slot ∷ others)) < length (slot ∷ others)
  drop-falls =
      let fewer = length-without slot others in
      subst (λ slots. length slots < length (slot ∷ others)) (sym (without-first slot others)) (omega arith)

  drop-shows : IsSound user share → DoingShows (record { kept = kept; others = slot ∷ others }) user share (Drop slot)
  drop-shows sound = record {
    step = λ vault. record {
      fits = has-slot user share kept (slot ∷ others) has share.vault (own_view share.own)
          (stands-now user share kept (slot ∷ others) has sound) slot first.1;
      noted = ap (λ there. kind_if there DropKind) (device user share kept (slot ∷ others) has sound);
      keeps = keeps-whole user share kept (slot ∷ others) has vault (RemoveDir (Ce slot)) (Dropped slot)
          (whole-remove (Ce slot)) (λ left stands. dropping-stands vault user left has.known slot stands);
      leads = tt;
    };
    allowed = known-one user share kept (slot ∷ others) has (Dropped slot) (refl, first.0, first.1);
    gained = removal-gains share.own slot;
    rests = drop-rests;
    falls = let fewer = drop-falls in omega arith;
  }

settles-kind : (part : Part) (slot : Slot) → slot ≢ Current → IsSome (part De)
    → local_kind part (RenameDir (Ce slot) (Ce Current)) ≡ Some SettleKind
settles-kind part Current differ there = absurd (differ refl)
settles-kind part (Cx n) differ there = ap (λ t. kind_if t SettleKind) there

-- with no other left the kept slot, the user's only one, becomes the current one
module _ (user : ℕ) (share : Share) (kept : Slot) (has : HasSlots share kept []) (differ : kept ≢ Current) where
  only : HasOnly has.known kept
  only = record {
    there = has.has_kept;
    alone = λ other away. none-there (map.get has.known.secrets other) (λ there. elim (has.all other there) [
      | inl same ↦ away same
      | inr among ↦ Contains-none other among
    ]);
  }

  none-current : map.get has.known.secrets Current ≡ None
  none-current = only.alone Current (λ same. differ (sym same))

  settle-rests : HasSlots (operated share (RenameDir (Ce kept) (Ce Current)) (Some (Settled kept))) Current []
  settle-rests =
      let moved = moved-only has.known.secrets kept (map.get has.known.secrets kept) only.there only.alone in
      record {
        known = settled_slot has.known kept;
        there = known-then user share kept [] has (RenameDir (Ce kept) (Ce Current)) (Settled kept);
        has_kept = moved.0;
        has_others = λ other among. absurd (Contains-none other among);
        all = λ other there. elim (decide_key slot_total slot_exact other Current) [
          | inl same ↦ inl same
          | inr away ↦ absurd (lacks _ (moved.1 other away) there)
        ];
      }

  settle-shows : IsSound user share → DoingShows (record { kept = kept; others = [] }) user share (Settle kept)
  settle-shows sound =
      let stands = stands-now user share kept [] has sound in
      let free = lacks-slot user share kept [] has share.vault (own_view share.own) stands Current none-current in
      record {
        step = λ vault. record {
          fits = (
            has-slot user share kept [] has share.vault (own_view share.own) stands kept only.there,
            ap is_some free,
          );
          noted = settles-kind (own_view share.own) kept differ (device user share kept [] has sound);
          keeps = keeps-whole user share kept [] has vault (RenameDir (Ce kept) (Ce Current)) (Settled kept)
              (whole-rename (Ce kept) (Ce Current))
              (λ left was. settling-stands vault user left has.known kept was
              (has-slot user share kept [] has vault left was kept only.there)
              (lacks-slot user share kept [] has vault left was Current none-current));
          leads = tt;
        };
        allowed = known-one user share kept [] has (Settled kept) (refl, refl, differ, only);
        gained = move-gains share.own kept Current free;
        rests = settle-rests;
        falls = subst (λ t. 0 < length {A = Slot} [] + cond t 0 1)
            (sym (apart slot_total slot_exact kept Current differ)) (omega arith);
      }

pub drop-turn : (kept slot : Slot) (others : List Slot) → slice_get others 0 ≡ Some slot
    → FixTurns (record { kept = kept; others = others }) (Some (Drop slot))
drop-turn kept slot [] is = cc
drop-turn kept slot (first ∷ others) is =
    let same : first ≡ slot = cc in
    subst (λ s. FixTurns (record { kept = kept; others = first ∷ others }) (Some (Drop s))) same
    (λ user share sound has. drop-shows user share kept first others has sound)

pub settle-turn : (kept : Slot) (others : List Slot) → slice_get others 0 ≡ None → kept ≢ Current
    → FixTurns (record { kept = kept; others = others }) (Some (Settle kept))
settle-turn kept [] is differ = λ user share sound has. settle-shows user share kept has differ sound
settle-turn kept (first ∷ others) is differ = cc
