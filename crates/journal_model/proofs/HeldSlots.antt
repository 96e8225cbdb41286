-- Each user of a legal journal's map has a slot, whatever a stop cut off.
use Rattle.std.proofs.Common.{◌≡◌, ◌≢◌, ℕ, List, [], ◌∷◌, ◌++◌, length, take, inl, inr, refl, sym, ap, ◌∙◌}
use Rattle.std.proofs.Common.{subst, arith}
use Rattle.std.specs.Prelude.{Option, Some, None, is_some, IsSome, IsSomeAnd}
use Rattle.std.specs.Cmp.{nat_cmp_total}
use Rattle.std.specs.FinMap as map
use Rattle.std.specs.Ordering.{nat_cmp}
use Rattle.std.specs.FinMap.{nat_cmp-IsAntisymmetric}
use Rattle.std.proofs.lemmas.Bool.{cases_lt}
use Rattle.std.proofs.lemmas.List.{take-append-le, take-take, take_all, length-take, length_push}
use Rattle.std.proofs.lemmas.Option.{none-some, same_Some}
use Rattle.tree_model.specs.declared.places.Slot.{Slot}
use Rattle.tree_model.specs.declared.places.Slot.TheVariants.{Current}
use Rattle.tree_model.specs.Order.{slot_total, slot_exact}
use Rattle.tree_model.proofs.Maps.{get-insert_same, get-insert_other, get-remove_same, get-remove_other, decide_key}
use Rattle.journal_model.specs.declared.commands.Command.{Command}
use Rattle.journal_model.specs.declared.commands.Command.TheVariants.{Create, Unlock, Protect, Fixate, Destroy}
use Rattle.journal_model.specs.declared.entries.Birth.{Birth}
use Rattle.journal_model.specs.declared.entries.Change.{Change}
use Rattle.journal_model.specs.declared.entries.Change.TheVariants.{Drop as Dropped, Settle as Settled}
use Rattle.journal_model.specs.declared.entries.Entry.{Entry}
use Rattle.journal_model.specs.declared.entries.Entry.TheVariants.{Changed, Stopped}
use Rattle.journal_model.specs.Users.{Record, Users, new_secrets, with_slot, without_slot, settled_slot, moved_from}
use Rattle.journal_model.specs.Users.{edited, with_record, with_edit, after_change, no_users, fold_changes}
use Rattle.journal_model.specs.Machine.{Machine, Running, first_machine, after_entry, machine_from, evidence_of}
use Rattle.journal_model.specs.Machine.{Fixes, AllowsChange, MayCome, IsLegalFrom}
use Rattle.journal_model.specs.HeldSlots.{HasSlot, AllHaveSlots, LawOfSlots}
use Rattle.journal_model.proofs.Folds.{folded-append}

-- each user has a slot still once one user's record is one with a slot, or is gone
module _ (users : Users) (all : AllHaveSlots users) (user : ℕ) where
  with-one : (known : Record) → HasSlot known → AllHaveSlots (map.insert users user known)
  with-one known has other found is = elim (decide_key nat_cmp_total nat_cmp-IsAntisymmetric other user) [
    | inl same ↦ subst HasSlot (same_Some known found
        (sym (get-insert_same nat_cmp_total nat_cmp-IsAntisymmetric users user known)
        ∙ ap (map.get (map.insert users user known)) (sym same) ∙ is)) has
    | inr differ ↦ all other found
        (sym (get-insert_other nat_cmp_total nat_cmp-IsAntisymmetric users user known other differ) ∙ is)
  ]

  with-edited : (edit : Record → Record) → ((known : Record) → map.get users user ≡ Some known → HasSlot (edit known))
      → AllHaveSlots (with_edit users user edit)
  with-edited edit has = by (map.get users user) refl
    where
      by : (found : Option Record) → map.get users user ≡ found
          → AllHaveSlots (with_record users user (edited found edit))
      by None none = all
      by (Some known) is = with-one (edit known) (has known is)

  without-one : AllHaveSlots (map.remove users user)
  without-one other found is = elim (decide_key nat_cmp_total nat_cmp-IsAntisymmetric other user) [
    | inl same ↦ absurd (none-some found (sym (ap (map.get (map.remove users user)) same
        ∙ get-remove_same nat_cmp_total nat_cmp-IsAntisymmetric users user) ∙ is))
    | inr differ ↦ all other found
        (sym (get-remove_other nat_cmp_total nat_cmp-IsAntisymmetric users user other differ) ∙ is)
  ]

-- a record with one more slot has one, and so has one without another
has-added : (known : Record) (slot : Slot) (secret : List ℕ) → HasSlot (with_slot known slot secret)
has-added known slot secret =
    record { slot = slot; there = ap is_some (get-insert_same slot_total slot_exact known.secrets slot secret) }

has-kept : (known : Record) (slot kept : Slot) → slot ≢ kept → IsSome (map.get known.secrets kept)
    → HasSlot (without_slot known slot)
has-kept known slot kept differ there = record {
  slot = kept;
  there = subst IsSome (sym (get-remove_other slot_total slot_exact known.secrets slot kept (λ e. differ (sym e))))
      there;
}

-- and one whose slot is the current one from now on
has-settled : (known : Record) (slot : Slot) → IsSome (map.get known.secrets slot) → HasSlot (settled_slot known slot)
has-settled known slot there = by (map.get known.secrets slot) there
  where
    by : (found : Option (List ℕ)) → IsSome found
        → HasSlot (record known { secrets = moved_from known.secrets slot found })
    by None none = cc
    by (Some secret) some = record {
      slot = Current;
      there = ap is_some (get-insert_same slot_total slot_exact (map.remove known.secrets slot) Current secret);
    }

-- a fixation that keeps a slot which is there leaves each user a slot
module _ (users : Users) (all : AllHaveSlots users) (user : ℕ) (known : Record) (at : map.get users user ≡ Some known)
    (kept : Slot) (there : IsSome (map.get known.secrets kept)) where
  fixed : (change : Change) → Fixes user known kept change → AllHaveSlots (after_change users change)
  fixed (Dropped owner slot) fixes = with-edited users all owner (λ found. without_slot found slot) (λ found is.
      let same = same_Some known found (sym at ∙ ap (map.get users) (sym fixes.0) ∙ is) in
      subst (λ k. HasSlot (without_slot k slot)) same (has-kept known slot kept fixes.1 there))
  fixed (Settled owner slot) fixes = with-edited users all owner (λ found. settled_slot found slot) (λ found is.
      let same = same_Some known found (sym at ∙ ap (map.get users) (sym fixes.0) ∙ is) in
      subst (λ k. HasSlot (settled_slot k slot)) same
      (has-settled known slot (subst (λ s. IsSome (map.get known.secrets s)) (sym fixes.1) there)))
  fixed change fixes = absurd fixes

-- so has a new user's
new-has : {birth : Birth} → HasSlot (record { birth = birth; secrets = new_secrets })
new-has = record { slot = Current; there = ap is_some (get-insert_same slot_total slot_exact map.empty Current []) }

-- and so does each change that a command may make
allowed : (machine : Machine) (running : Running) (command : Command) (change : Change)
    → AllHaveSlots (fold_changes machine.log)
    → AllowsChange (evidence_of machine) machine.boot running command change
    → AllHaveSlots (after_change (fold_changes machine.log) change)
allowed machine running (Create user) change all may =
    subst (λ c. AllHaveSlots (after_change (fold_changes machine.log) c)) (sym may.1)
    (with-one (fold_changes machine.log) all user _ new-has)
allowed machine running (Protect user given fresh) change all may =
    subst (λ c. AllHaveSlots (after_change (fold_changes machine.log) c)) (sym may.1.2)
    (with-edited (fold_changes machine.log) all user _ (λ found is. has-added found _ fresh))
allowed machine running (Unlock user secret) change all may =
    fixed (fold_changes machine.log) all user may.0 may.1 may.2.0 may.2.1 change may.2.2
allowed machine running (Fixate user) change all may =
    fixed (fold_changes machine.log) all user may.0 may.1 may.2.0 may.2.1.there change may.2.2
allowed machine running (Destroy user) change all may =
    subst (λ c. AllHaveSlots (after_change (fold_changes machine.log) c)) (sym may.1)
    (without-one (fold_changes machine.log) all user)
allowed machine running command change all may = absurd may

-- whatever front of the log is kept, each user has a slot
abbrev AllFronts : List Change → Type 0
AllFronts log = (kept : ℕ) → AllHaveSlots (fold_changes (take kept log))

whole-front : (log : List Change) → AllFronts log → AllHaveSlots (fold_changes log)
whole-front log all =
    subst (λ changes. AllHaveSlots (fold_changes changes)) (take_all (length log) log (omega arith)) (all (length log))

one-more : (log : List Change) (change : Change) → AllFronts log
    → AllHaveSlots (after_change (fold_changes log) change) → AllFronts (log ++ change ∷ [])
one-more log change all after kept = elim (cases_lt (length log) kept) [
  | inr short ↦ subst (λ changes. AllHaveSlots (fold_changes changes))
      (sym (take-append-le kept log (change ∷ []) short)) (all kept)
  | inl long ↦ subst (λ changes. AllHaveSlots (fold_changes changes))
      (sym (take_all kept (log ++ change ∷ []) (omega (arith, length_push log change, long))))
      (subst AllHaveSlots (sym (folded-append no_users log change)) after)
]

-- a front of a front is one
front-of : (log : List Change) (less : ℕ) → AllFronts log → AllFronts (take less log)
front-of log less all kept = elim (cases_lt less kept) [
  | inr short ↦ subst (λ changes. AllHaveSlots (fold_changes changes)) (sym (take-take kept less log short)) (all kept)
  | inl long ↦ subst (λ changes. AllHaveSlots (fold_changes changes))
      (sym (take_all kept (take less log) (omega (arith, length-take less log, long)))) (all less)
]

module _ (machine : Machine) (all : AllFronts machine.log) (number : ℕ) (change : Change) where
  changed : (found : Option Running) → IsSomeAnd found (λ running. (running.verdict ≡ None)
      × AllowsChange (evidence_of machine) machine.boot running running.command change)
      → AllFronts (machine.log ++ change ∷ [])
  changed None may = absurd may
  changed (Some running) may = one-more machine.log change all
      (allowed machine running running.command change (whole-front machine.log all) may.1)

step : (before : List Entry) (machine : Machine) (entry : Entry) → AllFronts machine.log
    → MayCome before machine entry → AllFronts (after_entry before machine entry).log
step before machine (Changed number change) all may =
    changed machine all number change (map.get machine.running number) may
step before machine (Stopped kept) all may = front-of machine.log kept all
step before machine entry all may = all

steps : (before : List Entry) (machine : Machine) (more : List Entry) → AllFronts machine.log
    → IsLegalFrom before machine more → AllFronts (machine_from before machine more).log
steps before machine [] all legal = all
steps before machine (entry ∷ more) all legal =
    steps (before ++ entry ∷ []) (after_entry before machine entry) more (step before machine entry all legal.0)
    legal.1

no-fronts : AllFronts []
no-fronts kept user known is = absurd (none-some known (sym (map.get-empty nat_cmp user)
    ∙ ap (λ changes. map.get (fold_changes changes) user) (sym (take_all kept [] (omega arith))) ∙ is))

pub held-slots : LawOfSlots
held-slots entries legal = whole-front (machine_from [] first_machine entries).log
    (steps [] first_machine entries no-fronts legal)
