-- The changes of a running command of a legal journal are logged and its user's, and durable where the command is told
-- what came of its work.
use Rattle.std.proofs.Common.{◌≡◌, ℕ, List, [], ◌∷◌, ◌++◌, take, true, false, cond, inl, inr, refl, sym, ap}
use Rattle.std.proofs.Common.{subst, arith}
use Rattle.std.specs.Prelude.{Option, Some, None, IfSome, IsSomeAnd, Contains}
use Rattle.std.specs.Cmp.{nat_cmp_total}
use Rattle.std.specs.Ordering.{nat_cmp, eq_by_cmp}
use Rattle.std.specs.FinMap as map
use Rattle.std.proofs.lemmas.Option.{same_Some}
use Rattle.std.proofs.lemmas.List.Elements.{Contains-push, Contains-push_cases, Contains-append_left}
use Rattle.tree_model.specs.declared.places.Slot.{Slot}
use Rattle.journal_model.specs.declared.commands.Command.{Command}
use Rattle.journal_model.specs.declared.commands.Command.TheVariants.{Create, Unlock, Lock, Protect, Fixate}
use Rattle.journal_model.specs.declared.commands.Command.TheVariants.{Destroy, Recover}
use Rattle.journal_model.specs.declared.commands.Reply.{Reply}
use Rattle.journal_model.specs.declared.commands.Reply.TheVariants.{Done, Ended, Gone, WrongSecret}
use Rattle.journal_model.specs.declared.entries.Change.{Change}
use Rattle.journal_model.specs.declared.entries.Change.TheVariants.{Drop as Dropped, Settle as Settled}
use Rattle.journal_model.specs.declared.entries.Entry.{Entry}
use Rattle.journal_model.specs.declared.entries.Entry.TheVariants.{Began, Changed}
use Rattle.journal_model.specs.declared.entries.Entry.TheVariants.{Stopped, Replied}
use Rattle.journal_model.specs.Command.{user_in}
use Rattle.journal_model.specs.Users.{Record, owner_of}
use Rattle.journal_model.specs.Machine.{Machine, Running, no_running, Evidence, first_machine, if_running, with_change}
use Rattle.journal_model.specs.Machine.{after_entry, machine_from, Fixes, AllowsChange, DidWork, DidRecover}
use Rattle.journal_model.specs.Machine.{DidDestroy, GaveWrongSecret, MayEnd, ComesTo, evidence_of, IsDurable, MayCome}
use Rattle.journal_model.specs.Machine.{IsLegalFrom}
use Rattle.journal_model.specs.Durable.{LawOfAcknowledged}
use Rattle.journal_model.proofs.Durable.{logged-durable, may-end}

-- a command may make a change of this user's
abbrev MayOwn : Command → ℕ → Type 0
MayOwn (Lock user) owner = ⊥
MayOwn command owner = user_in command ≡ Some owner

fixes-own : (user : ℕ) (known : Record) (kept : Slot) (change : Change) → Fixes user known kept change
    → Some user ≡ Some (owner_of change)
fixes-own user known kept (Dropped owner slot) fixes = ap Some (sym fixes.0)
fixes-own user known kept (Settled owner slot) fixes = ap Some (sym fixes.0)
fixes-own user known kept change fixes = absurd fixes

allows-own : (evidence : Evidence) (boot : ℕ) (running : Running) (command : Command) (change : Change)
    → AllowsChange evidence boot running command change → MayOwn command (owner_of change)
allows-own evidence boot running (Create user) change allowed = ap (λ c. Some (owner_of c)) (sym allowed.1)
allows-own evidence boot running (Protect user given fresh) change allowed =
    ap (λ c. Some (owner_of c)) (sym allowed.1.2)
allows-own evidence boot running (Unlock user secret) change allowed =
    fixes-own user allowed.0 allowed.2.0 change allowed.2.2
allows-own evidence boot running (Fixate user) change allowed =
    fixes-own user allowed.0 allowed.2.0 change allowed.2.2
allows-own evidence boot running (Destroy user) change allowed = ap (λ c. Some (owner_of c)) (sym allowed.1)
allows-own evidence boot running command change allowed = absurd allowed

-- each change of a running command is logged, and of a user whose it may be; and so of every running command
abbrev IsTracked : List Change → Running → Type 0
IsTracked log running =
    (change : Change) → Contains running.changes change
    → Contains log change × MayOwn running.command (owner_of change)

abbrev AreTracked : List Change → map.FinMap nat_cmp Running → Type 0
AreTracked log running = (number : ℕ) → IfSome (map.get running number) (IsTracked log)

none-running : (log : List Change) → AreTracked log no_running
none-running log q = subst (λ found. IfSome found (IsTracked log)) (sym (map.get-empty nat_cmp q)) tt

module _ (log : List Change) (running : map.FinMap nat_cmp Running) (tracked : AreTracked log running) (number : ℕ)
  where
    with-one : (one : Running) → IsTracked log one → AreTracked log (map.insert running number one)
    with-one one own q = subst (λ found. IfSome found (IsTracked log))
        (sym (map.get-insert nat_cmp_total running number one q))
        (elim (eq_by_cmp nat_cmp q number) as (λ t. IfSome (cond t (Some one) (map.get running q)) (IsTracked log)) [
          | true ↦ own
          | false ↦ tracked q
        ])

    without-one : AreTracked log (map.remove running number)
    without-one q = subst (λ found. IfSome found (IsTracked log))
        (sym (map.get-remove nat_cmp_total running number q))
        (elim (eq_by_cmp nat_cmp q number) as (λ t. IfSome (cond t None (map.get running q)) (IsTracked log)) [
          | true ↦ tt
          | false ↦ tracked q
        ])

if-more : {A : Type 0} (less more : A → Type 0) (found : Option A) → ((a : A) → less a → more a) → IfSome found less
    → IfSome found more
if-more less more None grows is = tt
if-more less more (Some a) grows is = grows a is

-- one more change, of one of the running commands
module _ (machine : Machine) (tracked : AreTracked machine.log machine.running) (number : ℕ) (change : Change) where
  abbrev log' : List Change
  log' = machine.log ++ change ∷ []

  longer : (one : Running) → IsTracked machine.log one → IsTracked log' one
  longer one own made there =
      (Contains-append_left machine.log (change ∷ []) made (own made there).0, (own made there).1)

  changed : (found : Option Running) → IfSome found (IsTracked machine.log)
      → IsSomeAnd found (λ one. (one.verdict ≡ None)
      × AllowsChange (evidence_of machine) machine.boot one one.command change)
      → AreTracked log'
      (if_running found machine.running (λ one. map.insert machine.running number (with_change one change)))
  changed None own may = absurd may
  changed (Some one) own may =
      with-one log' machine.running
      (λ q. if-more (IsTracked machine.log) (IsTracked log') (map.get machine.running q) longer (tracked q)) number
      (with_change one change)
      (λ made there. elim (Contains-push_cases one.changes change made there) [
        | inl before ↦ longer one own made before
        | inr is ↦ subst (λ made. Contains log' made × MayOwn one.command (owner_of made)) is (
          Contains-push machine.log change,
          allows-own (evidence_of machine) machine.boot one one.command change may.1,
        )
      ])

step : (before : List Entry) (machine : Machine) (entry : Entry) → AreTracked machine.log machine.running
    → MayCome before machine entry
    → AreTracked (after_entry before machine entry).log (after_entry before machine entry).running
step before machine (Began number actor command) tracked may =
    with-one machine.log machine.running tracked number _ (λ change there. absurd (omega (arith, there.1)))
step before machine (Changed number change) tracked may =
    changed machine tracked number change (map.get machine.running number) (tracked number) may
step before machine (Stopped kept) tracked may = none-running (take kept machine.log)
step before machine (Replied number reply) tracked may = without-one machine.log machine.running tracked number
step before machine entry tracked may = tracked

steps : (before : List Entry) (machine : Machine) (more : List Entry) → AreTracked machine.log machine.running
    → IsLegalFrom before machine more
    → AreTracked (machine_from before machine more).log (machine_from before machine more).running
steps before machine [] tracked legal = tracked
steps before machine (entry ∷ more) tracked legal =
    steps (before ++ entry ∷ []) (after_entry before machine entry) more
    (step before machine entry tracked legal.0) legal.1

-- the changes of the user of a change are durable where the change's command is told what came of its work
module _ (machine : Machine) (running : Running) (change : Change) (there : Contains running.changes change) where
  by : (user : ℕ) → Some user ≡ Some (owner_of change) → IsDurable machine (Some user)
      → IsDurable machine (Some (owner_of change))
  by user is durable = subst (λ owner. IsDurable machine (Some owner)) (same_Some user (owner_of change) is) durable

  worked : (command : Command) → MayOwn command (owner_of change)
      → DidWork (evidence_of machine) machine.boot running command → IsDurable machine (Some (owner_of change))
  worked (Create user) own did = by user own did.1
  worked (Unlock user secret) own did = by user own did.1.1
  worked (Lock user) own did = absurd own
  worked (Protect user given fresh) own did = by user own did.1
  worked (Fixate user) own did = by user own did.1
  worked command own did = absurd did

  recovered : (count : ℕ) (command : Command) → MayOwn command (owner_of change)
      → DidRecover (evidence_of machine) count command → IsDurable machine (Some (owner_of change))
  recovered count Recover own did = cc
  recovered count command own did = absurd did

  destroyed : (command : Command) → MayOwn command (owner_of change)
      → DidDestroy (evidence_of machine) running command → IsDurable machine (Some (owner_of change))
  destroyed (Destroy user) own did = by user own did.2
  destroyed command own did = absurd did

  unchanged : (command : Command) → GaveWrongSecret (evidence_of machine) running command → running.changes ≡ []
  unchanged (Unlock user secret) gave = gave.0
  unchanged (Protect user given fresh) gave = gave.0
  unchanged command gave = absurd gave

  came : (reply : Reply) → MayOwn running.command (owner_of change) → ComesTo machine running reply
      → IsDurable machine (Some (owner_of change))
  came Done own told = worked running.command own told
  came (Ended count) own told = recovered count running.command own told
  came Gone own told = destroyed running.command own told
  came WrongSecret own told =
      let none : Contains [] change =
      subst (λ changes. Contains changes change) (unchanged running.command told) there in
      absurd (omega (arith, none.1))
  came reply own told = absurd told

pub acknowledged : LawOfAcknowledged
acknowledged entries number running reply legal told change there =
    let machine = machine_from [] first_machine entries in
    let all : IfSome (Some running) (IsTracked machine.log) =
    subst (λ found. IfSome found (IsTracked machine.log)) told.runs
    (steps [] first_machine entries (none-running []) legal number) in
    let ends : ComesTo machine running reply =
    subst (λ kind. MayEnd kind (ComesTo machine running reply)) told.outcome
    (may-end machine running reply (map.get machine.running number) told.runs told.accepted told.may) in
    logged-durable machine (owner_of change) change refl (all change there).0
    (came machine running change there reply (all change there).1 ends)
