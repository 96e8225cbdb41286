-- What is known by which command it is: whose it is, what is due when it begins, what its outcome tells, and which
-- phase its reply leaves.
use Rattle.std.proofs.Common.{◌≡◌, ◌≢◌, ℕ, refl, ap}
use Rattle.std.proofs.lemmas.Option.{same_Some}
use Rattle.std.specs.Prelude.{Bool, true, false, not, List, Option, Some, None}
use Rattle.tree_model.specs.declared.places.Class.{Class}
use Rattle.tree_model.specs.declared.places.Class.TheVariants.{De, Ce}
use Rattle.journal_model.specs.declared.commands.Actor.{Actor}
use Rattle.journal_model.specs.declared.commands.Actor.TheVariants.{Boot, Cp, User}
use Rattle.journal_model.specs.declared.commands.Command.{Command}
use Rattle.journal_model.specs.declared.commands.Command.TheVariants.{Create, Unlock, Lock, Protect, Fixate}
use Rattle.journal_model.specs.declared.commands.Command.TheVariants.{Destroy, Recover}
use Rattle.journal_model.specs.declared.commands.Reply.{Reply}
use Rattle.journal_model.specs.declared.commands.Reply.TheVariants.{Done, Ended, Gone, UserExists, TooManyUsers}
use Rattle.journal_model.specs.declared.commands.Reply.TheVariants.{NoUser, NotInstalled, NoSlot, WrongSecret, Ready}
use Rattle.journal_model.specs.declared.entries.Change.{Change}
use Rattle.journal_model.specs.declared.phase.Phase.{Phase}
use Rattle.journal_model.specs.declared.phase.Phase.TheVariants.{Halted}
use Rattle.journal_model.specs.declared.refusals.Facts.{Facts}
use Rattle.journal_model.specs.Command.{actor_of, user_in_actor, user_in}
use Rattle.journal_model.specs.Machine.{Running, Evidence, AllowsChange, AllowsOutcome, IsFixed, DidWork, DidRecover}
use Rattle.journal_model.specs.Machine.{DidDestroy, LacksSecret, GaveWrongSecret}
use Rattle.journal_model.specs.Machine.{kind_of_reply, Outcome, Refusal, phase_after}
use Rattle.journal_model.specs.Refusals.{refusal_of, due, first_due}
use Rattle.journal_model.specs.Users.{Record}

-- only a recovery is for no user
pub no-user : (command : Command) → user_in command ≡ None → command ≡ Recover
no-user (Create user) e = cc
no-user (Unlock user secret) e = cc
no-user (Lock user) e = cc
no-user (Protect user given fresh) e = cc
no-user (Fixate user) e = cc
no-user (Destroy user) e = cc
no-user Recover e = refl

pub of-user : (command : Command) (user : ℕ) → user_in command ≡ Some user → actor_of command ≡ User user
of-user command user is = by (actor_of command) is
  where
    by : (actor : Actor) → user_in_actor actor ≡ Some user → actor ≡ User user
    by Boot e = cc
    by Cp e = cc
    by (User other) e = ap User (same_Some other user e)

pub user-stays : (phase : Phase) (user : ℕ) (command : Command) (reply : Reply) → actor_of command ≡ User user
    → phase_after phase command reply ≡ phase
user-stays phase user (Create owner) reply own = refl
user-stays phase user (Unlock owner secret) reply own = refl
user-stays phase user (Lock owner) reply own = refl
user-stays phase user (Protect owner given fresh) reply own = refl
user-stays phase user (Fixate owner) reply own = refl
user-stays phase user (Destroy owner) reply own = refl
user-stays phase user Recover reply own = cc

-- a change and an outcome that are told by less are told by more
module _ (less more : Evidence)
    (logged : (change : Change) → less.logged change → more.logged change)
    (durable : (of : Option ℕ) → less.durable of → more.durable of)
    (has : (user : ℕ) (class : Class) (there : Bool) → less.has_key user class there → more.has_key user class there)
    (recorded : (user : ℕ) (known : Record) → less.recorded user known → more.recorded user known) where
  fixed : (user : ℕ) → IsFixed less user → IsFixed more user
  fixed user is = ((is.0.0, recorded user is.0.0 is.0.1, is.0.2), durable (Some user) is.1)

  did-work : (boot : ℕ) (began : Running) (command : Command) → DidWork less boot began command
      → DidWork more boot began command
  did-work boot began (Create user) did = (
    logged _ did.0,
    durable (Some user) did.1,
    has user De true did.2,
    has user Ce true did.3,
  )
  did-work boot began (Unlock user secret) did = (has user Ce true did.0, fixed user did.1)
  did-work boot began (Lock user) did = has user Ce false did
  did-work boot began (Protect user given fresh) did = (
    (did.0.0, did.0.1, logged _ did.0.2),
    durable (Some user) did.1,
  )
  did-work boot began (Fixate user) did = fixed user did
  did-work boot began command did = absurd did

  did-recover : (count : ℕ) (command : Command) → DidRecover less count command → DidRecover more count command
  did-recover count Recover did = (did.0, durable None did.1)
  did-recover count command did = absurd did

  did-destroy : (began : Running) (command : Command) → DidDestroy less began command → DidDestroy more began command
  did-destroy began (Destroy user) did = (did.0, logged _ did.1, durable (Some user) did.2)
  did-destroy began command did = absurd did

  lacks : (user : ℕ) (secret : List ℕ) → LacksSecret less user secret → LacksSecret more user secret
  lacks user secret lack = (lack.0, recorded user lack.0 lack.1, lack.2)

  gave-wrong-secret : (began : Running) (command : Command) → GaveWrongSecret less began command
      → GaveWrongSecret more began command
  gave-wrong-secret began (Unlock user secret) gave = (gave.0, lacks user secret gave.1)
  gave-wrong-secret began (Protect user given fresh) gave = (gave.0, lacks user given gave.1)
  gave-wrong-secret began command gave = absurd gave

  pub change-more : (boot : ℕ) (began : Running) (command : Command) (change : Change)
      → AllowsChange less boot began command change → AllowsChange more boot began command change
  change-more boot began (Create user) change allowed = allowed
  change-more boot began (Protect user given fresh) change allowed =
      (allowed.0, (allowed.1.0, recorded user allowed.1.0 allowed.1.1, allowed.1.2))
  change-more boot began (Unlock user secret) change allowed =
      (allowed.0, recorded user allowed.0 allowed.1, allowed.2)
  change-more boot began (Fixate user) change allowed = (allowed.0, recorded user allowed.0 allowed.1, allowed.2)
  change-more boot began (Destroy user) change allowed = allowed
  change-more boot began command change allowed = absurd allowed

  pub outcome-more : (boot : ℕ) (began : Running) (reply : Reply) → AllowsOutcome less boot began reply
      → AllowsOutcome more boot began reply
  outcome-more boot began Done came = did-work boot began began.command came
  outcome-more boot began (Ended count) came = did-recover count began.command came
  outcome-more boot began Gone came = did-destroy began began.command came
  outcome-more boot began WrongSecret came = gave-wrong-secret began began.command came
  outcome-more boot began reply came = absurd came

-- what is due when a command begins is a refusal
due-kind : (holds : Bool) (refusal reply : Reply) → kind_of_reply refusal ≡ Refusal → due holds refusal ≡ Some reply
    → kind_of_reply reply ≡ Refusal
due-kind true refusal reply kind is = let same : refusal ≡ reply = cc in rw (← same) kind
due-kind false refusal reply kind is = cc

first-kind : (first second : Option Reply) (reply : Reply)
    → (first ≡ Some reply → kind_of_reply reply ≡ Refusal)
    → (second ≡ Some reply → kind_of_reply reply ≡ Refusal) → first_due first second ≡ Some reply
    → kind_of_reply reply ≡ Refusal
first-kind None second reply one other is = other is
first-kind (Some refusal) second reply one other is = one is

pub refusal-kind : (command : Command) (facts : Facts) (reply : Reply) → refusal_of command facts ≡ Some reply
    → kind_of_reply reply ≡ Refusal
refusal-kind (Create user) facts reply is =
    first-kind (due facts.present UserExists) (due facts.crowded TooManyUsers) reply
    (λ first. due-kind facts.present UserExists reply refl first)
    (λ second. due-kind facts.crowded TooManyUsers reply refl second) is
refusal-kind (Unlock user secret) facts reply is = due-kind (not facts.present) NoUser reply refl is
refusal-kind (Lock user) facts reply is =
    first-kind (due (not facts.present) NoUser) (due (not facts.installed) NotInstalled) reply
    (λ first. due-kind (not facts.present) NoUser reply refl first)
    (λ second. due-kind (not facts.installed) NotInstalled reply refl second) is
refusal-kind (Protect user given fresh) facts reply is =
    first-kind (due (not facts.present) NoUser) (due facts.full NoSlot) reply
    (λ first. due-kind (not facts.present) NoUser reply refl first)
    (λ second. due-kind facts.full NoSlot reply refl second) is
refusal-kind (Fixate user) facts reply is = due-kind (not facts.present) NoUser reply refl is
refusal-kind (Destroy user) facts reply is = due-kind (not facts.present) NoUser reply refl is
refusal-kind Recover facts reply is = due-kind facts.ready Ready reply refl is

-- only an outcome may bring the machine up
pub phase-stays : (phase : Phase) (command : Command) (reply : Reply) → kind_of_reply reply ≢ Outcome
    → phase_after phase command reply ≡ phase
phase-stays phase Recover (Ended count) differ = absurd (differ refl)
phase-stays phase command reply differ = refl

-- and none stops the machine
pub never-stops : (phase : Phase) (command : Command) (reply : Reply) → phase ≢ Halted
    → phase_after phase command reply ≢ Halted
never-stops phase Recover (Ended count) differ = λ e. cc
never-stops phase command reply differ = differ
