-- A turn that begins a command keeps the blobs in order.
use Rattle.std.proofs.Common.{◌≡◌, ℕ, true, false, [], refl, sym, ap, ◌∙◌, subst}
use Rattle.std.proofs.lemmas.Bool.{false≢true}
use Rattle.std.specs.Prelude.{Bool, Option, Some, None, IsSome}
use Rattle.std.specs.FinMap as map
use Rattle.journal_model.specs.declared.commands.Actor.{Actor}
use Rattle.journal_model.specs.declared.commands.Command.{Command}
use Rattle.journal_model.specs.declared.commands.Command.TheVariants.{Recover}
use Rattle.journal_model.specs.declared.commands.Reply.{Reply}
use Rattle.journal_model.specs.declared.commands.Reply.TheVariants.{Ready}
use Rattle.journal_model.specs.Command.{user_in}
use Rattle.journal_model.specs.declared.refusals.Facts.{Facts}
use Rattle.journal_model.specs.Refusals.{refusal_of, due}
use Rattle.journal_model.proofs.ByCommand.{no-user}
use Rattle.keystore_model.proofs.Elements.{Contains-none}
use Rattle.blob_custody.specs.Custody.{Custody, IsClean}
use Rattle.user_tasks.specs.declared.tasks.UserTask.{UserTask}
use Rattle.vold_book.specs.declared.recovery.Recovery.{Recovery}
use Rattle.vold_book.specs.declared.tasks.Task.{Task}
use Rattle.vold_book.specs.declared.tasks.Task.TheVariants.{User as Using, Recovery as Recovers, Refusal, Fault}
use Rattle.vold_book.specs.State.{Plain}
use Rattle.vold_book.specs.Tasks.{held_in}
use Rattle.vold_book.specs.Turns.{Start, FirstTask, AcceptedTask, facts_in, unlisted}
use Rattle.vold_book.specs.Whole.{Whole, all_held, custody_of}
use Rattle.vold_book.proofs.Plains.{begun_seen, Beginning, work_of, begun_plain}
use Rattle.vold_book.proofs.HeldBlobs.{same-begun, clean-held}

-- what begins holds nothing
first-holds : (command : Command) (start : Start) (of : Option ℕ) (task : Task)
    → AcceptedTask command start of task → held_in task ≡ []
first-holds command start None task first = ap held_in first
first-holds command start (Some user) task first = ap held_in first.2 ∙ first.4.held

begun-holds : (command : Command) (start : Start) (refusal : Option Reply) (task : Task)
    → FirstTask command start refusal task → held_in task ≡ []
begun-holds command start (Some reply) task first = ap held_in first
begun-holds command start None task first = first-holds command start (user_in command) task first

-- a list that is emptied, on a machine that isn't ready
clean-emptied : (custody : Custody) → IsClean custody → custody.ready ≡ false
    → IsClean (record custody { list = unlisted custody.list })
clean-emptied custody clean down = record {
  placed = λ ready. absurd (false≢true (sym down ∙ ready));
  once = λ item other has. absurd (Contains-none item has);
  live = λ item has. absurd (Contains-none item has);
  unnamed = λ item has. absurd (Contains-none item has);
  free = λ item has. absurd (Contains-none item has);
  gone = λ none item has. absurd (Contains-none item has);
  held_live = clean.held_live;
  held_gone = clean.held_gone;
}

-- a recovery begins on no machine that is up
pub due-down : (facts : Facts) (command : Command) (start : Start) (recovery : Recovery)
    → FirstTask command start (refusal_of command facts) (Recovers recovery) → facts.ready ≡ false
due-down facts command start recovery first = by (user_in command) refl
  where
    accepted : (of : Option ℕ) → IsSome of → AcceptedTask command start of (Recovers recovery) → ⊥
    accepted None some first = cc
    accepted (Some user) some first = apart first.2
      where
        apart : {task : UserTask} → Recovers recovery ≡ Using task → ⊥
        apart e = cc

    of-user : (verdict : Option Reply) → IsSome (user_in command)
        → FirstTask command start verdict (Recovers recovery) → ⊥
    of-user (Some reply) some first = cc
    of-user None some first = accepted (user_in command) some first

    recovers : (up : Bool) → FirstTask Recover start (due up Ready) (Recovers recovery) → up ≡ false
    recovers true first = cc
    recovers false first = refl

    by : (of : Option ℕ) → user_in command ≡ of → facts.ready ≡ false
    by None of = recovers facts.ready
        (subst (λ c. FirstTask c start (refusal_of c facts) (Recovers recovery)) (no-user command of) first)
    by (Some user) of = absurd (of-user (refusal_of command facts) (subst IsSome (sym of) refl) first)

-- a command begins where its actor runs none
module _ (book : Plain) (actor : Actor) (begins : Beginning) (start : Start) (whole : Whole book)
    (idle : map.get book.docket.running actor ≡ None)
    (first : FirstTask begins.command start
    (refusal_of begins.command (facts_in book.bench.places book begins.command)) begins.task) where
  begun-same : IsClean (record (custody_of book) {
    held = all_held (map.insert book.docket.running actor (work_of begins));
  })
  begun-same = clean-held (custody_of book) (all_held (map.insert book.docket.running actor (work_of begins)))
      whole.clean (same-begun book.docket.running actor (work_of begins) idle
      (begun-holds begins.command start
      (refusal_of begins.command (facts_in book.bench.places book begins.command)) begins.task first))

  pub clean-begun : IsClean (custody_of (begun_plain book actor begins))
  clean-begun = by begins.task first
    where
      by : (task : Task) → FirstTask begins.command start
          (refusal_of begins.command (facts_in book.bench.places book begins.command)) task
          → IsClean (record (custody_of book) {
            disk = (begun_seen task book.bench).disk;
            entries = (begun_seen task book.bench).store.entries;
            list = (begun_seen task book.bench).list;
            held = all_held (map.insert book.docket.running actor (work_of begins));
          })
      by (Using task) first = begun-same
      by (Recovers recovery) first = clean-emptied _ begun-same
          (due-down (facts_in book.bench.places book begins.command) begins.command start recovery first)
      by (Refusal reply) first = begun-same
      by (Fault device held) first = begun-same
