-- A call that was made of an actor's command, with what it had to meet and what it left.
use Rattle.std.proofs.Common.{◌≡◌, ◌≢◌, sym, ◌∙◌, subst}
use Rattle.std.specs.Prelude.{◌&&◌, is_some, Ok, Option}
use Rattle.journal_model.specs.declared.commands.Actor.{Actor}
use Rattle.task_turns.specs.declared.next.Next.TheVariants.{Call as CallNext}
use Rattle.bench.specs.declared.made.Made.{Made}
use Rattle.bench.specs.Bench.{Plain as Seen, Fits, IsMade, was_done}
use Rattle.bench.specs.Seen.{AnswersWhole, marks_told}
use Rattle.vold_book.specs.declared.tasks.Running.{Running}
use Rattle.vold_book.specs.Owed.{owed_after}
use Rattle.vold_book.specs.State.{Plain, ground_of}
use Rattle.vold_book.specs.Tasks.{Plans, TaskAfter, TaskShows, TaskStands, due_to}
use Rattle.vold_book.specs.Turns.{Making, marks_with}
use Rattle.vold_book.proofs.Moves.{After, Notes, Moves, after_of}
use Rattle.task_turns.specs.declared.calls.Call.{Call}
use Rattle.journal_model.specs.declared.phase.Phase.TheVariants.{Down, Up}
use Rattle.vold_book.specs.declared.tasks.Task.TheVariants.{Fault, Recovery as Recovers, Refusal, User as Using}
use Rattle.task_turns.specs.declared.calls.Call.TheVariants.{List as ListCall}
use Rattle.user_world.specs.declared.changes.LocalChange.{LocalChange}
use Rattle.vold_book.specs.declared.tasks.Task.{Task}
use Rattle.vold_book.specs.Whole.{Whole}
use Rattle.vold_book.proofs.Worked.{stands-now}

pub record MadeCall (book : Plain) (actor : Actor) (it : Running) : Type 0 where
  pub making : Making
  pub made : Made
  pub bench : Seen
  pub plans : Plans book actor it making.task (CallNext making.call making.change)
  pub fits : Fits book.bench making.call
  pub is_made : IsMade book.bench bench making.call (Ok made)
  pub long : AnswersWhole (Ok made)
  pub after : TaskAfter making.call made making.task making.then
  pub moves : Moves book actor it.number
      (after_of book it.number making.call making.change making.then made bench)

abbrev pub left_by : (book : Plain) (actor : Actor) (it : Running) → MadeCall book actor it → After
left_by book actor it done =
    after_of book it.number done.making.call done.making.change done.making.then done.made done.bench

-- no call on a machine that is up lists the places
pub no-list : (book : Plain) (actor : Actor) (it : Running) → Whole book → (task : Task) (call : Call)
    (change : Option LocalChange) → Plans book actor it task (CallNext call change) → book.tracker.phase ≡ Up
    → call ≢ ListCall
no-list book actor it whole task call change plans up is =
    by task (stands-now book actor it task (CallNext call change) plans)
    (subst (λ c. TaskShows (ground_of book) plans.on.began (due_to book it) task (CallNext c change)) is plans.shows)
  where
    down-up : Down ≡ Up → ⊥
    down-up e = cc

    by : (task : Task) → TaskStands (ground_of book) task plans.on.began
        → TaskShows (ground_of book) plans.on.began (due_to book it) task (CallNext ListCall change) → ⊥
    by (Using user) stands shows = shows.stands
    by (Recovers recovery) stands shows = down-up (sym stands.1.0 ∙ whole.agrees.phase ∙ up)
    by (Refusal reply) stands shows = cc
    by (Fault device held) stands shows = cc

-- what the command owes then, and who is marked
pub record IsNotes (book : Plain) (actor : Actor) (it : Running) (done : MadeCall book actor it) (notes : Notes) :
    Type 0 where
  pub owed : notes.owed
      ≡ owed_after book.bench.places book.bench.list.next done.making.call (was_done done.made) it.owed
  pub marks : notes.marks ≡ marks_with done.bench.places (marks_told book.marks done.making.call (Ok done.made))
      done.making.call (was_done done.made && is_some done.making.change)
