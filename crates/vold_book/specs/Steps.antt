-- What an actor's next turn does, as the Book's own functions hand it on.
use Rattle.std.specs.Prelude.{◌≡◌, ◌⊎◌, Option, Some, None, IsNone, IsSome, slice_get}
use Rattle.std.specs.FinMap as map
use Rattle.journal_model.specs.declared.commands.Actor.{Actor}
use Rattle.journal_model.specs.declared.commands.Command.{Command}
use Rattle.journal_model.specs.declared.commands.Reply.{Reply}
use Rattle.journal_model.specs.Machine.{TakesTurn}
use Rattle.task_turns.specs.declared.next.Next.TheVariants.{Call as CallNext, Reply as ReplyNext}
use Rattle.bench.specs.Bench.{BenchState, Senses}
use Rattle.vold_book.specs.declared.tasks.Running.{Running}
use Rattle.vold_book.specs.declared.tasks.Task.{Task}
use Rattle.vold_book.specs.declared.tasks.Task.TheVariants.{User}
use Rattle.vold_book.specs.declared.plans.Planned.{Planned}
use Rattle.vold_book.specs.Plans.{next_of}
use Rattle.user_tasks.specs.declared.tasks.UserTask.{UserTask}
use Rattle.vold_book.specs.declared.turns.Step.{Step}
use Rattle.vold_book.specs.declared.turns.Step.TheVariants.{Idle, Waits, Begin, GoOn}
use Rattle.vold_book.specs.State.{BookState, Plain, seen}
use Rattle.vold_book.specs.Tasks.{Plans}
use Rattle.vold_book.specs.Turns.{Makes, Making, after_reply}

-- what the next turn does, by what the actor runs and whether something waits for it
abbrev pub IsStep : {B : Type 0} → BookState B → Actor → Step → Type 0
IsStep book actor Idle = IsNone (map.get book.docket.running actor) × IsNone (map.get book.docket.waiting actor)
IsStep book actor Waits = IsNone (map.get book.docket.running actor) × IsSome (map.get book.docket.waiting actor)
    × ¬ (TakesTurn book.tracker.phase actor)
IsStep book actor Begin = IsNone (map.get book.docket.running actor) × IsSome (map.get book.docket.waiting actor)
    × TakesTurn book.tracker.phase actor
IsStep book actor GoOn = IsSome (map.get book.docket.running actor)

-- the reply is what the actor's command does next
pub record RepliesNext (book : Plain) (actor : Actor) (reply : Reply) : Type 0 where
  pub it : Running
  pub now : Task
  pub plans : Plans book actor it now (ReplyNext reply)

-- the user's task with its jobs done, where there was one
abbrev pub task_now : Option UserTask → Task → Task
task_now None task = task
task_now (Some user) task = User user

-- this is what the actor's command does next
pub record IsPlanned (book : Plain) (actor : Actor) (planned : Planned) : Type 0 where
  pub it : Running
  pub plans : Plans book actor it (task_now planned.task it.task) (next_of planned.plan)

-- the reply was given to the actor's command
pub record RepliesTo {D E F : Type 0} (before after : BookState (BenchState D E F)) (actor : Actor) (it : Running)
    (reply : Reply) : Type 0 where
  pub command : Command
  pub given : slice_get before.docket.commands it.number ≡ Some command
  pub state : after ≡ after_reply before actor it command reply

-- the call that was planned was made
pub record CallsOn {D E F : Type 0} (senses : Senses D E F) (before after : BookState (BenchState D E F))
    (actor : Actor) : Type 0 where
  pub it : Running
  pub making : Making
  pub plans : Plans (seen senses before) actor it making.task (CallNext making.call making.change)
  pub makes : Makes senses before after actor it making

-- and the reply that was planned was given
pub record RepliesOn {D E F : Type 0} (senses : Senses D E F) (before after : BookState (BenchState D E F))
    (actor : Actor) : Type 0 where
  pub it : Running
  pub now : Task
  pub reply : Reply
  pub plans : Plans (seen senses before) actor it now (ReplyNext reply)
  pub replies : RepliesTo before after actor it reply

abbrev pub GoesOn : {D E F : Type 0} → Senses D E F → BookState (BenchState D E F) → BookState (BenchState D E F)
    → Actor → Type 0
GoesOn senses before after actor = CallsOn senses before after actor ⊎ RepliesOn senses before after actor
