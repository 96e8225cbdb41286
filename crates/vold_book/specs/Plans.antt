-- What a user's task does next once the jobs that it asks for are done.
use Rattle.std.specs.Prelude.{◌≡◌, List, [], ◌∷◌, unwrap_or}
use Rattle.step_core.specs.declared.jobs.Job.{Job}
use Rattle.step_core.specs.Jobs.{output_of}
use Rattle.task_turns.specs.declared.calls.Answer.TheVariants.{Output}
use Rattle.task_turns.specs.declared.next.Next.{Next}
use Rattle.task_turns.specs.declared.next.Next.TheVariants.{Call as CallNext, Work as WorkNext, Reply as ReplyNext}
use Rattle.user_tasks.specs.declared.looks.Looks.{Looks}
use Rattle.user_tasks.specs.declared.tasks.UserTask.{UserTask}
use Rattle.user_tasks.specs.Tasks.{tasks, UserTurns}
use Rattle.vold_book.specs.declared.plans.Plan.{Plan}
use Rattle.vold_book.specs.declared.plans.Plan.TheVariants.{Call, Reply}
use Rattle.vold_book.specs.declared.plans.Planned.{Planned}

abbrev pub next_of : Plan → Next
next_of (Call call change) = CallNext call change
next_of (Reply reply) = ReplyNext reply

-- it asks for no job
abbrev pub IsSettledNext : Next → Type 0
IsSettledNext (WorkNext job) = ⊥
IsSettledNext next = Unit {0}

-- a task, or what it is once it heard the outputs of the jobs that it asks for, one after another
abbrev pub Works : UserTask → Looks → UserTask → List Job → Type 0
Works task looks now [] = now ≡ task
Works task looks now (job ∷ jobs) =
    UserTurns task looks (WorkNext job) × Works (tasks.after task (Output (output_of job.input))) looks now jobs

-- the task does this next, once its jobs are done
pub record PlansUser (task : UserTask) (looks : Looks) (planned : Planned) : Type 0 where
  pub jobs : List Job
  pub works : Works task looks (unwrap_or planned.task task) jobs
  pub turns : UserTurns (unwrap_or planned.task task) looks (next_of planned.plan)
