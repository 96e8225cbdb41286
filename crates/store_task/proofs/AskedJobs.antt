-- The job that a task asks for: it may hear the output, and asks for fewer then.
use Rattle.std.proofs.Common.{◌≡◌, ℕ, ◌<◌, List, [], ◌∷◌, refl, sym, subst, arith}
use Rattle.step_core.specs.declared.jobs.Job.{Job}
use Rattle.step_core.specs.Jobs.{output_of}
use Rattle.task_turns.specs.declared.calls.Answer.TheVariants.{Output}
use Rattle.task_turns.specs.Turns.{HasWholeKey}
use Rattle.store_task.specs.declared.turns.StoreSpec.{StoreSpec}
use Rattle.store_task.specs.declared.stages.Stage.TheVariants.{First}
use Rattle.store_task.specs.declared.stages.Progress.TheVariants.{Absent}
use Rattle.store_task.specs.Task.{Task, IsAnswer, after, asks_of, first_job, progress_of}
use Rattle.store_task.specs.Turns.{AsksFirst}

-- what holds of a task that asks for the job
pub record IsAsked (task : Task) (job : Job) : Type 0 where
  pub whole : HasWholeKey job.input
  pub hears : IsAnswer task (Output (output_of job.input))
  pub fewer : asks_of (after task (Output (output_of job.input))) < asks_of task
  -- the directory isn't begun with the output
  pub absent : progress_of (after task (Output (output_of job.input))).stage ≡ Absent

module _ (spec : StoreSpec) (number : ℕ) where
  abbrev begun : List ℕ → Task
  begun secret = record { spec = record spec { secret = secret }; job = number; stage = First }

  asked-first : (secret : List ℕ) → IsAsked (begun secret) (first_job (begun secret))
  asked-first [] = record { whole = tt; hears = refl; fewer = omega arith; absent = refl }
  asked-first (byte ∷ bytes) = record { whole = tt; hears = λ e. cc; fewer = omega arith; absent = refl }

pub asked : (task : Task) (job : Job) → AsksFirst task job → IsAsked task job
asked task job asks =
    subst (IsAsked task) (sym asks.is)
    (subst (λ stage. IsAsked (record task { stage = stage }) (first_job task)) (sym asks.first)
    (asked-first task.spec task.job task.spec.secret))
