-- A task that heard the outputs of its jobs stands as it did before.
use Rattle.std.proofs.Common.{◌≡◌, List, [], ◌∷◌, refl, sym, ap, ◌∙◌, subst}
use Rattle.std.specs.Prelude.{Option}
use Rattle.deferred_delete.specs.declared.items.Item.{Item}
use Rattle.journal_model.specs.declared.commands.Actor.{Actor}
use Rattle.journal_model.specs.declared.commands.Actor.TheVariants.{User as UserActor}
use Rattle.journal_model.specs.declared.commands.Command.{Command}
use Rattle.journal_model.specs.Machine.{Running as BeganCommand}
use Rattle.step_core.specs.declared.jobs.Job.{Job}
use Rattle.step_core.specs.Jobs.{output_of}
use Rattle.task_turns.specs.declared.calls.Answer.TheVariants.{Output}
use Rattle.task_turns.specs.declared.next.Next.{Next}
use Rattle.task_turns.specs.declared.next.Next.TheVariants.{Work as WorkNext}
use Rattle.task_turns.specs.Turns.{seen_of, WorkShows, TurnShows, AllOwned}
use Rattle.task_turns.specs.Shares.{AllHas}
use Rattle.user_tasks.specs.declared.tasks.UserTask.{UserTask}
use Rattle.user_tasks.specs.Tasks.{tasks, user_of, rest_of}
use Rattle.vold_book.specs.declared.tasks.Running.{Running}
use Rattle.vold_book.specs.declared.tasks.Task.{Task}
use Rattle.vold_book.specs.declared.tasks.Task.TheVariants.{User as Using, Recovery as Recovers, Refusal, Fault}
use Rattle.vold_book.specs.State.{Plain, Ground, machine_of, ground_of, share_of}
use Rattle.vold_book.specs.Owing.{HasTried}
use Rattle.vold_book.specs.Tasks.{TaskStands, RunsOn, HoldsOwn, Worked, Plans, ends_passed, held_in, scene_of, due_to}

-- what holds of a task alone, and of a user's before a job where it holds after it, holds after all jobs
module _ (ground : Ground) (began : BeganCommand) (due : Option Item) (P : Task → Task → Type 0)
    (alone : (task : Task) → P task task) (further : (task : UserTask) (job : Job) (now : Task)
    → TurnShows (seen_of tasks task) (scene_of (user_of task) ground began due) (WorkNext job)
    → P (Using (tasks.after task (Output (output_of job.input)))) now → P (Using task) now) where
  pub after-jobs : (jobs : List Job) (task now : Task) → Worked ground began due task now jobs → P task now
  after-jobs [] task now worked = subst (P task) (sym worked) (alone task)
  after-jobs (job ∷ jobs) (Using task) now worked =
      further task job now worked.0 (after-jobs jobs (Using _) now worked.1)
  after-jobs (job ∷ jobs) (Recovers recovery) now worked = absurd worked
  after-jobs (job ∷ jobs) (Refusal reply) now worked = absurd worked
  after-jobs (job ∷ jobs) (Fault device held) now worked = absurd worked

-- a recovery asks for no job
pub recovers-it : (ground : Ground) (began : BeganCommand) (due : Option Item) (task now : Task) (jobs : List Job)
    (recovery : _) → Worked ground began due task now jobs → now ≡ Recovers recovery → task ≡ Recovers recovery
recovers-it ground began due task now jobs recovery =
    after-jobs ground began due (λ task now. now ≡ Recovers recovery → task ≡ Recovers recovery) (λ task is. is)
    (λ task job now shows later is. absurd (apart (later is))) jobs task now
  where
    apart : {task : _} → Using task ≡ Recovers recovery → ⊥
    apart e = cc

-- a task that heard the outputs of its jobs goes on as it did
pub ends-worked : (ground : Ground) (began : BeganCommand) (due : Option Item) (command : Command) (task now : Task)
    (jobs : List Job) → Worked ground began due task now jobs → ends_passed command now ≡ ends_passed command task
ends-worked ground began due command task now jobs =
    after-jobs ground began due (λ task now. ends_passed command now ≡ ends_passed command task) (λ task. refl)
    (λ task job now shows later. later) jobs task now

module _ (ground : Ground) (actor : Actor) (began : BeganCommand) (due : Option Item) where
  -- where a task stands and what it holds
  pub record StandsNow (task now : Task) : Type 0 where
    pub stands : TaskStands ground now began
    pub held : held_in now ≡ held_in task

  module _ (task : UserTask) (job : Job) (rests : TaskStands ground (Using task) began)
      (shows : WorkShows (seen_of tasks task) (scene_of (user_of task) ground began due) job) where
    abbrev after : UserTask
    after = tasks.after task (Output (output_of job.input))

    pub heard-stands : StandsNow (Using task) (Using after)
    heard-stands = record {
      stands = record {
        of_user = rests.of_user ∙ ap UserActor (sym shows.leads.same_user);
        accepted = rests.accepted;
        serves = shows.leads.serves;
        facts = subst (λ u. AllHas (rest_of after).facts (share_of u ground)) (sym shows.leads.same_user)
            shows.leads.facts;
        known = shows.leads.known;
        owned = subst (λ u. AllOwned ground.vault.entries u (rest_of after).held) (sym shows.leads.same_user)
            (subst (AllOwned ground.vault.entries (rest_of task).user) (sym shows.held) rests.owned);
      };
      held = shows.held;
    }

  pub worked-stands : (task now : Task) (jobs : List Job) → Worked ground began due task now jobs
      → TaskStands ground task began → StandsNow task now
  worked-stands task now jobs = after-jobs ground began due
      (λ task now. TaskStands ground task began → StandsNow task now)
      (λ task stands. record { stands = stands; held = refl })
      (λ task job now shows later stands.
      let heard = heard-stands task job stands shows in
      let then = later heard.stands in record { stands = then.stands; held = then.held ∙ heard.held }) jobs task now

module _ (book : Plain) (actor : Actor) (it : Running) (now : Task) (next : Next)
    (plans : Plans book actor it now next) where
  abbrev due : Option Item
  due = due_to book it

  stands-both : StandsNow (ground_of book) actor plans.on.began due it.task now
  stands-both =
      worked-stands (ground_of book) actor plans.on.began due it.task now plans.jobs plans.worked plans.on.stands

  -- the command with its jobs done stands and holds what it held
  pub stands-now : TaskStands (ground_of book) now plans.on.began
  stands-now = stands-both.stands

  pub held-now : held_in now ≡ held_in it.task
  held-now = stands-both.held

  pub ends-now : ends_passed plans.on.began.command now ≡ ends_passed plans.on.began.command it.task
  ends-now = ends-worked (ground_of book) plans.on.began due plans.on.began.command it.task now plans.jobs plans.worked

  -- and runs as the actor's
  abbrev pub on-now : RunsOn (ground_of book) (machine_of book) actor
      (record { number = it.number; task = now; owed = it.owed })
  on-now = record {
    began = plans.on.began;
    at = plans.on.at;
    own = plans.on.own;
    stands = stands-now;
    holds = subst (HoldsOwn (ground_of book) actor) (sym held-now) plans.on.holds;
    owes = plans.on.owes;
    tried = subst (λ ends. HasTried (ground_of book) ends it.owed) (sym ends-now) plans.on.tried;
  }
