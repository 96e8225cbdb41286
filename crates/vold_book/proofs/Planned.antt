-- What a user's command does next, with its jobs done, shows what it has to.
use Rattle.std.proofs.Common.{◌≡◌, ℕ, true, List, [], ◌∷◌, refl, sym, ap, ◌∙◌, subst}
use Rattle.std.specs.Prelude.{Option, Some, None, is_some, IfSome, unwrap_or}
use Rattle.std.specs.FinMap as map
use Rattle.tree_model.specs.declared.blobs.Blob.{Blob}
use Rattle.tree_model.specs.declared.sites.Site.{Site}
use Rattle.tree_model.specs.declared.sites.Site.TheVariants.{Temp}
use Rattle.tree_model.specs.Disk.{view}
use Rattle.tree_model.specs.Named.{PartNames, IsNamed}
use Rattle.tree_model.specs.Parts.{Part, part_of}
use Rattle.tree_model.specs.Sites.{place_of}
use Rattle.tree_model.specs.Tree.{Tree}
use Rattle.deferred_delete.specs.declared.items.Item.{Item}
use Rattle.journal_model.specs.declared.commands.Actor.{Actor}
use Rattle.blob_custody.proofs.Left.{view-left}
use Rattle.user_world.specs.Facts.{Holds, Durable}
use Rattle.user_world.specs.OwnWorlds.{OwnWorld, own_view}
use Rattle.user_world.specs.Timelines.{own_of}
use Rattle.user_world.proofs.Timelines.{view-shown, durable-held}
use Rattle.step_core.specs.Table.{NamedPlaces}
use Rattle.step_core.specs.declared.jobs.Job.{Job}
use Rattle.step_core.specs.Jobs.{output_of}
use Rattle.task_turns.specs.declared.calls.Answer.TheVariants.{Output}
use Rattle.task_turns.specs.declared.next.Next.{Next}
use Rattle.task_turns.specs.declared.next.Next.TheVariants.{Work as WorkNext}
use Rattle.task_turns.specs.Turns.{seen_of, TurnShows}
use Rattle.bench.specs.Bench.{KnowsPlaces}
use Rattle.user_tasks.specs.declared.looks.Looks.{Looks}
use Rattle.user_tasks.specs.declared.tasks.UserTask.{UserTask}
use Rattle.user_tasks.specs.Looks.{IsNextToClear, Finds}
use Rattle.user_tasks.specs.Tasks.{tasks, rest_of, user_of, UserTurns}
use Rattle.vold_book.specs.declared.plans.Planned.{Planned}
use Rattle.vold_book.specs.declared.tasks.Running.{Running}
use Rattle.vold_book.specs.declared.tasks.Task.{Task}
use Rattle.vold_book.specs.declared.tasks.Task.TheVariants.{User as Using}
use Rattle.vold_book.specs.Knowing.{IsTold}
use Rattle.vold_book.specs.Owed.{Owed, due_of}
use Rattle.vold_book.specs.Plans.{next_of, Works, PlansUser}
use Rattle.vold_book.specs.State.{Plain, Ground, machine_of, ground_of}
use Rattle.vold_book.specs.Steps.{IsPlanned, task_now}
use Rattle.vold_book.specs.Sweeping.{IsNextSite}
use Rattle.vold_book.specs.Tasks.{TaskStands, RunsOn, Worked, Plans, scene_of}
use Rattle.vold_book.specs.Whole.{Whole}
use Rattle.vold_book.proofs.DueItems.{due-listed}
use Rattle.vold_book.proofs.HeldBlobs.{held-has}
use Rattle.vold_book.proofs.RecoveryPlans.{none-there}
use Rattle.vold_book.proofs.SlotsToTry.{sound-share}
use Rattle.vold_book.proofs.UserRuns.{UserRuns, runs-now, known, marked}
use Rattle.vold_book.proofs.Worked.{heard-stands}

-- what the known places have in the way is what the user's part of the view has
next-to-clear : (places : NamedPlaces) (tree : Tree) (user : ℕ) (part : Part) → KnowsPlaces places tree
    → part ≡ part_of tree user
    → (site : Option Site) → IsNextSite places user site → IsNextToClear part site
next-to-clear places tree user part knows is = by
  where
    gone : (site : Site) → map.get places (place_of user site) ≡ None → part site ≡ None
    gone site none = ap (λ p. p site) is
        ∙ none-there (map.get places (place_of user site)) (map.get tree (place_of user site))
        (knows (place_of user site)) none

    by : (site : Option Site) → IsNextSite places user site → IsNextToClear part site
    by None none = λ site way. gone site (none site way)
    by (Some site) next = (
      next.0,
      ap (λ p. is_some (p site)) is ∙ sym (knows (place_of user site)) ∙ next.1,
      λ other. gone Temp (next.2 other),
    )

module _ (book : Plain) (whole : Whole book) (actor : Actor) (number : ℕ) (task : UserTask) (owed : Owed)
    (at : map.get book.docket.running actor ≡ Some (record { number = number; task = Using task; owed = owed })) where
  abbrev it : Running
  it = record { number = number; task = Using task; owed = owed }

  on : RunsOn (ground_of book) (machine_of book) actor it
  on = whole.run actor it at

  runs : UserRuns book
  runs = runs-now book whole actor it task at on refl

  abbrev ground : Ground
  ground = ground_of book

  abbrev own : OwnWorld
  own = own_of (user_of task) ground.line

  shown : own_view own ≡ part_of (view book.bench.disk) (user_of task)
  shown = view-shown (user_of task) _ ground.line whole.worlds.shows

  named : (blob : Blob) → PartNames (own_view own) blob → IsNamed (view book.bench.disk) blob
  named blob names = record { user = user_of task; there = subst (λ part. PartNames part blob) shown names }

  -- what a turn is told is so
  module _ (looks : Looks) (told : IsTold book (user_of task) owed looks) where
    durable : looks.durable ≡ true → Holds Durable own
    durable is = let marks = told.durable is in durable-held (user_of task) _ ground.line whole.worlds.shows
        (marked book whole runs (user_of task) marks.0 marks.1)

    spared : (due : Option Item) → due_of book.bench.list owed ≡ due
        → IfSome due (λ item. ¬ (PartNames (own_view own) item.blob))
    spared None is = tt
    spared (Some item) is = λ names. whole.clean.unnamed item
        (due-listed book.bench.list whole.numbered owed item is).listed (named item.blob names)

    finds : Finds (scene_of (user_of task) ground on.began (due_of book.bench.list owed)) (rest_of task).held looks
    finds = record {
      clear = next-to-clear book.bench.places (view book.bench.disk) (user_of task) _ (known book whole runs).there
          shown looks.in_the_way told.in_the_way;
      unnamed = λ blob held names. (whole.clean.held_gone blob (held-has book.docket.running blob
          (record { actor = actor; it = it; runs = at; holds = held }))).gone (view book.bench.disk)
          (view-left book.bench.disk) (named blob names);
      durable = durable;
      due = sym told.due;
      spared = spared looks.due (sym told.due);
    }

    -- what the task is after some of its jobs, which stands in the same ground and holds the same
    record Stands (now : UserTask) : Type 0 where
      rests : TaskStands ground (Using now) on.began
      held : (rest_of now).held ≡ (rest_of task).held
      same : user_of now ≡ user_of task

    abbrev due : Option Item
    due = due_of book.bench.list owed

    -- it shows what it has to
    shows-next : (now : UserTask) (next : Next) → Stands now → UserTurns now looks next
        → TurnShows (seen_of tasks now) (scene_of (user_of now) ground on.began due) next
    shows-next now next stands turns =
        turns (scene_of (user_of now) ground on.began due) (sound-share book whole (user_of now))
        (subst (λ user. Finds (scene_of user ground on.began due) (rest_of now).held looks) (sym stands.same)
        (subst (λ held. Finds (scene_of (user_of task) ground on.began due) held looks) (sym stands.held) finds))
        stands.rests

    works-on : (now : UserTask) (job : Job) → Stands now
        → TurnShows (seen_of tasks now) (scene_of (user_of now) ground on.began due) (WorkNext job)
        → Stands (tasks.after now (Output (output_of job.input)))
    works-on now job stands shows = let heard = heard-stands ground actor on.began due now job stands.rests shows in
        record {
          rests = heard.stands;
          held = shows.held ∙ stands.held;
          same = shows.leads.same_user ∙ stands.same;
        }

    -- so do its jobs
    works : (jobs : List Job) (now last : UserTask) → Stands now → Works now looks last jobs
        → Worked ground on.began due (Using now) (Using last) jobs × Stands last
    works [] now last stands is = (ap Using is, subst Stands (sym is) stands)
    works (job ∷ jobs) now last stands (asks, rest) =
        let shows = shows-next now (WorkNext job) stands asks in
        let after = works jobs (tasks.after now (Output (output_of job.input))) last (works-on now job stands shows)
        rest
        in ((shows, after.0), after.1)

    planned-by : (planned : Planned) → PlansUser task looks planned
        → Plans book actor it (task_now planned.task (Using task)) (next_of planned.plan)
    planned-by planned plans =
        let last = unwrap_or planned.task task in
        let done = works plans.jobs task last (record { rests = on.stands; held = refl; same = refl }) plans.works in
        subst (λ now. Plans book actor it now (next_of planned.plan)) (now-is planned.task) (record {
          runs = at;
          on = on;
          jobs = plans.jobs;
          worked = done.0;
          shows = shows-next last (next_of planned.plan) done.1 plans.turns;
        })
      where
        now-is : (found : Option UserTask) → Using (unwrap_or found task) ≡ task_now found (Using task)
        now-is None = refl
        now-is (Some now) = refl

module _ (book : Plain) (whole : Whole book) (actor : Actor) (it : Running) (task : UserTask) (looks : Looks)
    (planned : Planned) where
  abbrev with_task : Task → Running
  with_task task = record { number = it.number; task = task; owed = it.owed }

  pub planned-user : map.get book.docket.running actor ≡ Some it → it.task ≡ Using task
      → IsTold book (user_of task) it.owed looks → PlansUser task looks planned → IsPlanned book actor planned
  planned-user runs is told plans = record {
    it = it;
    plans = subst (λ t. map.get book.docket.running actor ≡ Some (with_task t)
        → Plans book actor (with_task t) (task_now planned.task t) (next_of planned.plan))
        (sym is) (λ at. planned-by book whole actor it.number task it.owed at looks told planned plans) runs;
  }
