-- A user's command on its way, and what a call of its leaves the Book where it leads on.
use Rattle.std.proofs.Common.{◌≡◌, ◌≢◌, ◌⊎◌, ℕ, inl, inr, refl, sym, ap, ◌∙◌, subst, List, []}
use Rattle.std.proofs.lemmas.Option.{none-some, same_Some}
use Rattle.std.specs.Prelude.{Some, IfSome, Contains}
use Rattle.std.specs.FinMap as map
use Rattle.tree_model.specs.declared.blobs.Blob.{Blob}
use Rattle.tree_model.specs.Disk.{view}
use Rattle.journal_model.specs.declared.commands.Actor.{Actor}
use Rattle.journal_model.specs.declared.commands.Actor.TheVariants.{Boot, User}
use Rattle.journal_model.specs.declared.phase.Phase.{Phase}
use Rattle.journal_model.specs.declared.phase.Phase.TheVariants.{Up, Down, Halted}
use Rattle.journal_model.specs.Actor.{actor_cmp}
use Rattle.journal_model.specs.Command.{actor_of}
use Rattle.journal_model.specs.Machine.{Machine, Running as BeganCommand}
use Rattle.keystore_model.specs.declared.entry.StoreEntry.{StoreEntry}
use Rattle.keystore_model.specs.Store.{Differ}
use Rattle.keystore_model.proofs.Elements.{Contains-none}
use Rattle.user_world.specs.Timelines.{Timeline, OwnWorldsStand}
use Rattle.key_directory.specs.Vaults.{sealed}
use Rattle.task_turns.specs.declared.calls.Answer.{Answer}
use Rattle.task_turns.specs.Shares.{AllHas, AreHeld}
use Rattle.task_turns.specs.Turns.{Rests, AllOwned, Scene}
use Rattle.bench.specs.Known.{Knows}
use Rattle.user_tasks.specs.declared.tasks.UserTask.{UserTask}
use Rattle.user_tasks.specs.Tasks.{tasks, user_of, rest_of}
use Rattle.vold_book.specs.declared.tasks.Running.{Running}
use Rattle.vold_book.specs.declared.tasks.Task.{Task}
use Rattle.vold_book.specs.declared.tasks.Task.TheVariants.{User as Using, Recovery as Recovers, Refusal, Fault}
use Rattle.vold_book.specs.Entries.{may_with}
use Rattle.vold_book.specs.Owed.{Owed, due_of}
use Rattle.vold_book.specs.Parts.{Agrees}
use Rattle.vold_book.specs.State.{Plain, Ground, machine_of, timeline, ground_of, vault_of, share_of}
use Rattle.vold_book.specs.Tasks.{TaskStands, RunsOn, held_in, scene_of}
use Rattle.vold_book.specs.Whole.{MarksTell, PhaseStands, Whole}
use Rattle.vold_book.proofs.Grounds.{LeavesGround, rests-still, not_boot}
use Rattle.vold_book.proofs.Moves.{After, Moves, StandsOn, machine_then, tried_then, ground_then, owns-all}
use Rattle.vold_book.proofs.Needed.{IsNeeded, held-needed, view-needed}
use Rattle.vold_book.proofs.Numbers.{IsQuiet}

-- it runs on a machine that is up
pub record UserRuns (book : Plain) : Type 0 where
  pub actor : Actor
  pub number : ℕ
  pub task : UserTask
  pub owed : Owed
  pub on : RunsOn (ground_of book) (machine_of book) actor
      (record { number = number; task = Using task; owed = owed })
  -- what it holds is needed
  pub needs : (blob : Blob) → Contains (rest_of task).held blob → IsNeeded book blob
  pub up : book.tracker.phase ≡ Up

-- where an actor other than the boot's runs something, the machine is up
pub runs-up : (book : Plain) (actor : Actor) (it : Running) → map.get book.docket.running actor ≡ Some it
    → (phase : Phase) → PhaseStands phase book (machine_of book) → actor ≢ Boot → phase ≡ Up
runs-up book actor it runs Up stands other = refl
runs-up book actor it runs Down stands other = absurd (other (stands.1 actor it runs))
runs-up book actor it runs Halted stands other =
    absurd (none-some it (sym (map.get-empty actor_cmp actor) ∙ ap (λ m. map.get m actor) (sym stands.2) ∙ runs))

-- where a user's actor runs something, the places of the view are known
pub known-up : (book : Plain) → Whole book → (actor : Actor) (it : Running)
    → map.get book.docket.running actor ≡ Some it → (user : ℕ) → actor ≡ User user
    → Knows book.bench.places (view book.bench.disk)
known-up book whole actor it at user is = (subst (λ phase. PhaseStands phase book (machine_of book))
    (runs-up book actor it at book.tracker.phase whole.phase (λ boot. not_boot user (sym boot ∙ is))) whole.phase).0

-- an actor's command as it runs, with its jobs done
abbrev pub runs-now : (book : Plain) → Whole book → (actor : Actor) (it : Running) (now : UserTask)
    → map.get book.docket.running actor ≡ Some it
    → RunsOn (ground_of book) (machine_of book) actor
    (record { number = it.number; task = Using now; owed = it.owed })
    → (rest_of now).held ≡ held_in it.task → UserRuns book
runs-now book whole actor it now at on held = record {
  actor = actor;
  number = it.number;
  task = now;
  owed = it.owed;
  on = on;
  needs = λ blob holds. held-needed book actor it at blob (subst (λ blobs. Contains blobs blob) held holds);
  up = runs-up book actor it at book.tracker.phase whole.phase
      (λ boot. not_boot (user_of now) (sym boot ∙ sym on.own ∙ on.stands.of_user));
}

module _ (book : Plain) (whole : Whole book) (runs : UserRuns book) where
  abbrev pub user : ℕ
  user = user_of runs.task

  abbrev pub machine : Machine
  machine = machine_of book

  abbrev pub line : Timeline
  line = timeline book.bench.disk machine

  pub own_actor : runs.actor ≡ User user
  own_actor = sym runs.on.own ∙ runs.on.stands.of_user

  pub up-not-down : machine.phase ≡ Down → ⊥
  up-not-down down = differ (sym runs.up ∙ sym whole.agrees.phase ∙ down)
    where
      differ : Up ≡ Down → ⊥
      differ e = cc

  stands-up : PhaseStands Up book machine
  stands-up = subst (λ phase. PhaseStands phase book machine) runs.up whole.phase

  pub known : Knows book.bench.places (view book.bench.disk)
  known = stands-up.0

  pub marked : MarksTell book.marks book.bench.places line
  marked = stands-up.1

  -- the other commands stand
  pub others-stand : (after : Ground) → LeavesGround (IsNeeded book) (ground_of book) after user
      → (other : Actor) (o : Running) → other ≢ runs.actor → map.get book.docket.running other ≡ Some o
      → (began : BeganCommand) → actor_of began.command ≡ other → TaskStands (ground_of book) o.task began
      → TaskStands after o.task began
  others-stand after leaves other o differ at began own stands = by o.task refl stands
    where
      by : (t : Task) → o.task ≡ t → TaskStands (ground_of book) t began → TaskStands after t began
      by (Using t) is rests =
          rests-still (IsNeeded book) (ground_of book) after user leaves t
          (λ e. differ (sym own ∙ rests.of_user ∙ ap User e ∙ sym own_actor)) began
          (λ blob holds. held-needed book other o at blob
          (subst (λ task. Contains (held_in task) blob) (sym is) holds))
          (view-needed book whole (user_of t)) rests
      by (Recovers recovery) is rests = absurd (up-not-down rests.1.0)
      by (Refusal reply) is rests = rests
      by (Fault device held) is rests = rests

  -- what a call leaves that leads the user's task on
  pub record LeadsOn (then : UserTask) (began : BeganCommand) (after : After) : Type 0 where
    pub leaves : LeavesGround (IsNeeded book) (ground_of book) (ground_then book after) user
    pub worlds : OwnWorldsStand (sealed (vault_of (tried_then book after) book.seed after.bench.store))
        (timeline after.bench.disk (machine_then book after))
    pub facts : AllHas (rest_of then).facts (share_of user (ground_then book after))
    pub known : AreHeld (rest_of then).held (rest_of then).facts
    pub owned : AllOwned after.bench.store.entries user (rest_of then).held
    pub differ : Differ (rest_of then).held
    pub at : map.get (machine_then book after).running runs.number ≡ Some began
    pub on_machine : (n : ℕ) → n ≢ runs.number → map.get (machine_then book after).running n ≡ map.get
        machine.running n
    pub command : began.command ≡ runs.on.began.command
    pub verdict : began.verdict ≡ runs.on.began.verdict
    pub serves : (rest_of then).serves machine.boot began
    pub same_user : user_of then ≡ user
    pub is_task : after.task ≡ Using then
    pub may : may_with book.ledger.entries machine after.entry
    pub quiet : IfSome after.entry IsQuiet
    pub agrees : Agrees after.tracker (machine_then book after) after.bench.disk
    pub phase : after.tracker.phase ≡ book.tracker.phase
    pub knows : Knows after.bench.places (view after.bench.disk)

  module _ (then : UserTask) (began : BeganCommand) (after : After) (left : LeadsOn then began after) where
    abbrev ground' : Ground
    ground' = ground_then book after

    rests-on : Rests (rest_of then) ground'.boot began (share_of (user_of then) ground')
    rests-on = record {
      of_user = ap actor_of left.command ∙ runs.on.stands.of_user ∙ ap User (sym left.same_user);
      accepted = left.verdict ∙ runs.on.stands.accepted;
      serves = subst (λ b. (rest_of then).serves b began) (sym left.leaves.boot) left.serves;
      facts = subst (λ u. AllHas (rest_of then).facts (share_of u ground')) (sym left.same_user) left.facts;
      known = left.known;
      owned = subst (λ u. AllOwned after.bench.store.entries u (rest_of then).held) (sym left.same_user) left.owned;
    }

    pub leads-move : Moves book runs.actor runs.number after
    leads-move = record {
      may = left.may;
      quiet = left.quiet;
      agrees = left.agrees;
      worlds = left.worlds;
      boot = left.leaves.boot;
      mine = subst (StandsOn ground' (machine_then book after) runs.actor runs.number) (sym left.is_task) (record {
        began = began;
        at = left.at;
        own = ap actor_of left.command ∙ runs.on.own;
        stands = rests-on;
        holds = record {
          differ = left.differ;
          own = owns-all after.bench.store.entries runs.actor user (rest_of then).held own_actor left.owned;
        };
      });
      on_machine = left.on_machine;
      same_command = λ b at. left.command ∙ ap (λ c. c.command) (same_Some runs.on.began b (sym runs.on.at ∙ at));
      others = others-stand ground' left.leaves;
      kept = left.leaves.kept;
      phase = left.phase;
      up = λ is. left.knows;
      durable = λ down. absurd (up-not-down (whole.agrees.phase ∙ down));
    }

  abbrev pub entries : List StoreEntry
  entries = book.bench.store.entries

  -- what the command holds, where it holds no more than it did
  pub owned-still : (then : UserTask) → ((rest_of then).held ≡ (rest_of runs.task).held) ⊎ ((rest_of then).held ≡ [])
      → AllOwned entries user (rest_of then).held
  owned-still then (inl same) blob is =
      runs.on.stands.owned blob (subst (λ held. Contains held blob) same is)
  owned-still then (inr none) blob is = absurd (Contains-none blob (subst (λ held. Contains held blob) none is))

  pub differ-still : (then : UserTask) → ((rest_of then).held ≡ (rest_of runs.task).held) ⊎ ((rest_of then).held ≡ [])
      → Differ (rest_of then).held
  differ-still then (inl same) = subst Differ (sym same) runs.on.holds.differ
  differ-still then (inr none) = subst Differ (sym none) tt

  abbrev pub scene : Scene
  scene = scene_of user (ground_of book) runs.on.began (due_of book.bench.list runs.owed)

  abbrev pub heard : Answer → UserTask
  heard answer = tasks.after runs.task answer
