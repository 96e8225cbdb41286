-- Where a running command stands, and what its task has to show of its next turn.
use Rattle.std.specs.Prelude.{◌≡◌, ℕ, Bool, true, false, List, [], ◌∷◌, ◌++◌, Some, None, Contains}
use Rattle.std.specs.Prelude.{Option, option_to_list}
use Rattle.deferred_delete.specs.declared.items.Item.{Item}
use Rattle.std.specs.FinMap as map
use Rattle.tree_model.specs.declared.blobs.Blob.{Blob}
use Rattle.journal_model.specs.declared.commands.Actor.{Actor}
use Rattle.journal_model.specs.declared.commands.Actor.TheVariants.{User as UserActor}
use Rattle.journal_model.specs.declared.commands.Command.{Command}
use Rattle.journal_model.specs.declared.commands.Command.TheVariants.{Recover}
use Rattle.journal_model.specs.declared.commands.Reply.{Reply}
use Rattle.journal_model.specs.declared.commands.Reply.TheVariants.{TreeFault, StoreFault, RingFault}
use Rattle.journal_model.specs.declared.entries.Device.{Device}
use Rattle.journal_model.specs.declared.entries.Device.TheVariants.{Tree, Store, Ring}
use Rattle.journal_model.specs.Command.{actor_of}
use Rattle.journal_model.specs.Machine.{Machine, Running as Began, kind_of_reply, Refusal as RefusalKind}
use Rattle.keystore_model.specs.Store.{Differ}
use Rattle.step_core.specs.declared.jobs.Job.{Job}
use Rattle.step_core.specs.Jobs.{output_of}
use Rattle.task_turns.specs.declared.calls.Answer.{Answer}
use Rattle.task_turns.specs.declared.calls.Answer.TheVariants.{Done, Output}
use Rattle.task_turns.specs.declared.calls.Call.{Call}
use Rattle.task_turns.specs.declared.calls.Call.TheVariants.{Delete}
use Rattle.bench.specs.declared.made.Made.{Made}
use Rattle.bench.specs.declared.made.Made.TheVariants.{Heard, Failed}
use Rattle.task_turns.specs.declared.next.Next.{Next}
use Rattle.task_turns.specs.declared.next.Next.TheVariants.{Work as WorkNext, Reply as ReplyNext}
use Rattle.task_turns.specs.Turns.{seen_of, Scene, Rests, AllOwned, TurnShows, tells_deletes}
use Rattle.user_tasks.specs.Tasks.{tasks, user_of, rest_of}
use Rattle.vold_book.specs.declared.tasks.Running.{Running}
use Rattle.vold_book.specs.declared.tasks.Held.{Held}
use Rattle.vold_book.specs.declared.tasks.Task.{Task}
use Rattle.vold_book.specs.declared.tasks.Task.TheVariants.{User, Recovery, Refusal, Fault}
use Rattle.vold_book.specs.Owed.{due_of}
use Rattle.vold_book.specs.Owing.{OwesOwn, HasTried}
use Rattle.vold_book.specs.Recovery.{RecoveryRests, RecoveryShows, CountsFew, recovery_after}
use Rattle.vold_book.specs.State.{Plain, Ground, machine_of, ground_of, share_of}

-- the blobs of a command that failed
abbrev pub blobs_in : Held → List Blob
blobs_in held = option_to_list held.first ++ option_to_list held.second

-- the blobs that a running command holds
abbrev pub held_in : Task → List Blob
held_in (User task) = (rest_of task).held
held_in (Recovery recovery) = []
held_in (Refusal reply) = []
held_in (Fault device held) = blobs_in held

-- a recovery begins with nothing known of the tree and nothing listed
abbrev pub begins_anew : Task → Bool
begins_anew (Recovery recovery) = true
begins_anew task = false

-- what a command lists with its reply: what it held as its device failed
abbrev pub lists_with : Task → List Blob
lists_with (Fault device held) = blobs_in held
lists_with task = []

-- a recovery that wasn't refused
pub record IsRecovering (began : Began) : Type 0 where
  pub command : began.command ≡ Recover
  pub verdict : began.verdict ≡ None

-- where a command stands: a user's rests on facts of the user's share, a recovery on the known places; a refusal that
-- is due is the verdict of the machine, and only a command that wasn't refused is told of a fault
abbrev pub TaskStands : Ground → Task → Began → Type 0
TaskStands ground (User task) began = Rests (rest_of task) ground.boot began (share_of (user_of task) ground)
TaskStands ground (Recovery recovery) began = IsRecovering began × RecoveryRests ground recovery
TaskStands ground (Refusal reply) began = (began.verdict ≡ Some reply) × (kind_of_reply reply ≡ RefusalKind)
TaskStands ground (Fault device held) began = began.verdict ≡ None

-- what a command of an actor holds is held once, and of the actor's user
pub record HoldsOwn (ground : Ground) (actor : Actor) (held : List Blob) : Type 0 where
  pub differ : Differ held
  pub own : (blob : Blob) → Contains held blob
      → (user : ℕ) × (actor ≡ UserActor user) × AllOwned ground.vault.entries user (blob ∷ [])

-- whether all that a command passed of what it listed has ended: it goes on, and a delete that failed it would tell
abbrev pub ends_passed : Command → Task → Bool
ends_passed command (User task) = tells_deletes command
ends_passed command task = false

-- what an actor runs is a command of the actor that began and got no reply, and it stands where its task says
pub record RunsOn (ground : Ground) (machine : Machine) (actor : Actor) (it : Running) : Type 0 where
  pub began : Began
  pub at : map.get machine.running it.number ≡ Some began
  pub own : actor_of began.command ≡ actor
  pub stands : TaskStands ground it.task began
  pub holds : HoldsOwn ground actor (held_in it.task)
  pub owes : OwesOwn ground actor it.owed
  pub tried : HasTried ground (ends_passed began.command it.task) it.owed

abbrev pub scene_of : ℕ → Ground → Began → Option Item → Scene
scene_of user ground began due =
    record { boot = ground.boot; began = began; share = share_of user ground; due = due }

-- that its device failed is told of it
abbrev pub fault_of : Device → Reply
fault_of Tree = TreeFault
fault_of Store = StoreFault
fault_of Ring = RingFault

-- what a task shows of its next turn, where this is due of what its command listed: a refusal and a fault are told
abbrev pub TaskShows : Ground → Began → Option Item → Task → Next → Type 0
TaskShows ground began due (User task) next =
    TurnShows (seen_of tasks task) (scene_of (user_of task) ground began due) next
TaskShows ground began due (Recovery recovery) next = RecoveryShows ground recovery next
TaskShows ground began due (Refusal refusal) next = next ≡ ReplyNext refusal
TaskShows ground began due (Fault device held) next = next ≡ ReplyNext (fault_of device)

-- what a task is after a call of it was done, by what it hears
abbrev pub task_heard : Call → Answer → Task → Task
task_heard call answer (User task) = User (tasks.after task answer)
task_heard call answer (Recovery recovery) = Recovery (recovery_after call recovery)
task_heard call answer task = task

-- the task may hear the answer
abbrev pub HearsAnswer : Task → Answer → Type 0
HearsAnswer (User task) answer = tasks.hears task answer
HearsAnswer (Recovery recovery) answer = CountsFew recovery
HearsAnswer task answer = Unit {0}

-- a delete of which nobody is told where it fails
abbrev pub is_untold : Call → Bool
is_untold (Delete item false) = true
is_untold call = false

abbrev pub HearsFailed : Bool → Task → Type 0
HearsFailed true task = HearsAnswer task Done
HearsFailed false task = Unit {0}

abbrev pub HearsMade : Call → Task → Made → Type 0
HearsMade call task (Heard answer) = HearsAnswer task answer
HearsMade call task (Failed device) = HearsFailed (is_untold call) task

-- it tells next that the device failed, and lists what the task held
pub record TellsFault (device : Device) (held : List Blob) (then : Task) : Type 0 where
  pub blobs : Held
  pub is : then ≡ Fault device blobs
  pub all : blobs_in blobs ≡ held

-- what a task is after a call of it failed: it goes on where it isn't told
abbrev pub TaskFailed : Bool → Call → Device → Task → Task → Type 0
TaskFailed true call device task then = then ≡ task_heard call Done task
TaskFailed false call device task then = TellsFault device (held_in task) then

-- what a task is after its call, by how this went
abbrev pub TaskAfter : Call → Made → Task → Task → Type 0
TaskAfter call (Heard answer) task then = then ≡ task_heard call answer task
TaskAfter call (Failed device) task then = TaskFailed (is_untold call) call device task then

-- a task, or what a user's is once it heard the outputs of the jobs that it asked for
abbrev pub Worked : Ground → Began → Option Item → Task → Task → List Job → Type 0
Worked ground began due task now [] = now ≡ task
Worked ground began due (User task) now (job ∷ jobs) =
    TurnShows (seen_of tasks task) (scene_of (user_of task) ground began due) (WorkNext job)
    × Worked ground began due (User (tasks.after task (Output (output_of job.input)))) now jobs
Worked ground began due task now (job ∷ jobs) = ⊥

-- what is due of what an actor's command listed
abbrev pub due_to : Plain → Running → Option Item
due_to book it = due_of book.bench.list it.owed

-- the actor's next turn does this, after the jobs that it asks for, and shows what it has to
pub record Plans (book : Plain) (actor : Actor) (it : Running) (now : Task) (next : Next) : Type 0 where
  pub runs : map.get book.docket.running actor ≡ Some it
  pub on : RunsOn (ground_of book) (machine_of book) actor it
  pub jobs : List Job
  pub worked : Worked (ground_of book) on.began (due_to book it) it.task now jobs
  pub shows : TaskShows (ground_of book) on.began (due_to book it) now next
