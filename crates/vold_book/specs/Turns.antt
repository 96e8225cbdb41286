-- What a turn leaves of a Book: it begins a command, or makes one call of a device, or gives one reply.
use Rattle.std.specs.Prelude.{◌≡◌, ◌≢◌, ℕ, ◌+◌, ◌<◌, ◌==◌, ◌⊎◌, ◌↔◌, Bool, true, false, List, [], ◌∷◌, ◌++◌, length}
use Rattle.std.specs.Prelude.{◌&&◌, Option, Some, None, is_some, IsNone, IfSome, Result, Ok, Err, slice_get, cond}
use Rattle.std.specs.FinMap as map
use Rattle.std.specs.FinSet as set
use Rattle.std.specs.List.{filter}
use Rattle.tree_model.specs.declared.device.DevFault.{DevFault}
use Rattle.tree_model.specs.declared.device.DevFault.TheVariants.{Failed as DeviceFailed}
use Rattle.tree_model.specs.declared.places.Place.TheVariants.{De}
use Rattle.tree_model.specs.Disk.{view}
use Rattle.tree_model.specs.Counted.{Counts}
use Rattle.tree_model.specs.Touch.{SameFor}
use Rattle.key_ring.specs.Ring.{Owner, key_of}
use Rattle.deferred_delete.specs.declared.items.Item.{Item}
use Rattle.deferred_delete.specs.Deferral.{Deferral}
use Rattle.keystore_model.specs.declared.entry.StoreEntry.{StoreEntry}
use Rattle.journal_model.specs.declared.commands.Actor.{Actor}
use Rattle.journal_model.specs.declared.commands.Actor.TheVariants.{User}
use Rattle.journal_model.specs.declared.commands.Command.{Command}
use Rattle.journal_model.specs.declared.commands.EnqueueFault.{EnqueueFault}
use Rattle.journal_model.specs.declared.commands.EnqueueFault.TheVariants.{Full, NoMemory as WantsMemory}
use Rattle.journal_model.specs.declared.commands.Reply.{Reply}
use Rattle.journal_model.specs.declared.entries.Birth.{Birth}
use Rattle.journal_model.specs.declared.entries.Device.{Device}
use Rattle.journal_model.specs.declared.entries.Entry.{Entry}
use Rattle.journal_model.specs.declared.entries.Entry.TheVariants.{Began, Changed, Synced, Installed, Evicted}
use Rattle.journal_model.specs.declared.entries.Entry.TheVariants.{Swept, Replied}
use Rattle.journal_model.specs.declared.phase.Phase.TheVariants.{Up}
use Rattle.journal_model.specs.declared.refusals.Facts.{Facts}
use Rattle.journal_model.specs.Command.{actor_of, user_in}
use Rattle.journal_model.specs.Refusals.{refusal_of}
use Rattle.journal_model.specs.Machine.{is_up, is_unlocked, phase_after, TakesTurn}
use Rattle.journal_model.specs.Made.{boot_seed_of}
use Rattle.docket.specs.Docket.{empty_docket, with_command as docket_with, after_begin as docket_begun, begun_by}
use Rattle.user_world.specs.declared.changes.LocalChange.{LocalChange}
use Rattle.step_core.specs.Table.{NamedPlaces, Users}
use Rattle.task_turns.specs.declared.calls.Call.{Call}
use Rattle.task_turns.specs.declared.calls.Call.TheVariants.{Op, Delete}
use Rattle.task_turns.specs.Turns.{tells_deletes}
use Rattle.bench.specs.declared.made.Made.{Made}
use Rattle.bench.specs.Seen.{AnswersWhole, marks_told}
use Rattle.bench.specs.Bench.{BenchState, Senses, IsMade, AreCounted, device_of, told_of, listed}
use Rattle.bench.specs.Bench.{was_done}
use Rattle.user_tasks.specs.declared.looks.Known.{Known}
use Rattle.user_tasks.specs.declared.tasks.UserTask.{UserTask}
use Rattle.user_tasks.specs.Tasks.{Begins as TaskBegins}
use Rattle.vold_book.specs.declared.opened.Opened.{Opened}
use Rattle.vold_book.specs.declared.recovery.Recovery.TheVariants.{Listing}
use Rattle.vold_book.specs.declared.tasks.Held.{Held}
use Rattle.vold_book.specs.declared.tasks.Running.{Running}
use Rattle.vold_book.specs.declared.tasks.Task.{Task}
use Rattle.vold_book.specs.declared.tasks.Task.TheVariants.{User as Using, Recovery, Refusal, Fault}
use Rattle.vold_book.specs.declared.turns.Turn.{Turn}
use Rattle.vold_book.specs.declared.turns.Turn.TheVariants.{Went, Idle, Waits}
use Rattle.vold_book.specs.Entries.{entry_of, made_entry}
use Rattle.vold_book.specs.Parts.{no_ledger, new_tracker, ledger_with, noted}
use Rattle.vold_book.specs.Crowds.{is_crowded}
use Rattle.vold_book.specs.Knowing.{IsKnown}
use Rattle.vold_book.specs.Owed.{Owed, nothing_owed, owed_after, due_of}
use Rattle.vold_book.specs.Recovery.{max_commands, AllPlaced}
use Rattle.vold_book.specs.Slots.{is_full}
use Rattle.vold_book.specs.State.{BookState, Plain, over, seen, machine_of}
use Rattle.vold_book.specs.Sweeping.{IsTidy}
use Rattle.vold_book.specs.Tasks.{begins_anew, lists_with, TaskAfter, fault_of}
use Rattle.vold_book.specs.Whole.{turns_left}

-- a Book as it is opened: nothing was given out and nothing done
abbrev pub new_book : {B : Type 0} → B → Opened → List ℕ → BookState B
new_book bench opened seed = record {
  bench = bench;
  opened = opened;
  seed = seed;
  boot_seed = boot_seed_of seed 0;
  marks = set.empty;
  ledger = no_ledger;
  docket = empty_docket;
  tracker = new_tracker;
}

abbrev pub new_bench : {D E F : Type 0} → D → E → F → BenchState D E F
new_bench tree store ring = record {
  tree = tree;
  store = store;
  ring = ring;
  places = map.empty;
  list = record { items = []; next = 0; promised = 0 };
}

-- the devices' counts as they are
abbrev pub opened_at : Counts → Counts → Counts → Opened
opened_at tree store ring = record {
  tree = record { calls = tree.calls; faults = tree.faults };
  store = record { calls = store.calls; faults = store.faults };
  ring = record { calls = ring.calls; faults = ring.faults };
}

-- the Book with a further command, which waits last for its actor
abbrev pub with_command : {B : Type 0} → BookState B → Command → BookState B
with_command book command = record book { docket = docket_with book.docket (actor_of command) command }

-- what each answer to a command tells: its number, that none is left, or that memory was missing
abbrev pub IsEnqueued : {B : Type 0} → BookState B → BookState B → Command → Result ℕ EnqueueFault → Type 0
IsEnqueued before after command (Ok number) = (number ≡ length before.docket.commands)
    × (length before.docket.commands < max_commands) × (after ≡ with_command before command)
IsEnqueued before after command (Err Full) = (length before.docket.commands ≡ max_commands) × (after ≡ before)
IsEnqueued before after command (Err WantsMemory) = (length before.docket.commands < max_commands) × (after ≡ before)

-- what decides whether a command is refused, as the Book knows it
abbrev pub user_there : NamedPlaces → Option ℕ → Bool
user_there places None = false
user_there places (Some user) = is_some (map.get places (De user))

abbrev pub facts_in : {B : Type 0} → NamedPlaces → BookState B → Command → Facts
facts_in places book command = record {
  present = user_there places (user_in command);
  crowded = is_crowded places book.docket;
  installed = is_unlocked (user_in command) (machine_of book).ring;
  full = is_full places (user_in command);
  ready = is_up book.tracker.phase;
}

-- what a command begins with: its birth, the seed of the boot, the known places, and whose keys are in the ring
pub record Start : Type 0 where
  pub birth : Birth
  pub boot_seed : List ℕ
  pub places : NamedPlaces
  pub ring : List Owner

abbrev pub start_in : {B : Type 0} → NamedPlaces → BookState B → Actor → Start
start_in places book actor = record {
  birth = record { boot = book.tracker.boot; index = begun_by book.docket actor };
  boot_seed = book.boot_seed;
  places = places;
  ring = (machine_of book).ring;
}

-- what a command does first that isn't refused: what a user's task begins with, or what a recovery does
abbrev pub AcceptedTask : Command → Start → Option ℕ → Task → Type 0
AcceptedTask command start (Some user) task = (first : UserTask) × (known : Known) × (task ≡ Using first)
    × IsKnown start.places start.ring command known × TaskBegins command start.birth start.boot_seed known first
AcceptedTask command start None task = task ≡ Recovery Listing

-- what it does first: its refusal where one is due
abbrev pub FirstTask : Command → Start → Option Reply → Task → Type 0
FirstTask command start (Some reply) task = task ≡ Refusal reply
FirstTask command start None task = AcceptedTask command start (user_in command) task

-- a recovery knows nothing of the tree as it begins, and nothing is listed then
abbrev pub unlisted : Deferral → Deferral
unlisted list = record list { items = []; promised = 0 }

abbrev pub begun_places : Task → NamedPlaces → NamedPlaces
begun_places task places = cond (begins_anew task) map.empty places

abbrev pub begun_list : Task → Deferral → Deferral
begun_list task list = cond (begins_anew task) (unlisted list) list

abbrev pub begun_marks : Task → Users → Users
begun_marks task marks = cond (begins_anew task) set.empty marks

abbrev pub begun_bench : {D E F : Type 0} → Task → BenchState D E F → BenchState D E F
begun_bench task bench =
    record bench { places = begun_places task bench.places; list = begun_list task bench.list }

-- a turn that begins the first command of the actor's queue, and makes no call
pub record Begins {D E F : Type 0} (before after : BookState (BenchState D E F)) (actor : Actor) : Type 0 where
  pub number : ℕ
  pub numbers : List ℕ
  pub command : Command
  pub task : Task
  pub queued : map.get before.docket.waiting actor ≡ Some (number ∷ numbers)
  pub given : slice_get before.docket.commands number ≡ Some command
  pub first : FirstTask command (start_in before.bench.places before actor)
      (refusal_of command (facts_in before.bench.places before command)) task
  pub state : after ≡ record before {
    bench = begun_bench task before.bench;
    marks = begun_marks task before.marks;
    ledger = record before.ledger { entries = before.ledger.entries ++ Began number actor command ∷ [] };
    docket = docket_begun before.docket actor numbers
        (record { number = number; task = task; owed = nothing_owed });
  }

-- the Book once the actor's command got its reply
abbrev pub after_reply : {D E F : Type 0} → BookState (BenchState D E F) → Actor → Running → Command → Reply
    → BookState (BenchState D E F)
after_reply book actor it command reply = record book {
  bench = record book.bench { list = listed book.bench.list (lists_with it.task) };
  ledger = record book.ledger { entries = book.ledger.entries ++ Replied it.number reply ∷ [] };
  docket = record book.docket { running = map.remove book.docket.running actor };
  tracker = record book.tracker { phase = phase_after book.tracker.phase command reply };
}

-- a call of a task's, with the change that it makes, the task that makes it, and what it is and owes after the call
pub record Making : Type 0 where
  pub call : Call
  pub change : Option LocalChange
  pub task : Task
  pub then : Task
  pub owed : Owed

-- the marks with that of a user whose change a call made, and who is there then
abbrev pub marks_with : NamedPlaces → Users → Call → Bool → Users
marks_with places marks (Op user op names) true =
    cond (map.contains_key places (De user)) (set.insert marks user) marks
marks_with places marks call change = marks

-- the Book once an actor's task made its call, and the device did it or failed, with what the call left of the bench
abbrev pub after_call : {B : Type 0} → BookState B → Actor → ℕ → Making → Made → Users → B → BookState B
after_call book actor number making made marks bench = record book {
  bench = bench;
  marks = marks;
  ledger = ledger_with book.ledger actor (made_entry made (entry_of number making.call making.change));
  docket = record book.docket {
    running = map.insert book.docket.running actor
        (record { number = number; task = making.then; owed = making.owed });
  };
  tracker = noted (was_done made) making.call (is_some making.change) book.tracker;
}

-- the call was made and counted, and noted as it went
pub record Makes {D E F : Type 0} (senses : Senses D E F) (before after : BookState (BenchState D E F)) (actor : Actor)
    (it : Running) (making : Making) : Type 0 where
  pub made : Made
  pub is_made : IsMade (seen senses before).bench (seen senses after).bench making.call (Ok made)
  pub counted : AreCounted (seen senses before).bench (seen senses after).bench (device_of making.call)
      (told_of (Ok made))
  -- a blob that is answered has 32 bytes
  pub answers : AnswersWhole (Ok made)
  pub then : TaskAfter making.call made making.task making.then
  pub owed : making.owed
      ≡ owed_after before.bench.places before.bench.list.next making.call (was_done made) it.owed
  pub marks : after.marks ≡ marks_with after.bench.places (marks_told before.marks making.call (Ok made))
      making.call (was_done made && is_some making.change)
  pub state : after ≡ after_call before actor it.number making made after.marks after.bench

-- an entry of a call: a sync, a change of this command, a key that was installed or evicted, or a blob that was
-- deleted
abbrev pub IsNoted : ℕ → Entry → Type 0
IsNoted number Synced = Unit {0}
IsNoted number (Changed other change) = other ≡ number
IsNoted number (Installed user class) = Unit {0}
IsNoted number (Evicted user class) = Unit {0}
IsNoted number (Swept blob) = Unit {0}
IsNoted number entry = ⊥

-- the task tells next that the device failed
pub record IsFault (device : Device) (task : Task) : Type 0 where
  pub held : Held
  pub is : task ≡ Fault device held

-- the device's answer, as whether it did its work
abbrev pub as_told : Bool → Result (Unit {0}) DevFault
as_told true = Ok tt
as_told false = Err DeviceFailed

-- a failure of a call of the command is told, unless the call is a delete and the command doesn't tell these
abbrev pub IsTelling : Option Command → Option Item → Type 0
IsTelling command None = Unit {0}
IsTelling None (Some item) = ⊥
IsTelling (Some command) (Some item) = tells_deletes command ≡ true

-- what a call deletes, if it is a delete
abbrev pub deleted_by : Call → Option Item
deleted_by (Delete item tells) = Some item
deleted_by call = None

-- what is deleted is the first of what the command listed that is due, and it isn't tried again
pub record Tries (list : Deferral) (owed then : Owed) (item : Item) : Type 0 where
  pub due : due_of list owed ≡ Some item
  pub passed : then.from ≡ item.number + 1

abbrev pub TriesNext : Deferral → Owed → Owed → Option Item → Type 0
TriesNext list owed then None = then.from ≡ owed.from
TriesNext list owed then (Some item) = Tries list owed then item

-- a turn that makes one call, counted by its device, with at most one entry; that the device failed is told next
-- exactly where it did and the failure is one that is told
pub record CallsOnce {D E F : Type 0} (senses : Senses D E F) (before after : BookState (BenchState D E F))
    (actor : Actor) : Type 0 where
  pub it : Running
  pub device : Device
  pub made : Bool
  pub entry : Option Entry
  pub task : Task
  -- what is deleted, if it is a delete, and what the command owes then
  pub deletes : Option Item
  pub owed : Owed
  pub tries : TriesNext before.bench.list it.owed owed deletes
  pub runs : map.get before.docket.running actor ≡ Some it
  pub counted : AreCounted (seen senses before).bench (seen senses after).bench device (as_told made)
  pub noted : IfSome entry (IsNoted it.number)
  pub quiet : made ≡ false → entry ≡ None
  pub fault : ((made ≡ false) × IsTelling (slice_get before.docket.commands it.number) deletes) ↔ IsFault device task
  -- the rest stays, but for what the Book knows of the devices
  pub state : after ≡ record before {
    bench = after.bench;
    ledger = ledger_with before.ledger actor entry;
    docket = record before.docket {
      running = map.insert before.docket.running actor (record { number = it.number; task = task; owed = owed });
    };
    tracker = record before.tracker { durable = after.tracker.durable; pending = after.tracker.pending };
    marks = after.marks;
  }

-- a turn that gives a reply, and makes no call
pub record RepliesOnce {D E F : Type 0} (before after : BookState (BenchState D E F)) (actor : Actor) : Type 0 where
  pub it : Running
  pub command : Command
  pub reply : Reply
  pub runs : map.get before.docket.running actor ≡ Some it
  pub given : slice_get before.docket.commands it.number ≡ Some command
  -- that a device failed is told only where it was due
  pub told : (device : Device) → reply ≡ fault_of device → IsFault device it.task
  pub state : after ≡ after_reply before actor it command reply

-- one turn of an actor: it begins a command where it runs none, and else makes one call or gives its reply
abbrev pub Turns : {D E F : Type 0} → Senses D E F → BookState (BenchState D E F) → BookState (BenchState D E F)
    → Actor → Type 0
Turns senses before after actor = (IsNone (map.get before.docket.running actor) × Begins before after actor)
    ⊎ (CallsOnce senses before after actor ⊎ RepliesOnce before after actor)

-- nothing changed that a contract sees of the devices or the Book
pub record IsSame {D E F : Type 0} (senses : Senses D E F) (before after : BookState (BenchState D E F)) : Type 0 where
  pub state : after ≡ over before after.bench
  pub same : (seen senses after).bench ≡ (seen senses before).bench

-- an actor that has neither a running command nor a queue
abbrev pub IsIdle : {B : Type 0} → BookState B → Actor → Type 0
IsIdle book actor = IsNone (map.get book.docket.running actor) × IsNone (map.get book.docket.waiting actor)

-- a turn that went: it did one of the three things, for an actor that has something to do
pub record Goes {D E F : Type 0} (senses : Senses D E F) (before after : BookState (BenchState D E F))
    (actor : Actor) : Type 0 where
  pub turn : Turns senses before after actor
  pub busy : ¬ (IsIdle before actor)
  pub takes : TakesTurn before.tracker.phase actor

-- what each answer of a turn tells
abbrev pub Answers : {D E F : Type 0} → Senses D E F → BookState (BenchState D E F) → BookState (BenchState D E F)
    → Actor → Turn → Type 0
Answers senses before after actor Went = Goes senses before after actor
Answers senses before after actor Idle = IsIdle before actor × (after ≡ before)
Answers senses before after actor Waits =
    ¬ (IsIdle before actor) × ¬ (TakesTurn before.tracker.phase actor) × (after ≡ before)

-- the entries of a user's keys
abbrev pub entries_of : ℕ → List StoreEntry → List StoreEntry
entries_of user entries = filter (λ entry. entry.tag.user == user) entries

-- a user's turn leaves what stands at the places of other users, their keys' entries, and their keys in the ring
abbrev pub LeavesOthers : Plain → Plain → Actor → Type 0
LeavesOthers before after actor = (owner user : ℕ) → actor ≡ User owner → user ≢ owner
    → SameFor user (view before.bench.disk) (view after.bench.disk)
    × (entries_of user after.bench.store.entries ≡ entries_of user before.bench.store.entries)
    × (key_of after.bench.keys user ≡ key_of before.bench.keys user)

-- fewer turns are left once one went
abbrev pub Falls : Plain → Plain → Turn → Type 0
Falls before after Went = turns_left after < turns_left before
Falls before after turn = Unit {0}

-- a turn brings a machine up only where nothing is half made in the view, nothing else can come of a stop, and each
-- live blob is named in the view or listed
pub record IsTidied (book : Plain) : Type 0 where
  pub tidy : IsTidy book.bench.places (view book.bench.disk)
  pub still : book.bench.disk.pending ≡ []
  pub placed : AllPlaced book.bench.store.entries (view book.bench.disk) book.bench.list

abbrev pub ComesUp : Plain → Plain → Type 0
ComesUp before after = before.tracker.phase ≢ Up → after.tracker.phase ≡ Up → IsTidied after
