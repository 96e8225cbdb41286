-- When a Book is whole: its journal is legal, what it tracks agrees with the machine and the devices, every tree that
-- a stop can leave stands for a prefix of the changes, each key in the ring is a made one, no number is lost, each
-- running command stands where its task says, every live blob is named, held or listed, what was deleted stays gone,
-- nothing is left of a user whose end was answered, and replies that tell of a failure are charged to failures of
-- their devices.
use Rattle.std.specs.Prelude.{◌≡◌, ℕ, ◌+◌, ◌*◌, ◌-◌, ◌^◌, ◌≤◌, ◌⊎◌, List, [], ◌∷◌, length, Some, None, IsSomeAnd}
use Rattle.std.specs.Prelude.{IsSome, true, false, nat_le, Contains, slice_get, unwrap_or}
use Rattle.std.specs.List.{filter, flat_map}
use Rattle.std.specs.FinMap as map
use Rattle.std.specs.FinSet as set
use Rattle.tree_model.specs.declared.blobs.Blob.{Blob}
use Rattle.tree_model.specs.declared.places.Place.TheVariants.{De}
use Rattle.tree_model.specs.Disk.{view}
use Rattle.tree_model.specs.Tree.{Tree}
use Rattle.deferred_delete.specs.declared.items.Item.{Item}
use Rattle.deferred_delete.specs.Deferral.{IsNumbered}
use Rattle.keystore_model.specs.Store.{Store, IsStore, entry_of}
use Rattle.blob_custody.specs.Custody.{Custody, IsClean, IsLeft}
use Rattle.journal_model.specs.declared.commands.Actor.{Actor}
use Rattle.journal_model.specs.declared.commands.Actor.TheVariants.{Boot}
use Rattle.journal_model.specs.declared.commands.Command.{Command}
use Rattle.journal_model.specs.declared.commands.Reply.{Reply}
use Rattle.journal_model.specs.declared.commands.Reply.TheVariants.{TreeFault, StoreFault, RingFault}
use Rattle.journal_model.specs.declared.entries.Device.{Device}
use Rattle.journal_model.specs.declared.entries.Device.TheVariants.{Tree as TreeDevice, Store as StoreDevice}
use Rattle.journal_model.specs.declared.entries.Device.TheVariants.{Ring as RingDevice}
use Rattle.journal_model.specs.declared.entries.Entry.{Entry}
use Rattle.journal_model.specs.declared.entries.Entry.TheVariants.{Began, Replied}
use Rattle.journal_model.specs.declared.phase.Phase.{Phase}
use Rattle.journal_model.specs.declared.phase.Phase.TheVariants.{Up, Down, Halted}
use Rattle.journal_model.specs.Actor.{actor_cmp}
use Rattle.journal_model.specs.Command.{actor_of}
use Rattle.journal_model.specs.Machine.{Machine, Running as BeganCommand, IsLegal, IsDurable, begun_by, numbers_begun}
use Rattle.journal_model.specs.Machine.{is_up, blobs_swept}
use Rattle.journal_model.specs.Endings.{is_ended}
use Rattle.journal_model.specs.Made.{boot_seed_of}
use Rattle.sorted_map.specs.Sums.{total_by}
use Rattle.docket.specs.Accounts.{Accounted}
use Rattle.user_world.specs.Images.{ImagesStand}
use Rattle.user_world.specs.Timelines.{Timeline, OwnWorldsStand}
use Rattle.key_directory.specs.Opened.{AreCurrent}
use Rattle.key_directory.specs.Vaults.{sealed}
use Rattle.step_core.specs.Table.{NamedPlaces, Users}
use Rattle.bench.specs.Bench.{BenchState, Senses, Plain as Seen, counts_of}
use Rattle.bench.specs.Known.{Knows}
use Rattle.user_tasks.specs.Tasks.{rest_of}
use Rattle.vold_book.specs.declared.opened.Opened.{Opened}
use Rattle.vold_book.specs.declared.recovery.Recovery.TheVariants.{Listed}
use Rattle.vold_book.specs.declared.tasks.Running.{Running}
use Rattle.vold_book.specs.declared.tasks.Task.{Task}
use Rattle.vold_book.specs.declared.tasks.Task.TheVariants.{User, Recovery, Refusal, Fault}
use Rattle.vold_book.specs.Endings.{LeavesNothing}
use Rattle.vold_book.specs.Installed.{RingStands}
use Rattle.vold_book.specs.Parts.{Agrees}
use Rattle.vold_book.specs.Recovery.{max_commands, max_places, recovery_left}
use Rattle.vold_book.specs.State.{Docket, BookState, Plain, seen, machine_of, timeline, ground_of, vault_of}
use Rattle.vold_book.specs.State.{tried_in, AllDurable}
use Rattle.vold_book.specs.Tasks.{RunsOn, held_in}

-- a command that began is the one that its number was given to
abbrev pub BeganAsGiven : List Command → Entry → Type 0
BeganAsGiven commands (Began number actor command) =
    (slice_get commands number ≡ Some command) × (actor ≡ actor_of command)
BeganAsGiven commands entry = Unit {0}

abbrev pub AllAsGiven : List Command → List Entry → Type 0
AllAsGiven commands [] = Unit {0}
AllAsGiven commands (entry ∷ entries) = BeganAsGiven commands entry × AllAsGiven commands entries

-- a command on the machine is the one that its number was given to, and began
pub record WasGiven (docket : Docket) (entries : List Entry) (number : ℕ) (began : BeganCommand) : Type 0 where
  pub given : slice_get docket.commands number ≡ Some began.command
  pub begun : Contains (numbers_begun entries) number

-- the docket and the journal tell the same: no number is lost, each command that began is the one of its number, and
-- the counts of this boot are the journal's
pub record Numbers (docket : Docket) (entries : List Entry) (machine : Machine) : Type 0 where
  pub accounted : Accounted actor_of (numbers_begun entries) docket
  pub as_given : AllAsGiven docket.commands entries
  pub given : (number : ℕ) (began : BeganCommand) → map.get machine.running number ≡ Some began
      → WasGiven docket entries number began
  pub counts : (actor : Actor) → unwrap_or (map.get docket.begun actor) 0 ≡ begun_by actor entries
  pub boots : machine.boot ≤ length docket.commands
  pub few : length docket.commands ≤ max_commands

-- each command on the machine is run by its actor
abbrev pub AllRun : Machine → map.FinMap actor_cmp Running → Type 0
AllRun machine running = (number : ℕ) (began : BeganCommand) → map.get machine.running number ≡ Some began
    → IsSomeAnd (map.get running (actor_of began.command)) (λ it. it.number ≡ number)

-- a user who is there and isn't marked has no change that isn't durable
abbrev pub MarksTell : Users → NamedPlaces → Timeline → Type 0
MarksTell marks places line = (user : ℕ) → IsSome (map.get places (De user)) → set.contains marks user ≡ false
    → AllDurable line user

-- what stands by the phase: what the places of the view name is known, and who is marked; or every change is durable
-- and nothing but a recovery runs; or nothing runs, and nothing is pending
abbrev pub PhaseStands : Phase → Plain → Machine → Type 0
PhaseStands Up book machine = Knows book.bench.places (view book.bench.disk)
    × MarksTell book.marks book.bench.places (timeline book.bench.disk machine)
PhaseStands Down book machine = IsDurable machine None
    × ((actor : Actor) (it : Running) → map.get book.docket.running actor ≡ Some it → actor ≡ Boot)
PhaseStands Halted book machine =
    IsDurable machine None × (book.bench.disk.pending ≡ []) × (book.docket.running ≡ map.empty)

-- replies that tell that a device failed, and those that are due
abbrev pub charge_of : Device → Reply → ℕ
charge_of TreeDevice TreeFault = 1
charge_of StoreDevice StoreFault = 1
charge_of RingDevice RingFault = 1
charge_of device reply = 0

abbrev pub charge_in : Device → Entry → ℕ
charge_in device (Replied number reply) = charge_of device reply
charge_in device entry = 0

abbrev pub same_device : Device → Device → ℕ
same_device TreeDevice TreeDevice = 1
same_device StoreDevice StoreDevice = 1
same_device RingDevice RingDevice = 1
same_device device other = 0

abbrev pub due_in : Device → Task → ℕ
due_in device (Fault failed held) = same_device device failed
due_in device task = 0

abbrev pub due_of : Device → Running → ℕ
due_of device it = due_in device it.task

-- the failures of a device, and those when the Book was opened
abbrev pub faults_of : Seen → Device → ℕ
faults_of bench device = (counts_of bench device).faults

abbrev pub first_faults : Opened → Device → ℕ
first_faults opened TreeDevice = opened.tree.faults
first_faults opened StoreDevice = opened.store.faults
first_faults opened RingDevice = opened.ring.faults

-- the replies that told of a failure and those that are due are at most the device's failures since the Book was
-- opened, while it can count them
abbrev pub IsCharged : Plain → Device → Type 0
IsCharged book device =
    (first_faults book.opened device + (total_by (charge_in device) book.ledger.entries
    + total_by (due_of device) (map.values book.docket.running)) ≤ faults_of book.bench device)
    ⊎ (2 ^ 64 - 1 ≤ faults_of book.bench device)

-- the blobs that running commands hold
abbrev pub held_of : Running → List Blob
held_of it = held_in it.task

abbrev pub all_held : map.FinMap actor_cmp Running → List Blob
all_held running = flat_map held_of (map.values running)

abbrev pub custody_of : Plain → Custody
custody_of book = record {
  disk = book.bench.disk;
  base = None;
  entries = book.bench.store.entries;
  list = book.bench.list;
  held = all_held book.docket.running;
  ready = is_up book.tracker.phase;
}

-- how many directories, and how many entries, a running command still makes
abbrev pub makes_in : Task → ℕ
makes_in (User task) = (rest_of task).makes
makes_in task = 0

abbrev pub draws_in : Task → ℕ
draws_in (User task) = (rest_of task).draws
draws_in task = 0

abbrev pub makes_of : Running → ℕ
makes_of it = makes_in it.task

abbrev pub draws_of : Running → ℕ
draws_of it = draws_in it.task

-- how many blobs it may still list
abbrev pub lists_in : Task → ℕ
lists_in (User task) = (rest_of task).left + 2
lists_in (Recovery Listed) = 0
lists_in (Recovery recovery) = max_places
lists_in (Refusal reply) = 0
lists_in (Fault device held) = 2

abbrev pub lists_of : Running → ℕ
lists_of it = lists_in it.task

-- the most that a command lists: what it drops, and what it held
abbrev pub most_listed : ℕ
most_listed = 5 * max_places

-- each number that was given out may make so many: what was made, what running commands may still make, and what
-- those may that wait
abbrev pub within : Docket → ℕ → (Running → ℕ) → ℕ → Type 0
within docket each of made =
    made + total_by of (map.values docket.running) + each * total_by length (map.values docket.waiting)
    ≤ each * length docket.commands

-- the blob was given once, and has no entry
pub record WasSwept (store : Store) (blob : Blob) : Type 0 where
  pub given : Contains store.given blob
  pub gone : entry_of store.entries blob ≡ None

pub record IsSmall (book : Plain) : Type 0 where
  pub given : within book.docket 2 draws_of (length book.bench.store.given)
  pub entries : within book.docket 2 draws_of (length book.bench.store.entries)
  -- the directories of whatever tree a stop can leave
  pub trees : (left : Tree) → IsLeft book.bench.disk left → within book.docket 2 makes_of (map.len left)
  pub listed : within book.docket most_listed lists_of book.bench.list.next
  -- a place of the list is promised within a turn alone
  pub unpromised : book.bench.list.promised ≡ 0

pub record Whole (book : Plain) : Type 0 where
  pub legal : IsLegal book.ledger.entries
  pub agrees : Agrees book.tracker (machine_of book) book.bench.disk
  pub short : length book.seed ≤ 64
  pub seeded : book.boot_seed ≡ boot_seed_of book.seed book.tracker.boot
  pub store : IsStore book.bench.store
  pub level : book.bench.store.level ≡ book.tracker.level
  pub current : AreCurrent (vault_of (tried_in book) book.seed book.bench.store)
  -- every tree that a stop can leave stands for the changes up to there
  pub images : ImagesStand (sealed (vault_of (tried_in book) book.seed book.bench.store)) book.bench.disk
      (machine_of book).kept
      (machine_of book).log
  -- the same by users
  pub worlds : OwnWorldsStand (sealed (vault_of (tried_in book) book.seed book.bench.store))
      (timeline book.bench.disk (machine_of book))
  -- the keys in the ring are made ones of users who are there, and the machine knows whose they are
  pub ring : RingStands (tried_in book) book.seed book.bench.keys (machine_of book)
  pub numbers : Numbers book.docket book.ledger.entries (machine_of book)
  -- each actor's command stands where its task says, and each command on the machine is run by its actor
  pub run : (actor : Actor) (it : Running) → map.get book.docket.running actor ≡ Some it
      → RunsOn (ground_of book) (machine_of book) actor it
  pub all : AllRun (machine_of book) book.docket.running
  pub phase : PhaseStands book.tracker.phase book (machine_of book)
  -- each live blob is named, held or listed
  pub clean : IsClean (custody_of book)
  -- the numbers of the list rise
  pub numbered : IsNumbered book.bench.list
  -- what was deleted was given once, and has no entry any more
  pub swept : (blob : Blob) → Contains (blobs_swept book.ledger.entries) blob → WasSwept book.bench.store blob
  -- of a user whose destroy was answered nothing is left, until a create of the user begins
  pub ended : (user : ℕ) → is_ended book.ledger.entries user ≡ true → LeavesNothing book user
  pub small : IsSmall book
  pub charged : (device : Device) → IsCharged book device

abbrev pub IsWhole : {D E F : Type 0} → Senses D E F → BookState (BenchState D E F) → Type 0
IsWhole senses book = Whole (seen senses book)

-- how many of the items are still to be tried
abbrev pub count_from : ℕ → List Item → ℕ
count_from from items = length (filter (λ item. nat_le from item.number) items)

-- how many turns a command has at most, a delete for each item that it is still to try; each directory that it removes
-- counts for itself
abbrev pub turns_of_task : NamedPlaces → Task → ℕ
turns_of_task places (User task) = (rest_of task).left
turns_of_task places (Recovery recovery) = recovery_left places recovery
turns_of_task places (Refusal reply) = 1
turns_of_task places (Fault device held) = 1

abbrev pub turns_of : NamedPlaces → Running → ℕ
turns_of places it = turns_of_task places it.task + count_from it.owed.from it.owed.items

-- the most turns that a command has which waits, its beginning among them
abbrev pub most_turns : ℕ
most_turns = 4 * max_places + 40

-- a bound on the turns that can still be made without a further command: each directory that is there may have to be
-- removed
abbrev pub turns_left : Plain → ℕ
turns_left book = map.len (view book.bench.disk) + most_turns * total_by length (map.values book.docket.waiting)
    + total_by (turns_of book.bench.places) (map.values book.docket.running)
