-- What contracts see of a Book.
use Rattle.std.specs.Prelude.{ℕ, List, drop}
use Rattle.tree_model.specs.declared.blobs.Blob.{Blob}
use Rattle.tree_model.specs.Disk.{Disk}
use Rattle.key_ring.specs.Ring.{Ring, key_of}
use Rattle.tree_model.specs.Counted.{Counts}
use Rattle.journal_model.specs.declared.commands.Actor.{Actor}
use Rattle.journal_model.specs.declared.commands.Command.{Command}
use Rattle.journal_model.specs.declared.phase.Phase.{Phase}
use Rattle.journal_model.specs.Actor.{actor_cmp}
use Rattle.journal_model.specs.Machine.{Machine, machine_after, NoChangeOf}
use Rattle.docket.specs.Docket.{DocketState, StoredDocket, docket_of}
use Rattle.deferred_delete.specs.Deferral.{Deferral}
use Rattle.keystore_model.specs.Store.{Store}
use Rattle.user_world.specs.Timelines.{Timeline, own_of}
use Rattle.key_directory.specs.Tried.{attempts_of}
use Rattle.key_directory.specs.Vaults.{Vault, Attempts}
use Rattle.step_core.specs.Table.{NamedPlaces, Users}
use Rattle.task_turns.specs.Shares.{Share}
use Rattle.bench.specs.Bench.{BenchState, Senses, Plain as Seen, seen as bench_seen}
use Rattle.vold_book.specs.declared.opened.Opened.{Opened}
use Rattle.vold_book.specs.declared.tasks.Running.{Running}
use Rattle.vold_book.specs.Parts.{LedgerState, TrackerState}

abbrev pub Docket : Type 0
Docket = DocketState actor_cmp Command Running

-- how contracts see the devices, by the meanings that their traits give
abbrev pub senses : {D E F : Type 0} → (D → Disk) → (D → Counts) → (E → Store) → (E → Counts) → (F → Ring)
    → (F → Counts)
    → Senses D E F
senses disk tree_counts store store_counts keys ring_counts = record {
  disk = disk;
  tree_counts = tree_counts;
  store = store;
  store_counts = store_counts;
  keys = keys;
  ring_counts = ring_counts;
}

-- a Book over a bench of some kind
pub record BookState (B : Type 0) : Type 0 where
  pub bench : B
  -- the devices' counts when the Book was opened
  pub opened : Opened
  -- the script's, and that of this boot
  pub seed : List ℕ
  pub boot_seed : List ℕ
  -- the users who are marked as having a change that may not be durable
  pub marks : Users
  pub ledger : LedgerState
  pub docket : Docket
  pub tracker : TrackerState

-- a Book's parts as they are stored
pub record Parts (D E F : Type 0) : Type 0 where
  pub tree : D
  pub store : E
  pub ring : F
  pub places : NamedPlaces
  pub list : Deferral
  pub opened : Opened
  pub seed : List ℕ
  pub boot_seed : List ℕ
  pub marks : Users
  pub ledger : LedgerState
  pub docket : StoredDocket Actor Command Running
  pub tracker : TrackerState

abbrev pub book_of : {D E F : Type 0} → Parts D E F → BookState (BenchState D E F)
book_of parts = record {
  bench = record {
    tree = parts.tree;
    store = parts.store;
    ring = parts.ring;
    places = parts.places;
    list = parts.list;
  };
  opened = parts.opened;
  seed = parts.seed;
  boot_seed = parts.boot_seed;
  marks = parts.marks;
  ledger = parts.ledger;
  docket = docket_of actor_cmp parts.docket;
  tracker = parts.tracker;
}

-- a Book over what is seen of its devices
abbrev pub Plain : Type 0
Plain = BookState Seen

abbrev pub over : {A B : Type 0} → BookState A → B → BookState B
over book bench = record {
  bench = bench;
  opened = book.opened;
  seed = book.seed;
  boot_seed = book.boot_seed;
  marks = book.marks;
  ledger = book.ledger;
  docket = book.docket;
  tracker = book.tracker;
}

abbrev pub seen : {D E F : Type 0} → Senses D E F → BookState (BenchState D E F) → Plain
seen senses book = over book (bench_seen senses book.bench)

-- the machine that the journal leads to
abbrev pub machine_of : {B : Type 0} → BookState B → Machine
machine_of book = machine_after book.ledger.entries

-- the disk with the changes of a machine
abbrev pub timeline : Disk → Machine → Timeline
timeline disk machine = record { disk = disk; kept = machine.kept; log = machine.log }

-- every change of the user's is durable
abbrev pub AllDurable : Timeline → ℕ → Type 0
AllDurable line user = NoChangeOf user (drop line.kept line.log)

-- what was tried with secrets, by user, as the journal tells it
abbrev pub tried_in : {B : Type 0} → BookState B → ℕ → Attempts
tried_in book = attempts_of book.seed book.ledger.entries

-- what directories are opened with
abbrev pub vault_of : (ℕ → Attempts) → List ℕ → Store → Vault
vault_of tried seed store =
    record { entries = store.entries; level = store.level; seed = seed; attempts = tried }

-- what tasks rest on: the machine's phase and boot, the disk with its changes, what directories are opened with, the
-- blobs that the keystore ever gave, the keys in the ring, the known places and the list of waiting deletes
pub record Ground : Type 0 where
  pub phase : Phase
  pub boot : ℕ
  pub line : Timeline
  pub vault : Vault
  pub given : List Blob
  pub keys : Ring
  pub places : NamedPlaces
  pub list : Deferral

abbrev pub ground_at : (ℕ → Attempts) → List ℕ → Seen → Machine → Ground
ground_at tried seed bench machine = record {
  phase = machine.phase;
  boot = machine.boot;
  line = timeline bench.disk machine;
  vault = vault_of tried seed bench.store;
  given = bench.store.given;
  keys = bench.keys;
  places = bench.places;
  list = bench.list;
}

abbrev pub ground_of : Plain → Ground
ground_of book = ground_at (tried_in book) book.seed book.bench (machine_of book)

-- a user's share of it
abbrev pub share_of : ℕ → Ground → Share
share_of user on = record { own = own_of user on.line; vault = on.vault; keys = key_of on.keys user }
