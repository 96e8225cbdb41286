-- What contracts see of a bench, and what a call leaves of the rest of it.
use Rattle.std.specs.Prelude.{◌≡◌, None, Result, Ok, Err, length}
use Rattle.std.specs.FinMap as map
use Rattle.std.specs.FinSet as set
use Rattle.tree_model.specs.declared.memory.NoMemory.{NoMemory}
use Rattle.tree_model.specs.declared.places.Place.{Place}
use Rattle.tree_model.specs.Counted.{Counts}
use Rattle.tree_model.specs.Disk.{Disk}
use Rattle.keystore_model.specs.Store.{Store}
use Rattle.key_ring.specs.Ring.{Ring}
use Rattle.step_core.specs.Table.{NamedPlaces, Users, named_by}
use Rattle.task_turns.specs.declared.calls.Answer.TheVariants.{Blob as IsBlob}
use Rattle.task_turns.specs.declared.calls.Call.{Call}
use Rattle.task_turns.specs.declared.calls.Call.TheVariants.{Op, Sync, List as ListCall}
use Rattle.bench.specs.declared.bench.Bench.{Bench}
use Rattle.bench.specs.declared.made.Made.{Made}
use Rattle.bench.specs.declared.made.Made.TheVariants.{Heard, Failed}
use Rattle.bench.specs.Bench.{BenchState, Senses, Plain, seen, IsMade, AreCounted, device_of, told_of}
use Rattle.bench.specs.Steps.{IsWhole, marks_with}

-- the bench without its seed, and of its table the places alone
abbrev pub state_of : {T K G : Type 0} → Bench T K G → BenchState T K G
state_of bench = record {
  tree = bench.tree;
  store = bench.store;
  ring = bench.ring;
  places = bench.table.places;
  list = bench.list;
}

-- the senses of these ghost members of the devices
abbrev pub senses_by : {T K G : Type 0} → (T → Disk) → (T → Counts) → (K → Store) → (K → Counts) → (G → Ring)
    → (G → Counts)
    → Senses T K G
senses_by disk tree_counts store store_counts keys ring_counts = record {
  disk = disk;
  tree_counts = tree_counts;
  store = store;
  store_counts = store_counts;
  keys = keys;
  ring_counts = ring_counts;
}

-- what contracts see of a bench by them
abbrev pub seen_by : {T K G : Type 0} → (T → Disk) → (T → Counts) → (K → Store) → (K → Counts) → (G → Ring)
    → (G → Counts)
    → Bench T K G → Plain
seen_by disk tree_counts store store_counts keys ring_counts bench =
    seen (senses_by disk tree_counts store store_counts keys ring_counts) (state_of bench)

-- the marks after a call that was done: a list and a sync take all
abbrev pub marks_after : Users → Call → Users
marks_after marks (Op user op names) = marks_with marks user op
marks_after marks ListCall = set.empty
marks_after marks Sync = set.empty
marks_after marks call = marks

-- the marks by the call's answer
abbrev pub marks_told : Users → Call → Result Made NoMemory → Users
marks_told marks call (Ok (Heard answer)) = marks_after marks call
marks_told marks call (Ok (Failed device)) = marks
marks_told marks call (Err want) = marks

-- after a list no blob is known
abbrev pub IsUnread : NamedPlaces → Call → Result Made NoMemory → Type 0
IsUnread places ListCall (Ok (Heard answer)) = (place : Place) → named_by (map.get places place) ≡ None
IsUnread places call answer = Unit {0}

-- the blob that comes with an operation has its 32 bytes, and so has the one that is answered
abbrev pub BringsWhole : Call → Type 0
BringsWhole (Op user op names) = IsWhole names
BringsWhole call = Unit {0}

abbrev pub AnswersWhole : Result Made NoMemory → Type 0
AnswersWhole (Ok (Heard (IsBlob blob))) = length blob ≡ 32
AnswersWhole told = Unit {0}

-- what a call leaves of a bench, by its answer
pub record Makes {T K G : Type 0} (senses : Senses T K G) (before after : Bench T K G) (call : Call)
    (told : Result Made NoMemory) : Type 0 where
  pub made : IsMade (seen senses (state_of before)) (seen senses (state_of after)) call told
  pub counted : AreCounted (seen senses (state_of before)) (seen senses (state_of after)) (device_of call)
      (told_of told)
  pub seed : after.seed ≡ before.seed
  pub marks : after.table.marks ≡ marks_told before.table.marks call told
  pub dirty : after.table.dirty ≡ before.table.dirty
  pub unread : IsUnread after.table.places call told
  pub brings : BringsWhole call
  pub answers : AnswersWhole told
