-- What the parts of a call leave: of the disk, of the table and of the list.
use Rattle.std.specs.Prelude.{◌≡◌, ◌-◌, ℕ, Bool, not, cond, List, length, IfSome, map as map_list, Option, Some, None}
use Rattle.std.specs.Prelude.{Result, Ok, Err, true, Contains}
use Rattle.std.specs.FinMap as map
use Rattle.std.specs.FinSet as set
use Rattle.std.specs.List.{filter, list_any}
use Rattle.std.specs.List.Sorted.{IsSorted}
use Rattle.std.specs.Ordering.{eq_by_cmp}
use Rattle.tree_model.specs.declared.blobs.Blob.{Blob}
use Rattle.tree_model.specs.declared.device.DevFault.{DevFault}
use Rattle.tree_model.specs.declared.device.DevFault.TheVariants.{Failed as DeviceFailed, NoMemory as WantsMemory}
use Rattle.tree_model.specs.declared.memory.NoMemory.{NoMemory}
use Rattle.tree_model.specs.declared.places.Place.{Place}
use Rattle.tree_model.specs.declared.sites.LocalOp.{LocalOp}
use Rattle.tree_model.specs.declared.sites.LocalOp.TheVariants.{Write, RenameDir, RemoveDir}
use Rattle.tree_model.specs.Blobs.{blob_cmp}
use Rattle.tree_model.specs.Disk.{Disk, with_op}
use Rattle.tree_model.specs.Order.{place_cmp}
use Rattle.tree_model.specs.Sites.{op_of, place_of}
use Rattle.journal_model.specs.declared.entries.Device.{Device}
use Rattle.deferred_delete.specs.Deferral.{Deferral}
use Rattle.keystore_model.specs.declared.entry.Tag.{Tag}
use Rattle.blob_custody.specs.Steps.{pushed_all}
use Rattle.step_core.specs.Table.{NamedPlaces, TableState, Users, without_mark}
use Rattle.bench.specs.declared.made.Made.{Made}
use Rattle.bench.specs.declared.made.Made.TheVariants.{Failed}
use Rattle.bench.specs.Bench.{IsKnown, places_after}

-- a blob has 32 bytes
abbrev pub IsWhole : Option Blob → Type 0
IsWhole named = IfSome named (λ blob. length blob ≡ 32)

-- the answer of a call whose device didn't do it
abbrev pub failure_of : Device → DevFault → Result Made NoMemory
failure_of device DeviceFailed = Ok (Failed device)
failure_of device WantsMemory = Err (record {})

-- the disk after an operation that failed: a write leaves any bytes
abbrev pub LeavesDisk : Disk → Disk → ℕ → LocalOp → Type 0
LeavesDisk before after user (Write site file bytes) =
    (other : List ℕ) × (after ≡ with_op before (op_of user (Write site file other)))
LeavesDisk before after user op = after ≡ before

-- the disk after an operation, by the device's answer
abbrev pub IsOperated : Disk → Disk → ℕ → LocalOp → Result (Unit {0}) DevFault → Type 0
IsOperated before after user op (Ok done) = after ≡ with_op before (op_of user op)
IsOperated before after user op (Err DeviceFailed) = LeavesDisk before after user op
IsOperated before after user op (Err WantsMemory) = after ≡ before

-- the marks after an operation: that of a place which is no longer there goes
abbrev pub marks_with : Users → ℕ → LocalOp → Users
marks_with marks user (RenameDir from to) = without_mark marks (place_of user from)
marks_with marks user (RemoveDir site) = without_mark marks (place_of user site)
marks_with marks user op = marks

-- the table after an operation
pub record Follows (before after : TableState) (user : ℕ) (op : LocalOp) (names : Option Blob) : Type 0 where
  pub places : after.places ≡ places_after before.places user op names
  pub marks : after.marks ≡ marks_with before.marks user op
  pub dirty : after.dirty ≡ before.dirty

abbrev pub if_listed : Bool → Option (Option Blob)
if_listed there = cond there (Some None) None

-- the table has exactly these places, of none a blob is known, and nobody is marked
pub record Lists (before after : TableState) (places : List Place) : Type 0 where
  pub listed : (place : Place) → map.get after.places place ≡ if_listed (list_any (eq_by_cmp place_cmp place) places)
  pub marks : after.marks ≡ set.empty
  pub dirty : after.dirty ≡ before.dirty

-- the blobs, in order, are those that the places are known to name
pub record AreNamed (places : NamedPlaces) (named : List Blob) : Type 0 where
  pub sorted : IsSorted blob_cmp named
  pub known : (blob : Blob) → Contains named blob → IsKnown places blob
  pub all : (blob : Blob) → IsKnown places blob → Contains named blob

-- whether a blob is one of these
abbrev pub is_among : List Blob → Blob → Bool
is_among named blob = list_any (eq_by_cmp blob_cmp blob) named

-- of the rows' blobs, in order, those that aren't named
abbrev pub unnamed : List Blob → List (Blob × Tag) → List Blob
unnamed named rows = filter (λ blob. not (is_among named blob)) (map_list (λ row. row.0) rows)

-- the list with these blobs as synced, and a promise less for each row
abbrev pub with_rows : Deferral → List Blob → List (Blob × Tag) → Deferral
with_rows list named rows =
    record (pushed_all (record list { promised = 0 }) (unnamed named rows) true) {
      promised = list.promised - length rows;
    }
