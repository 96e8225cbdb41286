-- The devices with what is known of them, and what each call leaves of them.
use Rattle.std.specs.Prelude.{Bool, false, ◌≡◌, ◌≢◌, ℕ, ◌+◌, ◌^◌, ◌<◌, true, List, [], ◌∷◌, Option, Some, None}
use Rattle.std.specs.Prelude.{is_some, Result, Ok, Err, length, cond, ◌==◌, flat_map, Contains, option_to_list}
use Rattle.std.specs.FinMap as map
use Rattle.tree_model.specs.declared.blobs.Blob.{Blob}
use Rattle.tree_model.specs.declared.device.DevFault.{DevFault}
use Rattle.tree_model.specs.declared.device.DevFault.TheVariants.{Failed as DeviceFailed, NoMemory as WantsMemory}
use Rattle.tree_model.specs.declared.memory.NoMemory.{NoMemory}
use Rattle.tree_model.specs.declared.places.Place.{Place}
use Rattle.tree_model.specs.declared.places.Place.TheVariants.{De, Ce, Temp}
use Rattle.tree_model.specs.declared.sites.Site.{Site}
use Rattle.tree_model.specs.declared.sites.Site.TheVariants.{De as DeSite, Ce as CeSite, Temp as TempSite}
use Rattle.tree_model.specs.declared.sites.LocalOp.{LocalOp}
use Rattle.tree_model.specs.declared.sites.LocalOp.TheVariants.{MakeDir, Write, RenameDir, RemoveDir}
use Rattle.tree_model.specs.Counted.{Counts, IsCounted}
use Rattle.tree_model.specs.Dir.{Files}
use Rattle.tree_model.specs.Disk.{Disk, view, with_op, synced}
use Rattle.tree_model.specs.Named.{named_at}
use Rattle.tree_model.specs.Parts.{part_of, LocalFits}
use Rattle.tree_model.specs.Sites.{op_of, place_of}
use Rattle.tree_model.specs.Tree.{Tree}
use Rattle.key_ring.specs.Ring.{Ring, installed as with_installed, removed}
use Rattle.deferred_delete.specs.Deferral.{Deferral, noted, taken}
use Rattle.journal_model.specs.declared.entries.Device.{Device}
use Rattle.journal_model.specs.declared.entries.Device.TheVariants.{Tree as TreeDevice, Store as StoreDevice}
use Rattle.journal_model.specs.declared.entries.Device.TheVariants.{Ring as RingDevice}
use Rattle.keystore_model.specs.Sealed.{encrypted, decrypted}
use Rattle.keystore_model.specs.Store.{Store, IsGenerated, IsCurrent, blobs_of, deleted}
use Rattle.blob_custody.specs.Steps.{pushed_all}
use Rattle.key_directory.specs.Shape.{sized}
use Rattle.step_core.specs.Table.{NamedPlaces, named_by}
use Rattle.task_turns.specs.declared.calls.Answer.{Answer}
use Rattle.task_turns.specs.declared.calls.Answer.TheVariants.{Done, Installed, Directory, Blob as IsBlob, Sealed}
use Rattle.task_turns.specs.declared.calls.Answer.TheVariants.{Decrypted}
use Rattle.task_turns.specs.declared.calls.Call.{Call}
use Rattle.task_turns.specs.declared.calls.Call.TheVariants.{Op, Sync, List as ListCall, Read}
use Rattle.task_turns.specs.declared.calls.Call.TheVariants.{Generate, Encrypt, Decrypt, Entries, Add, Remove}
use Rattle.task_turns.specs.declared.calls.Call.TheVariants.{Delete}
use Rattle.bench.specs.declared.made.Made.{Made}
use Rattle.bench.specs.declared.made.Made.TheVariants.{Heard, Failed}

-- the devices, the places that are known, each with the blob that it names, and the list of waiting deletes
pub record BenchState (D E F : Type 0) : Type 0 where
  pub tree : D
  pub store : E
  pub ring : F
  pub places : NamedPlaces
  pub list : Deferral

-- how contracts see the devices
pub record Senses (D E F : Type 0) : Type 0 where
  pub disk : D → Disk
  pub tree_counts : D → Counts
  pub store : E → Store
  pub store_counts : E → Counts
  pub keys : F → Ring
  pub ring_counts : F → Counts

-- what they see of a bench
pub record Plain : Type 0 where
  pub disk : Disk
  pub tree_counts : Counts
  pub store : Store
  pub store_counts : Counts
  pub keys : Ring
  pub ring_counts : Counts
  pub places : NamedPlaces
  pub list : Deferral

abbrev pub seen : {D E F : Type 0} → Senses D E F → BenchState D E F → Plain
seen senses bench = record {
  disk = senses.disk bench.tree;
  tree_counts = senses.tree_counts bench.tree;
  store = senses.store bench.store;
  store_counts = senses.store_counts bench.store;
  keys = senses.keys bench.ring;
  ring_counts = senses.ring_counts bench.ring;
  places = bench.places;
  list = bench.list;
}

-- the blob that a directory of a tree names, as a table keeps it
abbrev pub named_in : Option Files → Option (Option Blob)
named_in None = None
named_in (Some files) = Some (sized (named_at (Some files)))

-- these are exactly the places of the tree
abbrev pub KnowsPlaces : NamedPlaces → Tree → Type 0
KnowsPlaces places tree = (place : Place) → is_some (map.get places place) ≡ is_some (map.get tree place)

-- what a directory names that is renamed: a temporary one this, and another what it is known to name
abbrev pub moved_name : NamedPlaces → ℕ → Site → Option Blob → Option Blob
moved_name places user TempSite names = names
moved_name places user site names = named_by (map.get places (place_of user site))

-- the places after an operation on a user's, where a temporary directory that it renames names this
abbrev pub places_after : NamedPlaces → ℕ → LocalOp → Option Blob → NamedPlaces
places_after places user (MakeDir site) names = map.insert places (place_of user site) None
places_after places user (RenameDir from to) names =
    map.insert (map.remove places (place_of user from)) (place_of user to) (moved_name places user from names)
places_after places user (RemoveDir site) names = map.remove places (place_of user site)
places_after places user op names = places

-- the blob that a place is known to name, as a list
abbrev pub named_here : NamedPlaces → Place → List Blob
named_here places place = option_to_list (named_by (map.get places place))

-- whether a place is one of the user's but for the temporary one
abbrev pub is_kept_of : ℕ → Place → Bool
is_kept_of user (De owner) = owner == user
is_kept_of user (Ce owner slot) = owner == user
is_kept_of user (Temp owner) = false

-- the blobs that these are known to name, the device key's first and then by slots
abbrev pub names_of_user : NamedPlaces → ℕ → List Blob
names_of_user places user =
    flat_map (λ place. cond (is_kept_of user place) (named_here places place) []) (map.keys places)

-- the blobs that no standing directory names any more once an operation on a user's places was done: those of the
-- directory that it removes, and with the device key's those of all the user's
abbrev pub dropped_at : NamedPlaces → ℕ → Site → List Blob
dropped_at places user DeSite = names_of_user places user
dropped_at places user (CeSite slot) =
    cond (map.contains_key places (De user)) (named_here places (Ce user slot)) []
dropped_at places user TempSite = []

abbrev pub dropped : NamedPlaces → ℕ → LocalOp → List Blob
dropped places user (RemoveDir site) = dropped_at places user site
dropped places user op = []

-- a place is known to name the blob
pub record IsKnown (places : NamedPlaces) (blob : Blob) : Type 0 where
  pub place : Place
  pub names : map.get places place ≡ Some (Some blob)

-- of these blobs, in order, exactly those that no known place names
pub data AreUnnamed (places : NamedPlaces) : List Blob → List Blob → Type 0 where
  Nothing : AreUnnamed places [] []
  Unnamed : (blob : Blob) (blobs found : List Blob) → ¬ (IsKnown places blob) → AreUnnamed places blobs found
      → AreUnnamed places (blob ∷ blobs) (blob ∷ found)
  Named : (blob : Blob) (blobs found : List Blob) → IsKnown places blob → AreUnnamed places blobs found
      → AreUnnamed places (blob ∷ blobs) found

-- the list with more blobs at places of their own, as synced or not
abbrev pub listed_as : Bool → Deferral → List Blob → Deferral
listed_as synced list found = pushed_all (record list { promised = list.promised + length found }) found synced

abbrev pub listed : Deferral → List Blob → Deferral
listed list found = listed_as true list found

-- the devices' conditions on a call: the list has places for whatever may come on it
abbrev pub Fits : Plain → Call → Type 0
Fits bench (Op user op names) = LocalFits (part_of (view bench.disk) user) op
    × (bench.list.next + bench.list.promised + length (dropped bench.places user op) < 2 ^ 63)
Fits bench Sync = Unit {0}
Fits bench ListCall = Unit {0}
Fits bench (Read place) = is_some (map.get (view bench.disk) place) ≡ true
Fits bench (Generate tag app_id) = length bench.store.given < 2 ^ 63
Fits bench (Encrypt blob app_id nonce key) = IsCurrent bench.store blob app_id
Fits bench (Decrypt blob app_id sealed) = length sealed ≡ 92
Fits bench (Add user class key) = Unit {0}
Fits bench (Remove user class) = Unit {0}
Fits bench (Delete item tells) = Contains bench.list.items item × (item.synced ≡ true)
Fits bench Entries = bench.list.next + bench.list.promised + length bench.store.entries < 2 ^ 63

abbrev pub device_of : Call → Device
device_of (Op user op names) = TreeDevice
device_of Sync = TreeDevice
device_of ListCall = TreeDevice
device_of (Read place) = TreeDevice
device_of (Generate tag app_id) = StoreDevice
device_of (Encrypt blob app_id nonce key) = StoreDevice
device_of (Decrypt blob app_id sealed) = StoreDevice
device_of Entries = StoreDevice
device_of (Delete item tells) = StoreDevice
device_of (Add user class key) = RingDevice
device_of (Remove user class) = RingDevice

-- everything but the counts as it was
abbrev pub Rests : Plain → Plain → Type 0
Rests before after = after ≡ record before {
  tree_counts = after.tree_counts;
  store_counts = after.store_counts;
  ring_counts = after.ring_counts;
}

-- what a call leaves that was done, by what the task hears of it
abbrev pub Does : Plain → Plain → Call → Answer → Type 0
Does before after (Op user op names) answer = (answer ≡ Done) × (after ≡ record before {
  disk = with_op before.disk (op_of user op);
  tree_counts = after.tree_counts;
  places = places_after before.places user op names;
  list = listed_as false before.list (dropped before.places user op);
})
Does before after Sync answer = (answer ≡ Done) × (after ≡ record before {
  disk = synced before.disk;
  tree_counts = after.tree_counts;
  list = record before.list { items = noted before.list.items };
})
Does before after ListCall answer = (answer ≡ Done) × KnowsPlaces after.places (view before.disk)
    × (after ≡ record before { tree_counts = after.tree_counts; places = after.places })
Does before after (Read place) answer = (files : Files) × (map.get (view before.disk) place ≡ Some files)
    × (answer ≡ Directory files) × (after ≡ record before {
      tree_counts = after.tree_counts;
      places = map.insert before.places place (named_by (named_in (map.get (view before.disk) place)));
    })
Does before after (Generate tag app_id) answer = (blob : Blob) × (answer ≡ IsBlob blob)
    × IsGenerated before.store after.store tag app_id blob
    × (after ≡ record before { store = after.store; store_counts = after.store_counts })
Does before after (Encrypt blob app_id nonce key) answer = (answer ≡ Sealed (encrypted before.store blob nonce key))
    × (after ≡ record before { store_counts = after.store_counts })
Does before after (Decrypt blob app_id sealed) answer =
    (answer ≡ Decrypted (decrypted before.store blob app_id sealed))
    × (after ≡ record before { store_counts = after.store_counts })
Does before after Entries answer = (answer ≡ Done) × ((found : List Blob)
    × AreUnnamed before.places (blobs_of before.store.entries) found
    × (after ≡ record before { store_counts = after.store_counts; list = listed before.list found }))
Does before after (Delete item tells) answer = (answer ≡ Done) × (after ≡ record before {
  store = deleted before.store item.blob;
  store_counts = after.store_counts;
  list = record before.list { items = taken before.list.items item.number };
})
Does before after (Add user class key) answer = (answer ≡ Installed) × (after ≡ record before {
  keys = with_installed before.keys user class key;
  ring_counts = after.ring_counts;
})
Does before after (Remove user class) answer = (answer ≡ Done) × (after ≡ record before {
  keys = removed before.keys user class;
  ring_counts = after.ring_counts;
})

-- a failed call leaves what was; a write leaves any bytes
abbrev pub IsFailedOp : Plain → Plain → ℕ → LocalOp → Type 0
IsFailedOp before after user (Write site file bytes) = (other : List ℕ) × (after ≡ record before {
  disk = with_op before.disk (op_of user (Write site file other));
  tree_counts = after.tree_counts;
})
IsFailedOp before after user op = Rests before after

abbrev pub IsFailed : Plain → Plain → Call → Type 0
IsFailed before after (Op user op names) = IsFailedOp before after user op
IsFailed before after call = Rests before after

-- whether a call was done
abbrev pub was_done : Made → Bool
was_done (Heard answer) = true
was_done (Failed device) = false

-- by the call's answer: it was done, or its device failed, or memory was missing and nothing changed
abbrev pub IsMade : Plain → Plain → Call → Result Made NoMemory → Type 0
IsMade before after call (Ok (Heard answer)) = Does before after call answer
IsMade before after call (Ok (Failed device)) = (device ≡ device_of call) × IsFailed before after call
IsMade before after call (Err want) = after ≡ before

-- the device's answer
abbrev pub told_of : Result Made NoMemory → Result (Unit {0}) DevFault
told_of (Ok (Heard answer)) = Ok tt
told_of (Ok (Failed device)) = Err DeviceFailed
told_of (Err want) = Err WantsMemory

-- a device's counts
abbrev pub counts_of : Plain → Device → Counts
counts_of bench TreeDevice = bench.tree_counts
counts_of bench StoreDevice = bench.store_counts
counts_of bench RingDevice = bench.ring_counts

-- the device of the call counts it, and the others' counts stay
pub record AreCounted (before after : Plain) (device : Device) (told : Result (Unit {0}) DevFault) : Type 0 where
  pub counts : IsCounted (counts_of before device) (counts_of after device) told
  pub others : (other : Device) → other ≢ device → counts_of after other ≡ counts_of before other
