-- What a case's run is made over, and what is printed of it.
use Rattle.std.specs.Prelude.{◌≡◌, ℕ, ◌↔◌, List, [], ◌∷◌, ◌++◌, flat_map, codes, Contains, Option, Some, IsSomeAnd}
use Rattle.std.specs.String.{string_bytes}
use Rattle.tree_model.specs.Counted.{Counts, IsPlanned}
use Rattle.keystore_model.specs.Store.{empty_store}
use Rattle.keystore_memory.specs.Kept.{Device as Keeper}
use Rattle.key_ring.specs.Kept.{Device as Holder, once}
use Rattle.journal_model.specs.declared.entries.Device.{Device}
use Rattle.journal_model.specs.declared.entries.Device.TheVariants.{Tree as TreeDevice, Store as StoreDevice}
use Rattle.journal_model.specs.declared.entries.Device.TheVariants.{Ring as RingDevice}
use Rattle.script_text.specs.declared.status.Status.{Status}
use Rattle.script_text.specs.declared.status.Status.TheVariants.{Done}
use Rattle.script_text.specs.Status.{message_of, number_of_status}
use Rattle.script_text.specs.Words.{decimal, line_of}
use Rattle.tree_memory.specs.Medium.{Medium, empty_disk}
use Rattle.bench.specs.Bench.{BenchState, Senses}
use Rattle.vold_book.specs.State.{BookState}
use Rattle.vold_book.specs.Turns.{new_bench, new_book, opened_at}
use Rattle.vold_run.specs.Ends.{HasMessage, RunPrints}
use Rattle.vold_cases.specs.declared.case.Planned.{Planned}
use Rattle.vold_cases.specs.declared.case.Case.{Case}

-- a planned call's number, where it is one of the device
abbrev pub number_at : Device → Device → ℕ → List ℕ
number_at TreeDevice TreeDevice call = call ∷ []
number_at StoreDevice StoreDevice call = call ∷ []
number_at RingDevice RingDevice call = call ∷ []
number_at device other call = []

-- the numbers of the device's calls that fail
abbrev pub calls_of : Device → List Planned → List ℕ
calls_of device faults = flat_map (λ fault. number_at device fault.device fault.call) faults

-- the list has exactly these numbers, in whatever order
abbrev pub HasNumbers : List ℕ → List ℕ → Type 0
HasNumbers numbers list = (number : ℕ) → Contains list number ↔ Contains numbers number

-- no call of the device was made, and exactly those of these faults fail that are its own
pub record ArePlanned (device : Device) (faults : List Planned) (counts : Counts) : Type 0 where
  pub calls : counts.calls ≡ 0
  pub none : counts.faults ≡ 0
  pub planned : IsSomeAnd counts.plan (HasNumbers (calls_of device faults))

-- one more call is planned to fail, where it is the device's own
abbrev pub Plans : Device → Device → ℕ → Counts → Counts → Type 0
Plans TreeDevice TreeDevice call before after = IsPlanned before after call
Plans StoreDevice StoreDevice call before after = IsPlanned before after call
Plans RingDevice RingDevice call before after = IsPlanned before after call
Plans device other call before after = after ≡ before

-- an empty tree before its first call, of which exactly the planned calls fail
pub record IsPlannedTree (faults : List Planned) (tree : Medium) : Type 0 where
  pub empty : tree.disk ≡ empty_disk
  pub planned : ArePlanned TreeDevice faults tree.counts

-- an empty keystore at level 1 before its first call, of which exactly the planned calls fail
pub record IsPlannedStore (faults : List Planned) (store : Keeper) : Type 0 where
  pub empty : store.store ≡ empty_store 1
  pub planned : ArePlanned StoreDevice faults store.counts

-- an empty key ring before its first call, of which exactly the planned calls fail
pub record IsPlannedRing (faults : List Planned) (ring : Holder) : Type 0 where
  pub empty : once ring.keys ≡ []
  pub planned : ArePlanned RingDevice faults ring.counts

-- the case's name, what its run wrote, and the number that the run ended with
abbrev pub report_of : List ℕ → List ℕ → ℕ → List ℕ
report_of name written number = line_of (codes "case" ∷ name ∷ []) ++
    (written ++ line_of (codes "status" ∷ decimal number ∷ []))

-- the devices of a run
pub record Devices : Type 0 where
  pub tree : Medium
  pub store : Keeper
  pub ring : Holder

-- exactly these calls of theirs fail
pub record ArePlannedDevices (faults : List Planned) (devices : Devices) : Type 0 where
  pub tree : IsPlannedTree faults devices.tree
  pub store : IsPlannedStore faults devices.store
  pub ring : IsPlannedRing faults devices.ring

-- how clauses see the devices in memory
abbrev pub in_memory : Senses Medium Keeper Holder
in_memory = record {
  disk = λ tree. tree.disk;
  tree_counts = λ tree. tree.counts;
  store = λ store. store.store;
  store_counts = λ store. store.counts;
  keys = λ ring. once ring.keys;
  ring_counts = λ ring. ring.counts;
}

-- a run of the script's text over the devices left so much of the text, and the sink, which had taken some bytes
-- before, then had these with what shows the Book
abbrev pub ShowsRun : Devices → (script : List ℕ) → (left : Option (List ℕ)) → (taken taken' : List ℕ)
    → BookState (BenchState Medium Keeper Holder) → Type 0
ShowsRun devices script left taken taken' =
    RunPrints in_memory
    (new_book (new_bench devices.tree devices.store devices.ring)
    (opened_at devices.tree.counts devices.store.counts devices.ring.counts)) (Some script) left
    (Some taken) (Some taken')

-- what a case prints: its run was made over devices of which the planned calls fail, a source with the script's text
-- and a sink that had taken nothing; with no Book the run wrote its status's message, and else what shows the Book
pub record PrintsCase (one : Case) (text : List ℕ) : Type 0 where
  pub devices : Devices
  pub planned : ArePlannedDevices one.faults.items devices
  pub status : Status
  pub written : List ℕ
  pub book : Option (BookState (BenchState Medium Keeper Holder))
  pub left : Option (List ℕ)
  pub done : status ≡ Done → IsSomeAnd book (ShowsRun devices (string_bytes one.script) left [] written)
  pub message : HasMessage status → written ≡ message_of status
  pub report : text ≡ report_of (string_bytes one.name) written (number_of_status status)
