-- The laws of custody: each kind of step keeps the blobs in order.
use Rattle.std.specs.Prelude.{◌≡◌, ◌⊎◌, ℕ, true, List, [], Option, None, Contains}
use Rattle.tree_model.specs.declared.blobs.Blob.{Blob}
use Rattle.tree_model.specs.declared.sites.LocalOp.{LocalOp}
use Rattle.tree_model.specs.Disk.{view}
use Rattle.tree_model.specs.Named.{IsNamed}
use Rattle.tree_model.specs.Tree.{Tree}
use Rattle.keystore_model.specs.declared.entry.StoreEntry.{StoreEntry}
use Rattle.keystore_model.specs.Store.{IsLive, Differ, entry_of}
use Rattle.deferred_delete.specs.declared.items.Item.{Item}
use Rattle.deferred_delete.specs.Deferral.{IsNumbered}
use Rattle.blob_custody.specs.Custody.{Custody, IsListed, IsClean}
use Rattle.blob_custody.specs.Steps.{NamesLive, Exchanges, LetsGo, IsLost, KeepsEntries, with_held_entry}
use Rattle.blob_custody.specs.Steps.{with_operation, after_sync, with_listed, without_item, after_stop, made_ready}

-- an entry of a blob that had none
abbrev pub LawOfGenerated : Type 0
LawOfGenerated =
    (custody : Custody) (entry : StoreEntry) → IsClean custody → NamesLive custody.disk custody.entries
    → entry_of custody.entries entry.blob ≡ None
    → IsClean (with_held_entry custody entry)

-- an operation of one user's, which gains held blobs and drops named ones
abbrev pub LawOfOperations : Type 0
LawOfOperations =
    (custody : Custody) (user : ℕ) (op : LocalOp) (gains drops held : List Blob) → IsClean custody
    → Exchanges custody user op gains drops held
    → IsClean (with_operation custody user op drops held)

-- a sync, whatever the base is then: the same, one that is begun with it, or none any more
abbrev pub LawOfSync : Type 0
LawOfSync = (custody : Custody) (base : Option Tree) → IsClean custody → IsClean (after_sync custody base)

-- a command's failure, which lists what it held
abbrev pub LawOfReplies : Type 0
LawOfReplies =
    (custody : Custody) (failed held : List Blob) → IsClean custody → LetsGo custody.held failed held → Differ failed
    → IsClean (with_listed custody failed held)

-- the delete of an item's blob
abbrev pub LawOfDeletes : Type 0
LawOfDeletes =
    (custody : Custody) (item : Item) → IsClean custody → IsNumbered custody.list → Contains custody.list.items item
    → IsClean (without_item custody item)

-- it takes no entry that is needed, where there is no base and the item is synced
abbrev pub LawOfDueItems : Type 0
LawOfDueItems =
    (custody : Custody) (item : Item) → IsClean custody → custody.base ≡ None → Contains custody.list.items item
    → item.synced ≡ true
    → KeepsEntries custody (without_item custody item).entries

-- a stop or a rollback, whichever tree is stable then
abbrev pub LawOfStops : Type 0
LawOfStops = (custody : Custody) (tree : Tree) (base : Option Tree) → IsClean (after_stop custody tree base)

-- a recovery's list of the blobs that it found
abbrev pub LawOfListing : Type 0
LawOfListing =
    (custody : Custody) (found : List Blob) → IsClean custody → custody.disk.pending ≡ [] → Differ found
    → ((blob : Blob) → Contains found blob → IsLost custody blob)
    → IsClean (with_listed custody found custody.held)

-- a recovery's end
abbrev pub LawOfReadiness : Type 0
LawOfReadiness =
    (custody : Custody) → IsClean custody
    → ((blob : Blob) → IsLive custody.entries blob → IsNamed (view custody.disk) blob ⊎ IsListed custody.list blob)
    → IsClean (made_ready custody)
