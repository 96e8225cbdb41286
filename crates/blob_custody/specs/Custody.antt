-- Custody of a keystore's blobs: each live one is named by a standing directory, held by a running command, or listed
-- for its deletion.
use Rattle.std.specs.Prelude.{◌≡◌, ◌⊎◌, ℕ, ◌≤◌, Bool, true, List, length, take, Option, None, Contains}
use Rattle.tree_model.specs.declared.blobs.Blob.{Blob}
use Rattle.tree_model.specs.Disk.{Disk, view, IsImage}
use Rattle.tree_model.specs.Named.{IsNamed}
use Rattle.tree_model.specs.Tree.{Tree}
use Rattle.keystore_model.specs.declared.entry.StoreEntry.{StoreEntry}
use Rattle.keystore_model.specs.Store.{IsLive}
use Rattle.deferred_delete.specs.declared.items.Item.{Item}
use Rattle.deferred_delete.specs.Deferral.{Deferral}

-- an item of the list is the blob's
pub record IsListed (list : Deferral) (blob : Blob) : Type 0 where
  pub item : Item
  pub has : Contains list.items item
  pub is : item.blob ≡ blob

-- a tree that a stop can leave: some first pending operations are kept, each write with any bytes
pub record IsLeft (disk : Disk) (left : Tree) : Type 0 where
  pub keep : ℕ
  pub short : keep ≤ length disk.pending
  pub image : IsImage disk.stable (take keep disk.pending) left

-- no tree that a stop can leave names the blob
pub record IsGone (disk : Disk) (blob : Blob) : Type 0 where
  pub gone : (left : Tree) → IsLeft disk left → ¬ (IsNamed left blob)

-- the machine's two devices, the waiting deletes, and the blobs that running commands hold
pub record Custody : Type 0 where
  pub disk : Disk
  -- the tree that a rollback goes back to
  pub base : Option Tree
  -- the keystore's
  pub entries : List StoreEntry
  pub list : Deferral
  pub held : List Blob
  -- no recovery is due
  pub ready : Bool

-- a live blob is named in the view, held or listed
abbrev pub IsPlaced : Custody → Blob → Type 0
IsPlaced custody blob =
    IsNamed (view custody.disk) blob ⊎ (Contains custody.held blob ⊎ IsListed custody.list blob)

-- the blobs are in order
pub record IsClean (custody : Custody) : Type 0 where
  pub placed : custody.ready ≡ true → (blob : Blob) → IsLive custody.entries blob → IsPlaced custody blob
  -- no blob has two items
  pub once : (item other : Item) → Contains custody.list.items item → Contains custody.list.items other
      → item.blob ≡ other.blob
      → item ≡ other
  -- a listed blob is live, not named in the view, and not held
  pub live : (item : Item) → Contains custody.list.items item → IsLive custody.entries item.blob
  pub unnamed : (item : Item) → Contains custody.list.items item → ¬ (IsNamed (view custody.disk) item.blob)
  pub free : (item : Item) → Contains custody.list.items item → ¬ (Contains custody.held item.blob)
  -- where there is no base, a synced one is named in no tree that a stop can leave
  pub gone : custody.base ≡ None → (item : Item) → Contains custody.list.items item → item.synced ≡ true
      → IsGone custody.disk item.blob
  -- a held blob is live, and named in no such tree
  pub held_live : (blob : Blob) → Contains custody.held blob → IsLive custody.entries blob
  pub held_gone : (blob : Blob) → Contains custody.held blob → IsGone custody.disk blob
