-- What steps do to the blobs that directories name and commands hold, and what each leaves of the custody.
use Rattle.std.specs.Prelude.{◌≡◌, ◌⊎◌, ℕ, Bool, true, false, List, [], ◌∷◌, ◌++◌, Option, Contains}
use Rattle.tree_model.specs.declared.blobs.Blob.{Blob}
use Rattle.tree_model.specs.declared.ops.Fill.{Fill}
use Rattle.tree_model.specs.declared.sites.LocalOp.{LocalOp}
use Rattle.tree_model.specs.Disk.{Disk, view, with_op, synced, IsImage}
use Rattle.tree_model.specs.Named.{PartNames, IsNamed}
use Rattle.tree_model.specs.Parts.{part_of, after_local, filled_local}
use Rattle.tree_model.specs.Sites.{op_of}
use Rattle.tree_model.specs.Tree.{Tree}
use Rattle.keystore_model.specs.declared.entry.StoreEntry.{StoreEntry}
use Rattle.keystore_model.specs.Store.{IsLive, Differ, entry_of, without}
use Rattle.deferred_delete.specs.declared.items.Item.{Item}
use Rattle.deferred_delete.specs.Deferral.{Deferral, pushed, noted, taken}
use Rattle.blob_custody.specs.Custody.{IsLeft, IsListed, Custody}

-- the list with an item of each blob, in order
abbrev pub pushed_all : Deferral → List Blob → Bool → Deferral
pushed_all list [] synced = list
pushed_all list (blob ∷ blobs) synced = pushed_all (pushed list blob synced) blobs synced

-- whatever a stop leaves names live blobs alone, and in the view no two users name one
pub record NamesLive (disk : Disk) (entries : List StoreEntry) : Type 0 where
  pub live : (left : Tree) → IsLeft disk left → (blob : Blob) → IsNamed left blob → IsLive entries blob
  pub one_user : (user other : ℕ) (blob : Blob) → PartNames (part_of (view disk) user) blob
      → PartNames (part_of (view disk) other) blob
      → user ≡ other

-- in whatever tree the pending operations leave, the user's directories name no more than before and the gains
abbrev pub NamesNoMore : Disk → ℕ → LocalOp → List Blob → Type 0
NamesNoMore disk user op gains = (left : Tree) (fill : Fill) (blob : Blob) → IsImage disk.stable disk.pending left
    → PartNames (after_local (part_of left user) (filled_local fill op)) blob
    → PartNames (part_of left user) blob ⊎ Contains gains blob

-- an operation on a user's places makes the user's directories name no more than the gains, in whatever tree the
-- pending operations leave; in the view they name these then, and of what they named all but the drops
pub record Renames (disk : Disk) (user : ℕ) (op : LocalOp) (gains drops : List Blob) : Type 0 where
  pub gained : NamesNoMore disk user op gains
  pub named : (blob : Blob) → Contains gains blob → PartNames (after_local (part_of (view disk) user) op) blob
  pub lost : (blob : Blob) → PartNames (part_of (view disk) user) blob
      → PartNames (after_local (part_of (view disk) user) op) blob ⊎ Contains drops blob
  pub dropped : (blob : Blob) → Contains drops blob → PartNames (part_of (view disk) user) blob
  pub unnamed : (blob : Blob) → Contains drops blob → ¬ (PartNames (after_local (part_of (view disk) user) op) blob)

-- of what was held, some is let go, and the rest is held still
pub record LetsGo (held let_go after : List Blob) : Type 0 where
  pub all : (blob : Blob) → Contains held blob → Contains after blob ⊎ Contains let_go blob
  pub still : (blob : Blob) → Contains after blob → Contains held blob
  pub apart : (blob : Blob) → Contains after blob → ¬ (Contains let_go blob)
  pub were : (blob : Blob) → Contains let_go blob → Contains held blob

-- what the operation gains was held and is let go, and what it drops differs
pub record Exchanges (custody : Custody) (user : ℕ) (op : LocalOp) (gains drops held : List Blob) : Type 0 where
  pub names : NamesLive custody.disk custody.entries
  pub renames : Renames custody.disk user op gains drops
  pub lets_go : LetsGo custody.held gains held
  pub differ : Differ drops

-- a live blob that no directory of the view names, and that is neither held nor listed
pub record IsLost (custody : Custody) (blob : Blob) : Type 0 where
  pub live : IsLive custody.entries blob
  pub unnamed : ¬ (IsNamed (view custody.disk) blob)
  pub free : ¬ (Contains custody.held blob)
  pub unlisted : ¬ (IsListed custody.list blob)

-- each blob that a stop can leave named, and each that is held, keeps its entry
pub record KeepsEntries (custody : Custody) (after : List StoreEntry) : Type 0 where
  pub named : (left : Tree) → IsLeft custody.disk left → (blob : Blob) → IsNamed left blob
      → entry_of after blob ≡ entry_of custody.entries blob
  pub held : (blob : Blob) → Contains custody.held blob → entry_of after blob ≡ entry_of custody.entries blob

-- one more entry, whose blob is held
abbrev pub with_held_entry : Custody → StoreEntry → Custody
with_held_entry custody entry =
    record custody { entries = custody.entries ++ entry ∷ []; held = custody.held ++ entry.blob ∷ [] }

-- one more pending operation, with what it drops listed, not yet synced
abbrev pub with_operation : Custody → ℕ → LocalOp → List Blob → List Blob → Custody
with_operation custody user op drops held = record custody {
  disk = with_op custody.disk (op_of user op);
  list = pushed_all custody.list drops false;
  held = held;
}

-- nothing is pending, and every item is synced
abbrev pub after_sync : Custody → Option Tree → Custody
after_sync custody base = record custody {
  disk = synced custody.disk;
  base = base;
  list = record custody.list { items = noted custody.list.items };
}

-- more blobs are listed, as synced, and these are held
abbrev pub with_listed : Custody → List Blob → List Blob → Custody
with_listed custody blobs held = record custody { list = pushed_all custody.list blobs true; held = held }

-- without an item, and without the entry of its blob
abbrev pub without_item : Custody → Item → Custody
without_item custody item = record custody {
  entries = without custody.entries item.blob;
  list = record custody.list { items = taken custody.list.items item.number };
}

-- a tree is stable, nothing is held or listed, and a recovery is due; the entries stay
abbrev pub after_stop : Custody → Tree → Option Tree → Custody
after_stop custody tree base = record {
  disk = record { stable = tree; pending = [] };
  base = base;
  entries = custody.entries;
  list = record custody.list { items = []; promised = 0 };
  held = [];
  ready = false;
}

-- ready, with nothing held
abbrev pub made_ready : Custody → Custody
made_ready custody = record custody { held = []; ready = true }
