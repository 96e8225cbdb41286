-- A keystore as plain data: its entries, the blobs that it gave, its level, and what its calls leave.
use Rattle.std.specs.Prelude.{◌≡◌, ℕ, Bool, cond, not, List, [], ◌∷◌, ◌++◌, map, Option, Some, None, IsSome, Contains}
use Rattle.std.specs.List.{filter}
use Rattle.std.specs.Ordering.{eq_by_cmp}
use Rattle.tree_model.specs.declared.blobs.Blob.{Blob}
use Rattle.tree_model.specs.Blobs.{blob_cmp}
use Rattle.tree_model.specs.Tree.{if_there}
use Rattle.keystore_model.specs.declared.entry.Tag.{Tag}
use Rattle.keystore_model.specs.declared.entry.StoreEntry.{StoreEntry}

pub record Store : Type 0 where
  -- in the order in which they were made
  pub entries : List StoreEntry
  -- every blob that was ever given, in order; the next number is how many they are
  pub given : List Blob
  pub level : ℕ

-- whether two lists of bytes are the same
abbrev pub same_bytes : List ℕ → List ℕ → Bool
same_bytes a b = eq_by_cmp blob_cmp a b

-- the entry of a blob
abbrev pub entry_of : List StoreEntry → Blob → Option StoreEntry
entry_of [] blob = None
entry_of (entry ∷ entries) blob = cond (same_bytes blob entry.blob) (Some entry) (entry_of entries blob)

-- the blob has an entry
abbrev pub IsLive : List StoreEntry → Blob → Type 0
IsLive entries blob = IsSome (entry_of entries blob)

-- the level of a blob's entry
abbrev pub level_at : Store → Blob → Option ℕ
level_at store blob = if_there (entry_of store.entries blob) None (λ entry. Some entry.level)

-- the entries without that of a blob
abbrev pub without : List StoreEntry → Blob → List StoreEntry
without entries blob = filter (λ entry. not (same_bytes blob entry.blob)) entries

abbrev pub blobs_of : List StoreEntry → List Blob
blobs_of entries = map (λ entry. entry.blob) entries

-- the blobs and tags of the entries, in order
abbrev pub listed : Store → List (Blob × Tag)
listed store = map (λ entry. (entry.blob, entry.tag)) store.entries

-- no element stands twice
abbrev pub Differ : List Blob → Type 0
Differ [] = Unit {0}
Differ (blob ∷ blobs) = ¬ (Contains blobs blob) × Differ blobs

-- the blobs given differ, those of the entries are among them, and no two entries have one blob
pub record IsStore (store : Store) : Type 0 where
  pub given_differ : Differ store.given
  pub given : (blob : Blob) → IsLive store.entries blob → Contains store.given blob
  pub differ : Differ (blobs_of store.entries)

-- no entry, and no blob was given
abbrev pub empty_store : ℕ → Store
empty_store level = record { entries = []; given = []; level = level }

-- one more entry, of a blob that is given with it
abbrev pub with_entry : Store → StoreEntry → Store
with_entry store entry =
    record store { entries = store.entries ++ entry ∷ []; given = store.given ++ entry.blob ∷ [] }

-- an entry that is made at the store's level
abbrev pub new_entry : Store → Blob → Tag → List ℕ → List ℕ → StoreEntry
new_entry store blob tag app_id key =
    record { blob = blob; level = store.level; app_id = app_id; key = key; tag = tag }

-- the store with such an entry
abbrev pub generated : Store → Blob → Tag → List ℕ → List ℕ → Store
generated store blob tag app_id key = with_entry store (new_entry store blob tag app_id key)

-- the store without the entry of a blob
abbrev pub deleted : Store → Blob → Store
deleted store blob = record store { entries = without store.entries blob }

-- the store at a level
abbrev pub at_level : Store → ℕ → Store
at_level store level = record store { level = level }

-- the store has one more entry, under some key, with a blob that was never given before
pub record IsGenerated (before after : Store) (tag : Tag) (app_id : List ℕ) (blob : Blob) : Type 0 where
  pub fresh : ¬ (Contains before.given blob)
  pub key : List ℕ
  pub made : after ≡ generated before blob tag app_id key

-- the blob has an entry of this app id at the store's level
pub record IsCurrent (store : Store) (blob : Blob) (app_id : List ℕ) : Type 0 where
  pub entry : StoreEntry
  pub found : entry_of store.entries blob ≡ Some entry
  pub bound : entry.app_id ≡ app_id
  pub current : entry.level ≡ store.level
