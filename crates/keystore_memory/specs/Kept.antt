-- The entries of a memory keystore by their numbers, and what a contract sees of them.
use Rattle.std.specs.Prelude.{◌≡◌, ℕ, ◌<◌, ◌≤◌, ◌^◌, List, [], ◌∷◌}
use Rattle.std.specs.Ordering.{nat_cmp}
use Rattle.std.specs.FinMap as map
use Rattle.tree_model.specs.Counted.{Counts}
use Rattle.keystore_model.specs.declared.entry.StoreEntry.{StoreEntry}
use Rattle.keystore_model.specs.Store.{Store, IsStore}
use Rattle.keystore_memory.specs.Format.{blob_of_number, key_of_number, first_blobs}

-- a store, and for how many further entries there is memory
pub record Shelf : Type 0 where
  pub store : Store
  pub room : ℕ

-- a store and its counts
pub record Device : Type 0 where
  pub store : Store
  pub counts : Counts

-- entries by their numbers, the next number, and the level, as a store
abbrev pub store_of : map.FinMap nat_cmp StoreEntry → ℕ → ℕ → Store
store_of rows next level = record { entries = map.values rows; given = first_blobs next; level = level }

-- the number of an entry is below the next one, and gives its blob and its key
pub record IsRow (next : ℕ) (row : ℕ × StoreEntry) : Type 0 where
  pub below : row.0 < next
  pub blob : row.1.blob ≡ blob_of_number row.0
  pub key : row.1.key ≡ key_of_number row.0

-- so it is for each of these
abbrev pub AllRows : ℕ → List (ℕ × StoreEntry) → Type 0
AllRows next [] = Unit {0}
AllRows next (row ∷ rows) = IsRow next row × AllRows next rows

-- entries by their numbers that make a store
pub record IsKept (rows : map.FinMap nat_cmp StoreEntry) (next level : ℕ) : Type 0 where
  pub few : next ≤ 2 ^ 63
  pub each : AllRows next (map.entries rows)
  pub whole : IsStore (store_of rows next level)
