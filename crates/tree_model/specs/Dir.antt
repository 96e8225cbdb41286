-- Directories as finite maps from file names to bytes, and how eight slots are one.
use Rattle.std.specs.Prelude.{◌≡◌, ℕ, ◌≤◌, List, [], ◌∷◌, length, take, Option, Some, None, slice_index_or}
use Rattle.std.specs.FinMap as map
use Rattle.std.specs.Coded.{Coded, coded_ℕ, coded_list}
use Rattle.tree_model.specs.declared.files.FileName.{FileName}
use Rattle.tree_model.specs.declared.files.FileName.TheVariants.{Version, EncryptedKey, Blob, BlobUpgraded, BlobNew}
use Rattle.tree_model.specs.declared.files.FileName.TheVariants.{Discard, Stretching, Salt}
use Rattle.tree_model.specs.Files.{file_key, file_cmp, file_code}

-- the files of a directory
abbrev pub Files : Type 0
Files = map.FinMap file_cmp (List ℕ)

abbrev pub files_code : Coded Files
files_code = map.code file_code (coded_list coded_ℕ)

-- the entry of a file, where it is there
abbrev pub row : FileName → Option (List ℕ) → List (FileName × List ℕ) → List (FileName × List ℕ)
row file None rows = rows
row file (Some bytes) rows = (file, bytes) ∷ rows

-- the entries of the files that are there, in order
abbrev pub rows : (FileName → Option (List ℕ)) → List FileName → List (FileName × List ℕ)
rows held [] = []
rows held (file ∷ files) = row file (held file) (rows held files)

-- every file name, in order
abbrev pub every : List FileName
every = Version ∷ EncryptedKey ∷ Blob ∷ BlobUpgraded ∷ BlobNew ∷ Discard ∷ Stretching ∷ Salt ∷ []

abbrev pub in_slot : List (Option (List ℕ)) → FileName → Option (List ℕ)
in_slot slots file = slice_index_or slots (file_key file) None

-- the files that eight slots hold
unfoldable pub files_of : List (Option (List ℕ)) → Files
files_of slots = map.from_sorted (rows (in_slot slots) every)

pub record IsDir (slots : List (Option (List ℕ))) (order : List FileName) (count : ℕ) : Type 0 where
  pub slot_count : length slots ≡ 8
  pub order_count : length order ≡ 8
  pub few : count ≤ 8
  pub listed : take count order ≡ map.keys (files_of slots)
