-- A directory as what it holds under each file name, and the blob that it names.
use Rattle.std.specs.Prelude.{ℕ, Bool, cond, List, Option, Some, None, is_some}
use Rattle.std.specs.FinMap as map
use Rattle.std.specs.Ordering.{eq_by_cmp}
use Rattle.tree_model.specs.declared.files.FileName.{FileName}
use Rattle.tree_model.specs.declared.files.FileName.TheVariants.{Blob, BlobUpgraded}
use Rattle.tree_model.specs.Files.{file_cmp}
use Rattle.tree_model.specs.Dir.{Files}

abbrev pub Held : Type 0
Held = FileName → Option (List ℕ)

abbrev pub held_in : Files → Held
held_in files file = map.get files file

abbrev pub has_file : Held → FileName → Bool
has_file held file = is_some (held file)

-- the same with one file set or taken away
abbrev pub with_file : Held → FileName → Option (List ℕ) → Held
with_file held file bytes at = cond (eq_by_cmp file_cmp at file) bytes (held at)

abbrev pub or_else : Option (List ℕ) → Option (List ℕ) → Option (List ℕ)
or_else None other = other
or_else (Some bytes) other = Some bytes

-- the blob that a directory names: that of the upgraded key, where it has one
abbrev pub blob_in : Held → Option (List ℕ)
blob_in held = or_else (held BlobUpgraded) (held Blob)
