-- One user's part of a tree, and what an operation on it does: all of it computes, with no user in sight.
use Rattle.std.specs.Prelude.{◌≡◌, ◌≢◌, ℕ, Bool, cond, Option, Some, None, is_some, IsSome, IsNone}
use Rattle.std.specs.FinMap as map
use Rattle.tree_model.specs.declared.places.Slot.TheVariants.{Current, Cx}
use Rattle.tree_model.specs.declared.sites.Site.{Site}
use Rattle.tree_model.specs.declared.sites.Site.TheVariants.{De, Ce, Temp}
use Rattle.tree_model.specs.declared.sites.LocalOp.{LocalOp}
use Rattle.tree_model.specs.declared.sites.LocalOp.TheVariants.{MakeDir, Write, RenameFile}
use Rattle.tree_model.specs.declared.sites.LocalOp.TheVariants.{RenameDir, RemoveFile, RemoveDir}
use Rattle.tree_model.specs.declared.ops.Fill.{Fill}
use Rattle.tree_model.specs.declared.ops.Fill.TheVariants.{Same, Bytes}
use Rattle.tree_model.specs.Dir.{Files}
use Rattle.tree_model.specs.Tree.{Tree, Kind, Create, Add, Drop, Settle, Destroy, kind_if, if_there, renamed_file}
use Rattle.tree_model.specs.Tree.{after_op, kind_of}
use Rattle.tree_model.specs.Sites.{place_of, op_of, same_site}

-- what stands at each of a user's places
abbrev pub Part : Type 0
Part = Site → Option Files

abbrev pub part_of : Tree → ℕ → Part
part_of tree user site = map.get tree (place_of user site)

-- the part without the temporary directory, which stands for nothing
abbrev pub standing : Part → Part
standing part De = part De
standing part (Ce slot) = part (Ce slot)
standing part Temp = None

abbrev pub set : Part → Site → Option Files → Part
set part site held at = cond (same_site at site) held (part at)

-- the part with one directory changed, where it is there
abbrev pub at_site : Part → Site → (Files → Files) → Part
at_site part site change = if_there (part site) part (λ files. set part site (Some (change files)))

-- the part after an operation
abbrev pub after_local : Part → LocalOp → Part
after_local part (MakeDir site) = set part site (Some map.empty)
after_local part (Write site file bytes) = at_site part site (λ files. map.insert files file bytes)
after_local part (RenameFile site from to) = at_site part site (λ files. renamed_file files from to)
after_local part (RenameDir from to) = if_there (part from) part (λ files. set (set part from None) to (Some files))
after_local part (RemoveFile site file) = at_site part site (λ files. map.remove files file)
after_local part (RemoveDir site) = set part site None

-- the operation as a stop leaves it: a write may have put other bytes
abbrev pub filled_local : Fill → LocalOp → LocalOp
filled_local Same op = op
filled_local (Bytes other) (MakeDir site) = MakeDir site
filled_local (Bytes other) (Write site file bytes) = Write site file other
filled_local (Bytes other) (RenameFile site from to) = RenameFile site from to
filled_local (Bytes other) (RenameDir from to) = RenameDir from to
filled_local (Bytes other) (RemoveFile site file) = RemoveFile site file
filled_local (Bytes other) (RemoveDir site) = RemoveDir site

-- the user is there where the device key's directory is
abbrev pub has_device : Part → Bool
has_device part = is_some (part De)

abbrev pub renaming_local : Part → Site → Site → Option Kind
renaming_local part Temp De = Some Create
renaming_local part Temp (Ce (Cx n)) = kind_if (has_device part) Add
renaming_local part Temp (Ce Current) = None
renaming_local part Temp Temp = None
renaming_local part (Ce (Cx n)) (Ce Current) = kind_if (has_device part) Settle
renaming_local part (Ce (Cx n)) De = None
renaming_local part (Ce (Cx n)) (Ce (Cx m)) = None
renaming_local part (Ce (Cx n)) Temp = None
renaming_local part (Ce Current) to = None
renaming_local part De to = None

abbrev pub removing_local : Part → Site → Option Kind
removing_local part De = Some Destroy
removing_local part (Ce slot) = kind_if (has_device part) Drop
removing_local part Temp = None

-- the kind of change that an operation makes in a part
abbrev pub local_kind : Part → LocalOp → Option Kind
local_kind part (MakeDir site) = None
local_kind part (Write site file bytes) = None
local_kind part (RenameFile site from to) = None
local_kind part (RenameDir from to) = renaming_local part from to
local_kind part (RemoveFile site file) = None
local_kind part (RemoveDir site) = removing_local part site

-- the device's conditions on an operation
abbrev pub LocalFits : Part → LocalOp → Type 0
LocalFits part (MakeDir site) = IsNone (part site)
LocalFits part (Write site file bytes) = IsSome (part site)
LocalFits part (RenameFile site from to) = ⊥
LocalFits part (RenameDir from to) = IsSome (part from) × IsNone (part to)
LocalFits part (RemoveFile site file) = ⊥
LocalFits part (RemoveDir site) = IsSome (part site)

-- a user's operation does to the user's part what its local operation does, and makes the change that this makes
pub record IsOwnOp (tree : Tree) (user : ℕ) (op : LocalOp) : Type 0 where
  pub part : part_of (after_op tree (op_of user op)) user ≡ after_local (part_of tree user) op
  pub kind : kind_of tree (op_of user op) ≡ local_kind (part_of tree user) op
  -- and it leaves each other user's part
  pub others : (other : ℕ) → other ≢ user → part_of (after_op tree (op_of user op)) other ≡ part_of tree other

abbrev pub LawOfParts : Type 0
LawOfParts = (tree : Tree) (user : ℕ) (op : LocalOp) → IsOwnOp tree user op
