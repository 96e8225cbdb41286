-- A place as its user and which of the user's places it is, and an operation likewise.
use Rattle.std.specs.Prelude.{ℕ, ◌||◌, Bool, true, false}
use Rattle.std.specs.Ordering.{eq_by_cmp}
use Rattle.tree_model.specs.declared.places.Place.{Place}
use Rattle.tree_model.specs.declared.places.Place.TheVariants.{De as DePlace, Ce as CePlace, Temp as TempPlace}
use Rattle.tree_model.specs.declared.ops.Op.{Op}
use Rattle.tree_model.specs.declared.ops.Op.TheVariants.{MakeDir as MakeDirOp, Write as WriteOp}
use Rattle.tree_model.specs.declared.ops.Op.TheVariants.{RenameFile as RenameFileOp, RenameDir as RenameDirOp}
use Rattle.tree_model.specs.declared.ops.Op.TheVariants.{RemoveFile as RemoveFileOp, RemoveDir as RemoveDirOp}
use Rattle.tree_model.specs.declared.sites.Site.{Site}
use Rattle.tree_model.specs.declared.sites.Site.TheVariants.{De, Ce, Temp}
use Rattle.tree_model.specs.declared.sites.LocalOp.{LocalOp}
use Rattle.tree_model.specs.declared.sites.LocalOp.TheVariants.{MakeDir, Write, RenameFile}
use Rattle.tree_model.specs.declared.sites.LocalOp.TheVariants.{RenameDir, RemoveFile, RemoveDir}
use Rattle.tree_model.specs.Order.{slot_cmp}
use Rattle.tree_model.specs.Tree.{user_of}

abbrev pub place_of : ℕ → Site → Place
place_of user De = DePlace user
place_of user (Ce slot) = CePlace user slot
place_of user Temp = TempPlace user

abbrev pub site_of : Place → Site
site_of (DePlace user) = De
site_of (CePlace user slot) = Ce slot
site_of (TempPlace user) = Temp

abbrev pub op_of : ℕ → LocalOp → Op
op_of user (MakeDir site) = MakeDirOp (place_of user site)
op_of user (Write site file bytes) = WriteOp (place_of user site) file bytes
op_of user (RenameFile site from to) = RenameFileOp (place_of user site) from to
op_of user (RenameDir from to) = RenameDirOp (place_of user from) (place_of user to)
op_of user (RemoveFile site file) = RemoveFileOp (place_of user site) file
op_of user (RemoveDir site) = RemoveDirOp (place_of user site)

-- whose operation it is, by its first place, and what it is to that user
abbrev pub user_of_op : Op → ℕ
user_of_op (MakeDirOp place) = user_of place
user_of_op (WriteOp place file bytes) = user_of place
user_of_op (RenameFileOp place from to) = user_of place
user_of_op (RenameDirOp from to) = user_of from
user_of_op (RemoveFileOp place file) = user_of place
user_of_op (RemoveDirOp place) = user_of place

abbrev pub local_op : Op → LocalOp
local_op (MakeDirOp place) = MakeDir (site_of place)
local_op (WriteOp place file bytes) = Write (site_of place) file bytes
local_op (RenameFileOp place from to) = RenameFile (site_of place) from to
local_op (RenameDirOp from to) = RenameDir (site_of from) (site_of to)
local_op (RemoveFileOp place file) = RemoveFile (site_of place) file
local_op (RemoveDirOp place) = RemoveDir (site_of place)

abbrev pub same_site : Site → Site → Bool
same_site De De = true
same_site De (Ce slot) = false
same_site De Temp = false
same_site (Ce slot) De = false
same_site (Ce slot) (Ce other) = eq_by_cmp slot_cmp slot other
same_site (Ce slot) Temp = false
same_site Temp De = false
same_site Temp (Ce slot) = false
same_site Temp Temp = true

-- whether an operation may change what stands at a site
abbrev pub touches : LocalOp → Site → Bool
touches (MakeDir site) at = same_site at site
touches (Write site file bytes) at = same_site at site
touches (RenameFile site from to) at = same_site at site
touches (RenameDir from to) at = same_site at from || same_site at to
touches (RemoveFile site file) at = same_site at site
touches (RemoveDir site) at = same_site at site
