-- Trees of directories, what an operation does to one, and the kinds of change that count.
use Rattle.std.specs.Prelude.{ℕ, ◌+◌, ◌==◌, ◌&&◌, Bool, true, false, cond, List}
use Rattle.std.specs.Prelude.{[], ◌∷◌, Option, Some, None, is_some, IsSome}
use Rattle.std.specs.FinMap as map
use Rattle.std.specs.Coded.{Coded}
use Rattle.tree_model.specs.declared.files.FileName.{FileName}
use Rattle.tree_model.specs.declared.places.Slot.TheVariants.{Current, Cx}
use Rattle.tree_model.specs.declared.places.Place.{Place}
use Rattle.tree_model.specs.declared.places.Place.TheVariants.{De, Ce, Temp}
use Rattle.tree_model.specs.declared.ops.Op.{Op}
use Rattle.tree_model.specs.declared.ops.Op.TheVariants.{MakeDir, Write, RenameFile, RenameDir, RemoveFile, RemoveDir}
use Rattle.tree_model.specs.Order.{place_cmp, place_code}
use Rattle.tree_model.specs.Dir.{Files, files_code}

-- the directories at their places
abbrev pub Tree : Type 0
Tree = map.FinMap place_cmp Files

abbrev pub tree_code : Coded Tree
tree_code = map.code place_code files_code

-- what a value that is there leads to, and else the default
abbrev pub if_there : {A B : Type 0} → Option A → B → (A → B) → B
if_there None default to = default
if_there (Some a) default to = to a

-- the tree with one directory changed, where it is there
abbrev pub at_dir : Tree → Place → (Files → Files) → Tree
at_dir tree place change = if_there (map.get tree place) tree (λ files. map.insert tree place (change files))

-- the files with one of them under another name, where it is there
abbrev pub renamed_file : Files → FileName → FileName → Files
renamed_file files from to = if_there (map.get files from) files (λ bytes. map.insert (map.remove files from) to bytes)

-- the tree with one directory at another place, where it is there
abbrev pub renamed_dir : Tree → Place → Place → Tree
renamed_dir tree from to = if_there (map.get tree from) tree (λ files. map.insert (map.remove tree from) to files)

-- the tree after an operation
abbrev pub after_op : Tree → Op → Tree
after_op tree (MakeDir place) = map.insert tree place map.empty
after_op tree (Write place file bytes) = at_dir tree place (λ files. map.insert files file bytes)
after_op tree (RenameFile place from to) = at_dir tree place (λ files. renamed_file files from to)
after_op tree (RenameDir from to) = renamed_dir tree from to
after_op tree (RemoveFile place file) = at_dir tree place (λ files. map.remove files file)
after_op tree (RemoveDir place) = map.remove tree place

-- the tree after operations, in order
abbrev pub applied : Tree → List Op → Tree
applied tree [] = tree
applied tree (op ∷ ops) = applied (after_op tree op) ops

abbrev pub user_of : Place → ℕ
user_of (De user) = user
user_of (Ce user slot) = user
user_of (Temp user) = user

-- a user is there where the device key's directory is
abbrev pub has_de : Tree → ℕ → Bool
has_de tree user = is_some (map.get tree (De user))

-- a directory counts where it is a user's device key, or a credential key of a user whose device key is there
abbrev pub IsStanding : Tree → Place → Type 0
IsStanding tree (De user) = IsSome (map.get tree (De user))
IsStanding tree (Ce user slot) = IsSome (map.get tree (Ce user slot)) × IsSome (map.get tree (De user))
IsStanding tree (Temp user) = ⊥

-- the kinds of change: a user is created, a slot is added or dropped, the last numbered slot becomes the current one,
-- a user is destroyed
pub data Kind : Type 0 where
  Create Add Drop Settle Destroy : Kind

abbrev pub kind_if : Bool → Kind → Option Kind
kind_if true kind = Some kind
kind_if false kind = None

abbrev pub renaming_kind : Tree → Place → Place → Option Kind
renaming_kind tree (Temp user) (De owner) = kind_if (user == owner) Create
renaming_kind tree (Temp user) (Ce owner (Cx n)) = kind_if ((user == owner) && has_de tree owner) Add
renaming_kind tree (Temp user) (Ce owner Current) = None
renaming_kind tree (Temp user) (Temp owner) = None
renaming_kind tree (Ce user (Cx n)) (Ce owner Current) = kind_if ((user == owner) && has_de tree owner) Settle
renaming_kind tree (Ce user (Cx n)) (De owner) = None
renaming_kind tree (Ce user (Cx n)) (Ce owner (Cx m)) = None
renaming_kind tree (Ce user (Cx n)) (Temp owner) = None
renaming_kind tree (Ce user Current) to = None
renaming_kind tree (De user) to = None

abbrev pub removing_kind : Tree → Place → Option Kind
removing_kind tree (De user) = Some Destroy
removing_kind tree (Ce user slot) = kind_if (has_de tree user) Drop
removing_kind tree (Temp user) = None

-- the kind of change that an operation makes in a tree
abbrev pub kind_of : Tree → Op → Option Kind
kind_of tree (MakeDir place) = None
kind_of tree (Write place file bytes) = None
kind_of tree (RenameFile place from to) = None
kind_of tree (RenameDir from to) = renaming_kind tree from to
kind_of tree (RemoveFile place file) = None
kind_of tree (RemoveDir place) = removing_kind tree place

-- how many of the operations make a change, each looked at in the tree before it
abbrev pub changes_in : Tree → List Op → ℕ
changes_in tree [] = 0
changes_in tree (op ∷ ops) = cond (is_some (kind_of tree op)) 1 0 + changes_in (after_op tree op) ops
