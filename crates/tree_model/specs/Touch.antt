-- Which places an operation touches, and what of a tree is one user's.
use Rattle.std.specs.Prelude.{◌≡◌, ◌⊎◌, ℕ, Option}
use Rattle.std.specs.FinMap as map
use Rattle.tree_model.specs.declared.places.Place.{Place}
use Rattle.tree_model.specs.declared.ops.Op.{Op}
use Rattle.tree_model.specs.declared.ops.Op.TheVariants.{MakeDir, Write, RenameFile, RenameDir, RemoveFile, RemoveDir}
use Rattle.tree_model.specs.Dir.{Files}
use Rattle.tree_model.specs.Tree.{Tree, user_of}

-- the operation may change what stands at the place
abbrev pub Touches : Op → Place → Type 0
Touches (MakeDir place) at = at ≡ place
Touches (Write place file bytes) at = at ≡ place
Touches (RenameFile place from to) at = at ≡ place
Touches (RenameDir from to) at = (at ≡ from) ⊎ (at ≡ to)
Touches (RemoveFile place file) at = at ≡ place
Touches (RemoveDir place) at = at ≡ place

-- the operation touches places of the user alone
pub record IsOf (user : ℕ) (op : Op) : Type 0 where
  pub own : (place : Place) → Touches op place → user_of place ≡ user

-- what stands at the user's places
pub record PartIs (tree : Tree) (user : ℕ) (part : Place → Option Files) : Type 0 where
  pub holds : (place : Place) → user_of place ≡ user → map.get tree place ≡ part place

-- two trees hold the same at the user's places
pub record SameFor (user : ℕ) (before after : Tree) : Type 0 where
  pub same : (place : Place) → user_of place ≡ user → map.get after place ≡ map.get before place
