-- A disk: what is stable, the operations since the last sync, and the trees that a stop can leave of the two.
use Rattle.std.specs.Prelude.{◌≡◌, ℕ, min, List, [], ◌∷◌, ◌++◌, length, take}
use Rattle.tree_model.specs.declared.ops.Op.{Op}
use Rattle.tree_model.specs.declared.ops.Op.TheVariants.{MakeDir, Write, RenameFile, RenameDir, RemoveFile, RemoveDir}
use Rattle.tree_model.specs.declared.ops.Fill.{Fill}
use Rattle.tree_model.specs.declared.ops.Fill.TheVariants.{Same, Bytes}
use Rattle.tree_model.specs.Tree.{Tree, after_op, applied}

pub record Disk : Type 0 where
  pub stable : Tree
  pub pending : List Op

-- the tree with all operations applied, as calls see it
abbrev pub view : Disk → Tree
view disk = applied disk.stable disk.pending

-- one more pending operation
abbrev pub with_op : Disk → Op → Disk
with_op disk op = record { stable = disk.stable; pending = disk.pending ++ op ∷ [] }

-- the view is stable
abbrev pub synced : Disk → Disk
synced disk = record { stable = view disk; pending = [] }

-- an operation as a stop leaves it: a write may have put other bytes
abbrev pub filled : Fill → Op → Op
filled Same op = op
filled (Bytes other) (MakeDir place) = MakeDir place
filled (Bytes other) (Write place file bytes) = Write place file other
filled (Bytes other) (RenameFile place from to) = RenameFile place from to
filled (Bytes other) (RenameDir from to) = RenameDir from to
filled (Bytes other) (RemoveFile place file) = RemoveFile place file
filled (Bytes other) (RemoveDir place) = RemoveDir place

-- the fill of the first operation, and those of the others
abbrev pub first_fill : List Fill → Fill
first_fill [] = Same
first_fill (fill ∷ fills) = fill

abbrev pub other_fills : List Fill → List Fill
other_fills [] = []
other_fills (fill ∷ fills) = fills

-- the operations applied, each write with the bytes of its fill
abbrev pub image : Tree → List Op → List Fill → Tree
image tree [] fills = tree
image tree (op ∷ ops) fills = image (after_op tree (filled (first_fill fills) op)) ops (other_fills fills)

-- what a stop leaves that keeps the first `keep` pending operations, filled
abbrev pub image_at : Disk → ℕ → List Fill → Tree
image_at disk keep fills = image disk.stable (take keep disk.pending) fills

-- some tree that the operations can leave, each write with any bytes
abbrev pub IsImage : Tree → List Op → Tree → Type 0
IsImage tree [] left = left ≡ tree
IsImage tree (op ∷ ops) left = (fill : Fill) × IsImage (after_op tree (filled fill op)) ops left

-- the disk after a stop
abbrev pub stopped : Disk → ℕ → List Fill → Disk
stopped disk keep fills = record { stable = image_at disk (min keep (length disk.pending)) fills; pending = [] }
