-- A disk in memory: its stable tree, its view where that differs, and its pending operations.
use Rattle.std.specs.Prelude.{◌≡◌, ℕ, ◌-◌, ◌≤◌, min, List, length, Option, Some, None, refl}
use Rattle.std.specs.Coded.{Coded, code_by, coded×, coded_ℕ, coded_list}
use Rattle.tree_model.specs.declared.ops.Op.{Op}
use Rattle.tree_model.specs.contracts.ops.Op as op
use Rattle.tree_model.specs.Tree.{Tree, tree_code, applied}
use Rattle.tree_model.specs.Disk.{Disk}
use Rattle.tree_memory.specs.Shelf.{Shelf}

-- a disk, and for how many further operations there is memory
pub record Held : Type 0 where
  pub disk : Disk
  pub room : ℕ

abbrev pub disk_code : Coded Disk
disk_code =
    code_by (Tree × List Op) (coded× tree_code (coded_list (op.the_row).coded)) (λ disk. (disk.stable, disk.pending))
    (λ parts. record { stable = parts.0; pending = parts.1 }) (λ _. refl)

abbrev pub held_code : Coded Held
held_code =
    code_by (Disk × ℕ) (coded× disk_code coded_ℕ) (λ held. (held.disk, held.room))
    (λ parts. record { disk = parts.0; room = parts.1 }) (λ _. refl)

-- the tree that calls see: the view, or the stable tree where there is none
abbrev pub shown : Tree → Option Shelf → Tree
shown stable None = stable
shown stable (Some shelf) = shelf.tree

-- for how many further operations there is memory
abbrev pub room_of : ℕ → Option Shelf → ℕ → ℕ → ℕ
room_of stable None waiting capacity = 0
room_of stable (Some shelf) waiting capacity = min shelf.room (min (stable - waiting) (capacity - waiting))

-- the view is the stable tree with the pending operations, for which the stable tree has room
pub record IsLayered (stable : Shelf) (view : Option Shelf) (pending : List Op) : Type 0 where
  pub few : length pending ≤ stable.room
  pub seen : shown stable.tree view ≡ applied stable.tree pending
