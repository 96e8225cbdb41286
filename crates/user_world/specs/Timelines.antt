-- A disk with its log of changes, which shows one world of all users: each pending operation with its user, and the
-- changes past the durable ones dealt out to the operations that make one.
use Rattle.std.specs.Prelude.{◌≡◌, ◌≢◌, ℕ, ◌+◌, min, List, [], ◌∷◌, ◌++◌, length, take, drop, Option, Some, None}
use Rattle.tree_model.specs.declared.ops.Op.{Op}
use Rattle.tree_model.specs.declared.ops.Fill.{Fill}
use Rattle.tree_model.specs.Tree.{Tree, Kind, after_op, kind_of, changes_in}
use Rattle.tree_model.specs.Disk.{Disk, with_op, synced, stopped}
use Rattle.tree_model.specs.Sites.{op_of, user_of_op, local_op}
use Rattle.journal_model.specs.declared.entries.Change.{Change}
use Rattle.user_world.specs.declared.changes.LocalChange.{LocalChange}
use Rattle.user_world.specs.Changes.{change_of, local_of, if_noted}
use Rattle.user_world.specs.Meaning.{Meaning}
use Rattle.user_world.specs.OwnWorlds.{Step, OwnWorld, OwnImagesStand}
use Rattle.user_world.specs.Worlds.{Owned, World, disk_of, log_of, own, NotesFit}
use Rattle.user_world.specs.Facts.{Fact, AllHold, Later}

-- the disk, the changes that were made on it, and how many of them are durable
pub record Timeline : Type 0 where
  pub disk : Disk
  pub kept : ℕ
  pub log : List Change

abbrev pub owned_op : Op → Option LocalChange → Owned
owned_op op note = record { user = user_of_op op; step = record { op = local_op op; note = note } }

abbrev pub dealt : Option Kind → Op → List Change → (List Change → List Owned) → List Owned
dealt None op changes rest = owned_op op None ∷ rest changes
dealt (Some kind) op [] rest = owned_op op None ∷ rest []
dealt (Some kind) op (change ∷ changes) rest = owned_op op (Some (local_of change)) ∷ rest changes

abbrev pub owned_ops : Tree → List Op → List Change → List Owned
owned_ops tree [] changes = []
owned_ops tree (op ∷ ops) changes = dealt (kind_of tree op) op changes (λ left. owned_ops (after_op tree op) ops left)

abbrev pub world_of : Timeline → World
world_of line = record {
  stable = line.disk.stable;
  durable = take line.kept line.log;
  pending = owned_ops line.disk.stable line.disk.pending (drop line.kept line.log);
}

-- the world is that of the timeline: every pending operation is of one user, and the changes past the durable ones are
-- what the operations make, in order
pub record IsWorldOf (world : World) (line : Timeline) : Type 0 where
  pub is_disk : line.disk ≡ disk_of world
  pub is_log : line.log ≡ log_of world
  pub is_kept : line.kept ≡ length world.durable
  pub fit : NotesFit world.stable world.pending

-- the user's world
abbrev pub own_of : ℕ → Timeline → OwnWorld
own_of user line = own user (world_of line)

-- the world is that of the timeline, and in each user's every image stands
pub record WorldStands (meaning : Meaning) (world : World) (line : Timeline) : Type 0 where
  pub shows : IsWorldOf world line
  pub images : (user : ℕ) → OwnImagesStand meaning user (own user world)

abbrev pub OwnWorldsStand : Meaning → Timeline → Type 0
OwnWorldsStand meaning line = WorldStands meaning (world_of line) line

-- one more step of a user's; everything durable; what a stop leaves; and a tree with nothing pending
abbrev pub line_with : Timeline → ℕ → Step → Timeline
line_with line user step = record line {
  disk = with_op line.disk (op_of user step.op);
  log = line.log ++ if_noted step.note (change_of user) [];
}

abbrev pub settled_line : Timeline → Timeline
settled_line line = record line { disk = synced line.disk; kept = length line.log }

abbrev pub survivors : Timeline → ℕ → ℕ
survivors line keep =
    line.kept + changes_in line.disk.stable (take (min keep (length line.disk.pending)) line.disk.pending)

abbrev pub stopped_line : Timeline → ℕ → List Fill → Timeline
stopped_line line keep fills = record {
  disk = stopped line.disk keep fills;
  kept = survivors line keep;
  log = take (survivors line keep) line.log;
}

abbrev pub still_line : Tree → List Change → Timeline
still_line tree log = record { disk = record { stable = tree; pending = [] }; kept = length log; log = log }

-- a turn of a user's leads from one timeline to another: all stands, the user's next facts hold, and the other users'
-- worlds stay or are settled
pub record LeadsTo (meaning : Meaning) (user : ℕ) (next : List Fact) (before after : Timeline) : Type 0 where
  pub stands : OwnWorldsStand meaning after
  pub rests : AllHold next (own_of user after)
  pub others : (other : ℕ) → other ≢ user → Later (own_of other before) (own_of other after)
