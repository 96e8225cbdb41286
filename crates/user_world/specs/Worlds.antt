-- The worlds of all users together, as one list of pending steps over one tree, and each user's share of it.
use Rattle.std.specs.Prelude.{◌≡◌, ℕ, ◌==◌, cond, List, [], ◌∷◌, ◌++◌, take}
use Rattle.tree_model.specs.declared.ops.Op.{Op}
use Rattle.tree_model.specs.declared.ops.Fill.{Fill}
use Rattle.tree_model.specs.Tree.{Tree, applied, after_op, kind_of}
use Rattle.tree_model.specs.Disk.{Disk, image}
use Rattle.tree_model.specs.Sites.{op_of}
use Rattle.tree_model.specs.Parts.{part_of}
use Rattle.journal_model.specs.declared.entries.Change.{Change}
use Rattle.user_world.specs.Changes.{change_of, changes_for, if_noted, noted_kind}
use Rattle.user_world.specs.OwnWorlds.{Step, OwnWorld}

-- a step with its user
pub record Owned : Type 0 where
  pub user : ℕ
  pub step : Step

pub record World : Type 0 where
  pub stable : Tree
  pub durable : List Change
  pub pending : List Owned

abbrev pub ops_of : List Owned → List Op
ops_of [] = []
ops_of (owned ∷ rest) = op_of owned.user owned.step.op ∷ ops_of rest

abbrev pub changes_of : List Owned → List Change
changes_of [] = []
changes_of (owned ∷ rest) = if_noted owned.step.note (change_of owned.user) (changes_of rest)

abbrev pub disk_of : World → Disk
disk_of world = record { stable = world.stable; pending = ops_of world.pending }

abbrev pub log_of : World → List Change
log_of world = world.durable ++ changes_of world.pending

-- one user's share
abbrev pub steps_of : ℕ → List Owned → List Step
steps_of user [] = []
steps_of user (owned ∷ rest) = cond (owned.user == user) (owned.step ∷ steps_of user rest) (steps_of user rest)

abbrev pub own : ℕ → World → OwnWorld
own user world = record {
  stable = part_of world.stable user;
  durable = changes_for user world.durable;
  pending = steps_of user world.pending;
}

-- each step makes the change that it notes
abbrev pub NotesFit : Tree → List Owned → Type 0
NotesFit tree [] = Unit {0}
NotesFit tree (owned ∷ rest) =
    let op = op_of owned.user owned.step.op in
    (kind_of tree op ≡ noted_kind owned.step.note) × NotesFit (after_op tree op) rest

-- one more step of a user's; everything stable; and what a stop leaves that keeps the first `keep` steps
abbrev pub with_owned : World → ℕ → Step → World
with_owned world user step = record world { pending = world.pending ++ (record { user = user; step = step }) ∷ [] }

abbrev pub settled_world : World → World
settled_world world = record {
  stable = applied world.stable (ops_of world.pending);
  durable = log_of world;
  pending = [];
}

abbrev pub stopped_world : World → ℕ → List Fill → World
stopped_world world keep fills = record {
  stable = image world.stable (ops_of (take keep world.pending)) fills;
  durable = world.durable ++ changes_of (take keep world.pending);
  pending = [];
}
