-- Every tree that a stop can leave of a disk stands for a prefix of the changes.
use Rattle.std.specs.Prelude.{◌≡◌, ℕ, ◌+◌, ◌≤◌, List, length, take}
use Rattle.tree_model.specs.Tree.{Tree, changes_in}
use Rattle.tree_model.specs.Disk.{Disk, IsImage}
use Rattle.journal_model.specs.declared.entries.Change.{Change}
use Rattle.journal_model.specs.Users.{fold_changes}
use Rattle.user_world.specs.Meaning.{Meaning, StandsFor}

-- the first `kept` changes of the log are durable, each other one is pending, and whatever front of the pending
-- operations a stop keeps, with whatever bytes in their writes, stands for the changes up to there
pub record ImagesStand (meaning : Meaning) (disk : Disk) (kept : ℕ) (log : List Change) : Type 0 where
  pub counted : length log ≡ kept + changes_in disk.stable disk.pending
  pub stands : (keep : ℕ) (left : Tree) → keep ≤ length disk.pending
      → IsImage disk.stable (take keep disk.pending) left
      → StandsFor meaning left (fold_changes (take (kept + changes_in disk.stable (take keep disk.pending)) log))
