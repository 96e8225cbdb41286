-- The laws of a task that stores a directory: it holds what its facts speak of, and its directory opens once it was
-- synced.
use Rattle.std.specs.Prelude.{◌≡◌, ℕ, List, Option, Some}
use Rattle.tree_model.specs.declared.blobs.Blob.{Blob}
use Rattle.tree_model.specs.declared.sites.Site.TheVariants.{Temp}
use Rattle.tree_model.specs.Dir.{Files}
use Rattle.tree_model.specs.Held.{held_in}
use Rattle.tree_model.specs.Named.{named_at}
use Rattle.tree_model.specs.Parts.{Part}
use Rattle.user_world.specs.OwnWorlds.{IsOwnImage}
use Rattle.key_directory.specs.Opens.{opens}
use Rattle.key_directory.specs.Vaults.{NamesOwn}
use Rattle.store_task.specs.declared.stages.Stage.TheVariants.{Storing}
use Rattle.store_task.specs.declared.stages.Progress.TheVariants.{Settled}
use Rattle.task_turns.specs.Shares.{Share, AllHas, AreHeld}
use Rattle.store_task.specs.Task.{Task, IsTask, IsBoundBy, all_files, facts_of, held_of}

-- a task holds the blobs that its facts speak of
abbrev pub LawOfHeldBlobs : Type 0
LawOfHeldBlobs = (task : Task) → AreHeld (held_of task) (facts_of task)

-- the temporary directory of a part is these files, which open with the task's secret to its key, and name the blob,
-- whose entry has the task's tag; there is a blob exactly where the secret is empty
pub record IsStoredIn (task : Task) (share : Share) (blob : Option Blob) (files : Files) (left : Part) : Type 0 where
  pub there : left Temp ≡ Some files
  pub opens_to : opens share.vault.entries share.vault.level (held_in files) task.spec.secret ≡ Some task.spec.key
  pub bound : IsBoundBy task.spec.secret blob
  pub names : named_at (Some files) ≡ blob
  pub own : NamesOwn share.vault task.spec.tag (Some files)

-- once the directory was synced, every part that a stop can leave has it
abbrev pub LawOfStoredDirectory : Type 0
LawOfStoredDirectory =
    (task : Task) (share : Share) (blob : Option Blob) (sealed : List ℕ) → IsTask task
    → task.stage ≡ Storing blob sealed Settled → AllHas (facts_of task) share
    → (left : Part) → IsOwnImage share.own.stable share.own.pending left
    → IsStoredIn task share blob (all_files task.spec.discard blob sealed) left
