-- The temporary directory is as far as the task has written it.
use Rattle.std.proofs.Common.{◌≡◌, ℕ, List}
use Rattle.std.specs.Prelude.{Option}
use Rattle.tree_model.specs.declared.blobs.Blob.{Blob}
use Rattle.tree_model.specs.declared.sites.Site.{Site}
use Rattle.tree_model.specs.declared.sites.Site.TheVariants.{Temp}
use Rattle.user_world.specs.OwnWorlds.{own_view}
use Rattle.task_turns.specs.Shares.{Share, AllHas}
use Rattle.store_task.specs.declared.stages.Stage.{Stage}
use Rattle.store_task.specs.declared.stages.Stage.TheVariants.{First, Tied, Generated, Storing}
use Rattle.store_task.specs.declared.stages.Progress.{Progress}
use Rattle.store_task.specs.declared.stages.Progress.TheVariants.{Absent, Made, Versioned, Discardable, Named, Keyed}
use Rattle.store_task.specs.declared.stages.Progress.TheVariants.{Settled, Stored}
use Rattle.store_task.specs.declared.turns.StoreSpec.{StoreSpec}
use Rattle.store_task.specs.Task.{Task, places_at, facts_at, facts_of, temp_in, temp_at, temp_of}

module _ (share : Share) where
  temp-placed : (target : Site) (discard : List ℕ) (blob : Option Blob) (sealed : List ℕ) (progress : Progress)
      → AllHas (places_at target discard blob sealed progress) share
      → own_view share.own Temp ≡ temp_in discard blob sealed progress
  temp-placed target discard blob sealed Absent has = has.0
  temp-placed target discard blob sealed Made has = has.0
  temp-placed target discard blob sealed Versioned has = has.0
  temp-placed target discard blob sealed Discardable has = has.0
  temp-placed target discard blob sealed Named has = has.0
  temp-placed target discard blob sealed Keyed has = has.0
  temp-placed target discard blob sealed Settled has = has.1.1.0
  temp-placed target discard blob sealed Stored has = has.0

  temp-staged : (spec : StoreSpec) (stage : Stage) → AllHas (facts_at spec stage) share
      → own_view share.own Temp ≡ temp_at spec.discard stage
  temp-staged spec First has = has.0
  temp-staged spec (Tied app_id) has = has.1.0
  temp-staged spec (Generated app_id blob) has = has.1.1.0
  temp-staged spec (Storing blob sealed progress) has = temp-placed _ spec.discard blob sealed progress has.1

  pub temp-written : (task : Task) → AllHas (facts_of task) share → own_view share.own Temp ≡ temp_of task
  temp-written task has = temp-staged task.spec task.stage has
