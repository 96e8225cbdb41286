-- A task holds the blobs that its facts speak of.
use Rattle.std.proofs.Common.{ℕ, List, []}
use Rattle.std.specs.Prelude.{Option, Some, None}
use Rattle.tree_model.specs.declared.blobs.Blob.{Blob}
use Rattle.tree_model.specs.declared.sites.Site.{Site}
use Rattle.keystore_model.proofs.Elements.{Contains-first}
use Rattle.store_task.specs.declared.stages.Stage.{Stage}
use Rattle.store_task.specs.declared.stages.Stage.TheVariants.{First, Tied, Generated, Storing}
use Rattle.store_task.specs.declared.stages.Progress.{Progress}
use Rattle.store_task.specs.declared.stages.Progress.TheVariants.{Absent, Made, Versioned, Discardable, Named, Keyed}
use Rattle.store_task.specs.declared.stages.Progress.TheVariants.{Settled, Stored}
use Rattle.store_task.specs.declared.turns.StoreSpec.{StoreSpec}
use Rattle.task_turns.specs.Shares.{IsHeld, AreHeld}
use Rattle.store_task.specs.Task.{places_at, facts_at, held_at, held_by, sealing}
use Rattle.store_task.specs.Laws.{LawOfHeldBlobs}

places-held : (held : List Blob) (target : Site) (discard : List ℕ) (blob : Option Blob) (sealed : List ℕ)
    (progress : Progress) → AreHeld held (places_at target discard blob sealed progress)
places-held held target discard blob sealed Absent = (tt, (tt, tt))
places-held held target discard blob sealed Made = (tt, (tt, tt))
places-held held target discard blob sealed Versioned = (tt, (tt, tt))
places-held held target discard blob sealed Discardable = (tt, (tt, tt))
places-held held target discard blob sealed Named = (tt, (tt, tt))
places-held held target discard blob sealed Keyed = (tt, (tt, tt))
places-held held target discard blob sealed Settled = (tt, (tt, (tt, (tt, tt))))
places-held held target discard blob sealed Stored = (tt, (tt, tt))

pub sealing-held : (spec : StoreSpec) (blob : Option Blob) (sealed : List ℕ)
    → IsHeld (held_by blob) (sealing spec blob sealed)
sealing-held spec None sealed = tt
sealing-held spec (Some blob) sealed = Contains-first blob []

facts-held : (spec : StoreSpec) (stage : Stage) → AreHeld (held_at stage) (facts_at spec stage)
facts-held spec First = (tt, (tt, tt))
facts-held spec (Tied app_id) = (tt, (tt, (tt, tt)))
facts-held spec (Generated app_id blob) = (tt, (Contains-first blob [], (tt, (tt, tt))))
facts-held spec (Storing blob sealed progress) =
    (sealing-held spec blob sealed, places-held (held_by blob) _ spec.discard blob sealed progress)

pub blobs-held : LawOfHeldBlobs
blobs-held task = facts-held task.spec task.stage
