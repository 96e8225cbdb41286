-- What a turn of a user's command is told beside what it rests on: what has to be cleared before a directory is made,
-- whether all is durable, and what is due.
use Rattle.std.specs.Prelude.{◌≡◌, ◌≢◌, true, List, Option, Some, None, IsSome, IfSome, Contains}
use Rattle.tree_model.specs.declared.blobs.Blob.{Blob}
use Rattle.tree_model.specs.declared.sites.Site.{Site}
use Rattle.tree_model.specs.declared.sites.Site.TheVariants.{De, Temp}
use Rattle.tree_model.specs.Named.{PartNames}
use Rattle.tree_model.specs.Parts.{Part}
use Rattle.user_world.specs.Facts.{Holds, Durable}
use Rattle.user_world.specs.OwnWorlds.{own_view}
use Rattle.task_turns.specs.Turns.{Scene}
use Rattle.user_tasks.specs.declared.looks.Looks.{Looks}

-- the temporary directory, and those of credential keys
abbrev pub IsInTheWay : Site → Type 0
IsInTheWay De = ⊥
IsInTheWay site = Unit {0}

-- a site that is in the way, the temporary one first, and none only where nothing is
abbrev pub IsNextToClear : Part → Option Site → Type 0
IsNextToClear view None = (site : Site) → IsInTheWay site → view site ≡ None
IsNextToClear view (Some site) = IsInTheWay site × IsSome (view site) × (site ≢ Temp → view Temp ≡ None)

-- what the turn is told is so: of what calls see of the user's part, of what is durable, and of what is due; and no
-- directory of the user's names what the command holds, nor what is due
pub record Finds (scene : Scene) (held : List Blob) (looks : Looks) : Type 0 where
  pub clear : IsNextToClear (own_view scene.share.own) looks.in_the_way
  pub unnamed : (blob : Blob) → Contains held blob → ¬ (PartNames (own_view scene.share.own) blob)
  pub durable : looks.durable ≡ true → Holds Durable scene.share.own
  pub due : scene.due ≡ looks.due
  pub spared : IfSome looks.due (λ item. ¬ (PartNames (own_view scene.share.own) item.blob))
