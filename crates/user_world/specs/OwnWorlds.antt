-- One user's world: the user's part, the user's changes, and what of both is pending; and what stands there.
use Rattle.std.specs.Prelude.{◌≡◌, ℕ, List, [], ◌∷◌, ◌++◌, Option, None}
use Rattle.tree_model.specs.declared.sites.LocalOp.{LocalOp}
use Rattle.tree_model.specs.declared.ops.Fill.{Fill}
use Rattle.tree_model.specs.Parts.{Part, after_local, filled_local}
use Rattle.journal_model.specs.Users.{Record}
use Rattle.user_world.specs.declared.changes.LocalChange.{LocalChange}
use Rattle.user_world.specs.Changes.{known_through, if_noted, known_with}
use Rattle.user_world.specs.Meaning.{Meaning, PartStands}

-- a pending operation of one user, with the change that it makes
pub record Step : Type 0 where
  pub op : LocalOp
  pub note : Option LocalChange

-- an operation that makes no change
abbrev pub quiet : LocalOp → Step
quiet op = record { op = op; note = None }

-- a step as the device leaves it: a write that failed may have put other bytes
abbrev pub filled_step : Fill → Step → Step
filled_step fill step = record step { op = filled_local fill step.op }

-- the changes that steps make, in order
abbrev pub notes : List Step → List LocalChange
notes [] = []
notes (step ∷ steps) = if_noted step.note (λ change. change) (notes steps)

-- the part that is stable, the durable changes, and what is pending
pub record OwnWorld : Type 0 where
  pub stable : Part
  pub durable : List LocalChange
  pub pending : List Step

abbrev pub part_after : Part → List Step → Part
part_after part [] = part
part_after part (step ∷ steps) = part_after (after_local part step.op) steps

-- the part as calls see it, the changes so far, and what they make of the user's record
abbrev pub own_view : OwnWorld → Part
own_view own = part_after own.stable own.pending

abbrev pub own_log : OwnWorld → List LocalChange
own_log own = own.durable ++ notes own.pending

abbrev pub own_record : OwnWorld → Option Record
own_record own = known_through None (own_log own)

-- one more step; and everything stable
abbrev pub with_step : OwnWorld → Step → OwnWorld
with_step own step = record own { pending = own.pending ++ step ∷ [] }

abbrev pub settled : OwnWorld → OwnWorld
settled own = record { stable = own_view own; durable = own_log own; pending = [] }

-- some part that a stop can leave of the steps, each write with any bytes
abbrev pub IsOwnImage : Part → List Step → Part → Type 0
IsOwnImage part [] left = left ≡ part
IsOwnImage part (step ∷ steps) left =
    (fill : Fill) × IsOwnImage (after_local part (filled_local fill step.op)) steps left

-- the part stands for the record, and so on after each step, whatever bytes its write leaves
abbrev pub StandThrough : Meaning → ℕ → Part → Option Record → List Step → Type 0
StandThrough meaning user part known [] = PartStands meaning user part known
StandThrough meaning user part known (step ∷ steps) = PartStands meaning user part known
    × ((fill : Fill)
    → StandThrough meaning user (after_local part (filled_local fill step.op)) (known_with known step.note) steps)

-- every part that a stop can leave of the user's world stands for the user's record up to there
abbrev pub OwnImagesStand : Meaning → ℕ → OwnWorld → Type 0
OwnImagesStand meaning user own = StandThrough meaning user own.stable (known_through None own.durable) own.pending

-- the step keeps each part that a stop can leave of all the steps before it
pub record Keeps (meaning : Meaning) (user : ℕ) (own : OwnWorld) (step : Step) : Type 0 where
  pub keeps : (left : Part) (fill : Fill) → IsOwnImage own.stable own.pending left
      → PartStands meaning user left (own_record own)
      → PartStands meaning user (after_local left (filled_local fill step.op)) (known_with (own_record own) step.note)
