-- What a write leaves, by its answer.
use Rattle.std.specs.Prelude.{◌≡◌, ℕ, List, Result, Ok, Err}
use Rattle.tree_model.specs.declared.device.DevFault.{DevFault}
use Rattle.tree_model.specs.declared.device.DevFault.TheVariants.{Failed, NoMemory}
use Rattle.tree_model.specs.declared.files.FileName.{FileName}
use Rattle.tree_model.specs.declared.places.Place.{Place}
use Rattle.tree_model.specs.declared.ops.Op.TheVariants.{Write}
use Rattle.tree_model.specs.Disk.{Disk, with_op}

-- a write that failed leaves any bytes, as a write of those
abbrev pub IsWritten : Disk → Disk → Place → FileName → List ℕ → Result (Unit {0}) DevFault → Type 0
IsWritten before after place file bytes (Ok done) = after ≡ with_op before (Write place file bytes)
IsWritten before after place file bytes (Err Failed) =
    (other : List ℕ) × (after ≡ with_op before (Write place file other))
IsWritten before after place file bytes (Err NoMemory) = after ≡ before
