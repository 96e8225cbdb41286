-- What the table knows of the tree, and that each call keeps it.
use Rattle.std.specs.Prelude.{◌≡◌, ℕ, Option, Result, Ok, Err}
use Rattle.std.specs.FinMap as map
use Rattle.tree_model.specs.declared.blobs.Blob.{Blob}
use Rattle.tree_model.specs.declared.memory.NoMemory.{NoMemory}
use Rattle.tree_model.specs.declared.places.Place.{Place}
use Rattle.tree_model.specs.declared.places.Place.TheVariants.{Temp}
use Rattle.tree_model.specs.declared.sites.LocalOp.{LocalOp}
use Rattle.tree_model.specs.Disk.{Disk, view, with_op}
use Rattle.tree_model.specs.Parts.{part_of, LocalFits}
use Rattle.tree_model.specs.Sites.{op_of}
use Rattle.tree_model.specs.Tree.{Tree}
use Rattle.step_core.specs.Table.{NamedPlaces}
use Rattle.task_turns.specs.declared.calls.Call.{Call}
use Rattle.task_turns.specs.declared.calls.Call.TheVariants.{Op, List as ListCall}
use Rattle.task_turns.specs.Names.{BringsBlob}
use Rattle.bench.specs.declared.made.Made.{Made}
use Rattle.bench.specs.declared.made.Made.TheVariants.{Heard, Failed}
use Rattle.bench.specs.Bench.{Plain, KnowsPlaces, named_in, places_after, Fits, IsMade}

abbrev pub IsTemporary : Place → Type 0
IsTemporary (Temp user) = Unit {0}
IsTemporary place = ⊥

-- all but the temporary places
abbrev pub IsLasting : Place → Type 0
IsLasting place = ¬ (IsTemporary place)

-- the known places are those of the tree, with the blob that each but the temporary ones names
pub record Knows (places : NamedPlaces) (tree : Tree) : Type 0 where
  pub there : KnowsPlaces places tree
  pub names : (place : Place) → IsLasting place → map.get places place ≡ named_in (map.get tree place)

abbrev pub KnowsTree : Plain → Type 0
KnowsTree bench = Knows bench.places (view bench.disk)

-- an operation that was done keeps what is known
abbrev pub LawOfKnownPlaces : Type 0
LawOfKnownPlaces = (places : NamedPlaces) (disk : Disk) (user : ℕ) (op : LocalOp) (names : Option Blob)
    → Knows places (view disk) → LocalFits (part_of (view disk) user) op
    → BringsBlob (part_of (view disk) user) op names
    → Knows (places_after places user op names) (view (with_op disk (op_of user op)))

-- what a call has to tell of the blob that its operation brings
abbrev pub BringsName : Plain → Call → Type 0
BringsName bench (Op user op names) = BringsBlob (part_of (view bench.disk) user) op names
BringsName bench call = Unit {0}

-- what is known still once a call was done: after a list the places alone
abbrev pub KnowsAfter : Plain → Call → Type 0
KnowsAfter bench ListCall = KnowsPlaces bench.places (view bench.disk)
KnowsAfter bench call = KnowsTree bench

-- and by the call's answer
abbrev pub StillKnows : Plain → Call → Result Made NoMemory → Type 0
StillKnows bench call (Ok (Heard answer)) = KnowsAfter bench call
StillKnows bench call (Ok (Failed device)) = KnowsTree bench
StillKnows bench call (Err want) = KnowsTree bench

-- each call keeps what is known, done or failed
abbrev pub LawOfKnownCalls : Type 0
LawOfKnownCalls = (before after : Plain) (call : Call) (told : Result Made NoMemory) → KnowsTree before
    → Fits before call → BringsName before call → IsMade before after call told
    → StillKnows after call told
