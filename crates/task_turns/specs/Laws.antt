-- The law of a task between two of its turns.
use Rattle.std.specs.Prelude.{List}
use Rattle.tree_model.specs.declared.blobs.Blob.{Blob}
use Rattle.task_turns.specs.Shares.{Share, ShareFact, AllHas, LaterShare, AreHeld}

-- facts last where the blobs that they speak of are held
abbrev pub LawOfLasting : Type 0
LawOfLasting = (facts : List ShareFact) (held : List Blob) (before after : Share) → LaterShare held before after
    → AreHeld held facts → AllHas facts before → AllHas facts after
