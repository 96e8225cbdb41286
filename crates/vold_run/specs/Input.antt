-- What a run is told to do: its words, and the script that it reads.
use Rattle.std.specs.Prelude.{◌≡◌, ℕ, ◌<◌, ◌≤◌, ◌⊎◌, List, [], ◌∷◌, length, codes, Option, Result, Ok, Err}
use Rattle.std.specs.Io.KnownBytes.{prepend_known, IsAtEnd}
use Rattle.tree_model.specs.Counted.{Rose}
use Rattle.script_text.specs.declared.script.Line.{Line}
use Rattle.script_text.specs.declared.status.Status.{Status}
use Rattle.script_text.specs.declared.status.Status.TheVariants.{Done, Usage, BadScript}
use Rattle.script_text.specs.declared.status.Status.TheVariants.{ReadFault, WriteFault, NoMemory}
use Rattle.script_text.specs.Script.{IsScript, IsNoScript}

-- the one word that is accepted
abbrev pub IsAccepted : List (List ℕ) → Type 0
IsAccepted words = words ≡ codes "run" ∷ []

-- the most bytes that a script has
abbrev pub most_bytes : ℕ
most_bytes = 1048576

-- these bytes came of a source, which told them first; it ended with them where they are not too many
pub record Came (before after : Option (List ℕ)) (bytes : List ℕ) : Type 0 where
  pub taken : before ≡ prepend_known bytes after
  pub ended : length bytes ≤ most_bytes → IsAtEnd after

-- too many bytes, or the text of no script
abbrev pub IsRefused : List ℕ → Type 0
IsRefused bytes = (most_bytes < length bytes) ⊎ IsNoScript bytes

-- what came of a source is refused
pub record RefusedCame (before after : Option (List ℕ)) : Type 0 where
  pub bytes : List ℕ
  pub came : Came before after bytes
  pub refused : IsRefused bytes

-- a source was read to its end, and what came is the text of these lines
pub record ScriptCame (before after : Option (List ℕ)) (lines : List Line) : Type 0 where
  pub bytes : List ℕ
  pub taken : before ≡ prepend_known bytes after
  pub ended : IsAtEnd after
  pub few : length bytes ≤ most_bytes
  pub script : IsScript bytes lines

-- a source was read to its end, and what came is the text of a script
abbrev pub SomeScriptCame : (before after : Option (List ℕ)) → Type 0
SomeScriptCame before after = (lines : List Line) × ScriptCame before after lines

-- why there are no lines to do: the words, a fault of the source, or what came
abbrev pub IsCause : List (List ℕ) → Option (List ℕ) → Option (List ℕ) → ℕ → ℕ → Status → Type 0
IsCause words before after faults faults' Usage = ¬ (IsAccepted words)
IsCause words before after faults faults' ReadFault = IsAccepted words × Rose faults faults'
IsCause words before after faults faults' BadScript = IsAccepted words × (faults' ≡ faults) × RefusedCame before after
IsCause words before after faults faults' NoMemory = IsAccepted words
IsCause words before after faults faults' Done = ⊥
IsCause words before after faults faults' WriteFault = ⊥

-- what bytes are read as: a script, none where they are refused, or nothing where memory ran out
abbrev pub IsReading : List ℕ → Result (List Line) Status → Type 0
IsReading bytes (Ok lines) = (length bytes ≤ most_bytes) × IsScript bytes lines
IsReading bytes (Err status) = ((status ≡ BadScript) × IsRefused bytes) ⊎ (status ≡ NoMemory)
