-- The lines so far may be a script, and their text and the rest are the bytes.
use Rattle.std.proofs.Common.{◌≡◌, ◌++◌, length}
use Rattle.script_text.specs.Script.{IsPlaced, text_of}
use Rattle.script_text.proofs.script.read_script.Given as goal

abbrev pub invariant-loop-rest : goal.invariant-loop-rest
invariant-loop-rest l = record { placed : IsPlaced l.lines.items; read : l.fn.bytes ≡ text_of l.lines.items ++ l.rest }

abbrev pub decreases-loop-rest : goal.decreases-loop-rest
decreases-loop-rest l = length l.rest
