-- The text so far and that of the lines to come are the whole text.
use Rattle.std.proofs.Common.{◌≡◌, ◌++◌, drop}
use Rattle.script_text.specs.Script.{text_of}
use Rattle.script_text.proofs.script_lines.print_script.Given as goal

abbrev pub invariant-loop-line : goal.invariant-loop-line
invariant-loop-line l = l.out.items ++ text_of (drop l.line-index l.line-items) ≡ text_of l.line-items
