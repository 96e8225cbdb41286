-- The text so far and the lines of the entries to come are the whole text.
use Rattle.std.proofs.Common.{◌≡◌, ◌++◌, drop}
use Rattle.std.specs.List.{flat_map}
use Rattle.script_text.specs.Keystore.{row_line, keystore_section}
use Rattle.script_text.proofs.keystore_lines.print_keystore.Given as goal

abbrev pub invariant-loop-row : goal.invariant-loop-row
invariant-loop-row l =
    l.out.items ++ flat_map row_line (drop l.row-index l.entries) ≡ keystore_section l.fn.level l.entries
