-- The text so far and the lines of the keys to come are the whole text.
use Rattle.std.proofs.Common.{◌≡◌, ◌++◌, drop}
use Rattle.std.specs.List.{flat_map}
use Rattle.script_text.specs.Ring.{key_line, ring_section}
use Rattle.script_text.proofs.ring_lines.print_ring.Given as goal

abbrev pub invariant-loop-row : goal.invariant-loop-row
invariant-loop-row l = l.out.items ++ flat_map key_line (drop l.row-index l.keys) ≡ ring_section l.keys
