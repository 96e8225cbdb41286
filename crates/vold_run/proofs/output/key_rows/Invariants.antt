-- The rows so far are those of the first keys.
use Rattle.std.proofs.Common.{◌≡◌, map, take}
use Rattle.script_text.specs.Ring.{key_row}
use Rattle.vold_run.proofs.output.key_rows.Given as goal

abbrev pub invariant-loop-place : goal.invariant-loop-place
invariant-loop-place g l = l.rows.items ≡ take l.place (map key_row (g.G.KeyRing.ring l.fn.ring))
