-- The rows so far are those of the first entries.
use Rattle.std.proofs.Common.{◌≡◌, map, take}
use Rattle.script_text.specs.Keystore.{row_of}
use Rattle.vold_run.proofs.output.rows_of.Given as goal

abbrev pub invariant-loop-blob : goal.invariant-loop-blob
invariant-loop-blob g l = l.rows.items ≡ take l.blob-index (map row_of (g.B.Keystore.store l.fn.store).entries)
