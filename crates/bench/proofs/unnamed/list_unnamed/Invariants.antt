-- So far the list has the blobs of the rows before this one that aren't named.
use Rattle.std.proofs.Common.{◌≡◌, take}
use Rattle.bench.specs.Steps.{with_rows}
use Rattle.bench.proofs.unnamed.list_unnamed.Given as goal

abbrev pub invariant-loop-blob : goal.invariant-loop-blob
invariant-loop-blob l = l.list ≡ with_rows l.fn.list l.named (take l.blob-index l.rows)
