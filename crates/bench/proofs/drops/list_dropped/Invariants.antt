-- So far the list has the blobs before this one.
use Rattle.std.proofs.Common.{◌≡◌, false, take}
use Rattle.blob_custody.specs.Steps.{pushed_all}
use Rattle.bench.proofs.drops.list_dropped.Given as goal

abbrev pub invariant-loop-blob : goal.invariant-loop-blob
invariant-loop-blob l = l.list ≡ pushed_all l.fn.list (take l.blob-index l.blobs) false
