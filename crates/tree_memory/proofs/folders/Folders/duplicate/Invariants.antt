use Rattle.std.proofs.Common.{◌≡◌, take}
use Rattle.tree_memory.proofs.folders.Folders.duplicate.Given as goal

abbrev pub invariant-loop-dir : goal.invariant-loop-dir
invariant-loop-dir l = l.dirs.items ≡ take l.dir-index l.dir-items
