use Rattle.std.proofs.Common.{◌≡◌, take}
use Rattle.tree_model.proofs.ops.Cut.duplicate.Given as goal

abbrev pub invariant-loop-fill : goal.invariant-loop-fill
invariant-loop-fill l = l.fills.items ≡ take l.fill-index l.fill-items
