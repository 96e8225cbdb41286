-- The faults so far are planned.
use Rattle.std.proofs.Common.{take}
use Rattle.vold_cases.specs.Played.{IsPlannedTree}
use Rattle.vold_cases.proofs.playing.planned_tree.Given as goal

abbrev pub invariant-loop-fault : goal.invariant-loop-fault
invariant-loop-fault l = IsPlannedTree (take l.fault-index l.faults) l.tree
