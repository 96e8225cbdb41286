-- The faults so far are planned.
use Rattle.std.proofs.Common.{take}
use Rattle.vold_cases.specs.Played.{IsPlannedRing}
use Rattle.vold_cases.proofs.playing.planned_ring.Given as goal

abbrev pub invariant-loop-fault : goal.invariant-loop-fault
invariant-loop-fault l = IsPlannedRing (take l.fault-index l.faults) l.ring
