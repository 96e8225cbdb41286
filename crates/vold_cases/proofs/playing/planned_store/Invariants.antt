-- The faults so far are planned.
use Rattle.std.proofs.Common.{take}
use Rattle.vold_cases.specs.Played.{IsPlannedStore}
use Rattle.vold_cases.proofs.playing.planned_store.Given as goal

abbrev pub invariant-loop-fault : goal.invariant-loop-fault
invariant-loop-fault l = IsPlannedStore (take l.fault-index l.faults) l.store
