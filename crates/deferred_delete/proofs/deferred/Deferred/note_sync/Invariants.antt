use Rattle.std.proofs.Common.{◌≡◌, ◌++◌, take, drop}
use Rattle.deferred_delete.specs.Deferral.{noted}
use Rattle.deferred_delete.proofs.deferred.Deferred.note_sync.Given as goal

abbrev pub invariant-loop-item : goal.invariant-loop-item
invariant-loop-item l = l.item-items ≡ noted (take l.item-index l.fn.self.items) ++ drop l.item-index l.fn.self.items
