use Rattle.std.proofs.Common.{◌≡◌, take}
use Rattle.journal_model.specs.Machine.{log_of}
use Rattle.journal_model.proofs.user_map.surviving_changes.Given as goal

abbrev pub invariant-loop-entry : goal.invariant-loop-entry
invariant-loop-entry l = l.log.items ≡ log_of (take l.entry-index l.entries)
