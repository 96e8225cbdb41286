use Rattle.std.proofs.Common.{◌≡◌, take}
use Rattle.sorted_map.specs.Rows.{keys}
use Rattle.journal_model.specs.Users.{next_number}
use Rattle.journal_model.proofs.user_map.is_full.Given as goal

abbrev pub invariant-loop-row : goal.invariant-loop-row
invariant-loop-row l = l.next ≡ next_number (keys (take l.row-index l.slots))
