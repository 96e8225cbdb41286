use Rattle.std.proofs.Common.{◌≡◌, take}
use Rattle.journal_model.specs.Users.{fold_changes}
use Rattle.journal_model.proofs.user_map.fold.Given as goal

abbrev pub invariant-loop-change : goal.invariant-loop-change
invariant-loop-change l = l.users ≡ fold_changes (take l.change-index l.change-items)
