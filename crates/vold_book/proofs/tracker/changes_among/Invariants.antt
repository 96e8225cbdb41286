use Rattle.std.proofs.Common.{◌≡◌, ◌≤◌, take}
use Rattle.vold_book.specs.Parts.{count_changes}
use Rattle.vold_book.proofs.tracker.changes_among.Given as goal

abbrev pub invariant-loop-change : goal.invariant-loop-change
invariant-loop-change l = record {
  count : l.count ≡ count_changes (take l.change-index l.pending);
  bound : l.count ≤ l.change-index;
}
