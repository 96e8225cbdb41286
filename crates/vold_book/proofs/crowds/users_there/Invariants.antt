use Rattle.std.proofs.Common.{◌≡◌, ◌≤◌, length, take}
use Rattle.std.specs.List.{flat_map}
use Rattle.std.specs.FinMap as map
use Rattle.vold_book.specs.Crowds.{user_at}
use Rattle.vold_book.proofs.crowds.users_there.Given as goal

abbrev pub invariant-loop-place : goal.invariant-loop-place
invariant-loop-place l = record {
  keys : l.place-items ≡ map.keys (l.table.places);
  count : l.count ≡ length (flat_map user_at (take l.place-index l.place-items));
  bound : l.count ≤ l.place-index;
}
