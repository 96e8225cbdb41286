use Rattle.std.proofs.Common.{◌≡◌, ◌≤◌, length, take}
use Rattle.std.specs.List.{flat_map}
use Rattle.std.specs.FinMap as map
use Rattle.journal_model.specs.Users.{next_number}
use Rattle.bench.specs.Slots.{slot_of}
use Rattle.vold_book.proofs.slots.numbering.Given as goal

abbrev pub invariant-loop-place : goal.invariant-loop-place
invariant-loop-place l = record {
  keys : l.place-items ≡ map.keys (l.table.places);
  count : l.count ≡ length (flat_map (slot_of l.user) (take l.place-index l.place-items));
  next : l.next ≡ next_number (flat_map (slot_of l.user) (take l.place-index l.place-items));
  bound : l.count ≤ l.place-index;
}
