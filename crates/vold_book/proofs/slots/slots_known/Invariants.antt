-- So far the slots are those of the places before this one.
use Rattle.std.proofs.Common.{◌≡◌, take}
use Rattle.std.specs.List.{flat_map}
use Rattle.std.specs.FinMap as map
use Rattle.bench.specs.Slots.{slot_of}
use Rattle.vold_book.proofs.slots.slots_known.Given as goal

abbrev pub invariant-loop-place : goal.invariant-loop-place
invariant-loop-place l = record {
  keys : l.place-items ≡ map.keys l.table.places;
  found : l.slots.items ≡ flat_map (slot_of l.user) (take l.place-index l.place-items);
}
