use Rattle.std.proofs.Common.{◌≡◌, take}
use Rattle.std.specs.FinMap as map
use Rattle.vold_book.specs.Slots.{slots_in}
use Rattle.vold_book.proofs.slots.slots_of.Given as goal

abbrev pub invariant-loop-place : goal.invariant-loop-place
invariant-loop-place l = record {
  keys : l.place-items ≡ map.keys (l.table.places);
  found : l.slots.items ≡ slots_in l.table.places l.user l.secret (take l.place-index l.place-items);
}
