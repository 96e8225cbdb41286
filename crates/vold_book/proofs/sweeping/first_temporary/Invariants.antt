use Rattle.std.proofs.Common.{◌≡◌, take}
use Rattle.std.specs.FinMap as map
use Rattle.vold_book.specs.Sweeping.{IsTemporary}
use Rattle.vold_book.proofs.Left.{NoneIn}
use Rattle.vold_book.proofs.sweeping.first_temporary.Given as goal

abbrev pub invariant-loop-place : goal.invariant-loop-place
invariant-loop-place l = record {
  keys : l.place-items ≡ map.keys (l.table.places);
  none : NoneIn IsTemporary (take l.place-index l.place-items);
}
