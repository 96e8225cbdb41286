use Rattle.std.proofs.Common.{◌≡◌, take}
use Rattle.std.specs.FinMap as map
use Rattle.vold_book.specs.Sweeping.{IsDebris}
use Rattle.vold_book.proofs.Left.{NoneIn}
use Rattle.vold_book.proofs.sweeping.first_debris.Given as goal

abbrev pub invariant-loop-place : goal.invariant-loop-place
invariant-loop-place l = record {
  keys : l.place-items ≡ map.keys (l.table.places);
  none : NoneIn (IsDebris (l.table.places)) (take l.place-index l.place-items);
}
