-- So far the blobs are those that the user's places before this one name.
use Rattle.std.proofs.Common.{◌≡◌, take}
use Rattle.std.specs.Prelude.{flat_map}
use Rattle.std.specs.FinMap as map
use Rattle.bench.proofs.Dropped.{named_of}
use Rattle.bench.proofs.drops.names_of_user.Given as goal

abbrev pub invariant-loop-place : goal.invariant-loop-place
invariant-loop-place l = record {
  listed : l.place-items ≡ map.keys l.table.places;
  found : l.found.items ≡ flat_map (named_of l.table.places l.user) (take l.place-index l.place-items);
}
