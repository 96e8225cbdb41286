-- So far the blobs are those that the places before this one name.
use Rattle.std.proofs.Common.{◌≡◌, take}
use Rattle.std.specs.FinMap as map
use Rattle.std.specs.List.{filter_map}
use Rattle.step_core.specs.Table.{named_by}
use Rattle.bench.proofs.unnamed.named_blobs.Given as goal

abbrev pub invariant-loop-place : goal.invariant-loop-place
invariant-loop-place l = record {
  listed : l.place-items ≡ map.keys l.table.places;
  found : l.named.items
      ≡ filter_map (λ place. named_by (map.get l.table.places place)) (take l.place-index l.place-items);
}
