use Rattle.std.proofs.Common.{◌∙◌, ap, arith}
use Rattle.std.proofs.lemmas.Grind.{common_steps}
use Rattle.std.proofs.lemmas.List.{take_all}
use Rattle.std.proofs.lemmas.List.Elements.{filter_map-append}
use Rattle.bench.proofs.Named.{are-named, named_among}
use Rattle.bench.proofs.unnamed.named_blobs.Goals as goal
use Rattle.bench.proofs.unnamed.named_blobs.Goals.{in-Some+in_ok-push, in_default}

pub loop-place-preserved : goal.loop-place-preserved
loop-place-preserved c = record {
  listed = c.loop-place.invariant.listed;
  found = elim c.match-named.branch [
    | in-Some+in_ok-push w ↦ grind (arith, common_steps, filter_map-append)
    | in_default w ↦ grind (arith, common_steps, filter_map-append)
  ];
}

pub returns : goal.returns
returns c =
    are-named c.args.table.now.places c.loop-place.named.items c.sort_unstable.new.self.items
    (c.loop-place.invariant.found ∙ ap (named_among c.args.table.now.places)
    (take_all c.loop-place.place-index c.places-place-items.result.now c.loop-place-test.false
    ∙ c.loop-place.invariant.listed))
    c.sort_unstable.ensures.permutation c.sort_unstable.ensures.sorted
