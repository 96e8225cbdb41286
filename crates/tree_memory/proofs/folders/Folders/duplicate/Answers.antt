use Rattle.std.proofs.Common.{◌≡◌, sym, ap, ◌∙◌, subst, arith}
use Rattle.std.specs.List.{zip}
use Rattle.std.proofs.lemmas.List.{take_all}
use Rattle.std.specs.FinMap as map
use Rattle.tree_model.specs.Order.{place_cmp}
use Rattle.sorted_map.specs.Maps.{held}
use Rattle.sorted_map.specs.Rows.{IsAligned}
use Rattle.sorted_map.proofs.Maps.{aligned-columns, from-columns}
use Rattle.tree_memory.proofs.folders.Folders.duplicate.Goals as goal

pub from_vectors-requires : goal.from_vectors-requires
from_vectors-requires c =
    let tree = held place_cmp c.self.inside.dirs in
    let places : c.in_ok-places.places.items ≡ map.keys tree = c.in_ok-places.ensures.items ∙ c.keys.ensures in
    let dirs : c.loop-dir.dirs.items ≡ map.values tree = c.loop-dir.invariant
    ∙ take_all c.loop-dir.dir-index c.values-dir-items.result.now (omega arith) ∙ c.values-dir-items.ensures in
    subst (λ vs. IsAligned place_cmp c.in_ok-places.places.items vs) (sym dirs)
    (subst (λ ks. IsAligned place_cmp ks (map.values tree)) (sym places) (aligned-columns tree))

pub returns : goal.returns
returns c =
    let tree = held place_cmp c.self.inside.dirs in
    let places : c.in_ok-places.places.items ≡ map.keys tree = c.in_ok-places.ensures.items ∙ c.keys.ensures in
    let dirs : c.loop-dir.dirs.items ≡ map.values tree = c.loop-dir.invariant
    ∙ take_all c.loop-dir.dir-index c.values-dir-items.result.now (omega arith) ∙ c.values-dir-items.ensures in
    c.from_vectors.ensures ∙ ap (map.from_sorted {R = place_cmp}) (λ i. zip (places i) (dirs i)) ∙ from-columns tree
    ∙ ap (λ shelf. shelf.tree) c.self.view_is
