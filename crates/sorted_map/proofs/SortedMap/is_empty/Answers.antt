use Rattle.std.proofs.Common.{◌≡◌, subst}
use Rattle.std.specs.Prelude.{IsTrue, ◌↔◌}
use Rattle.std.specs.FinMap as map
use Rattle.sorted_map.specs.Maps.{held}
use Rattle.sorted_map.proofs.Held.{empty-held}
use Rattle.sorted_map.proofs.SortedMap.is_empty.Goals as goal

pub returns : goal.returns
returns g c = subst (λ stored. IsTrue c.is_empty.result ↔ (held g.K.Ord.cmp stored ≡ map.empty)) c.self.view_is
    (empty-held c.self.invariant _ c.self.inside.keys.ok.0 _ c.is_empty.ensures)
