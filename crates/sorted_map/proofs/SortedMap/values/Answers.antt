use Rattle.std.proofs.Common.{sym, ap, ◌∙◌}
use Rattle.std.specs.FinMap as map
use Rattle.sorted_map.specs.Maps.{held}
use Rattle.sorted_map.proofs.Held.{values-held}
use Rattle.sorted_map.proofs.SortedMap.values.Goals as goal

pub returns : goal.returns
returns g c = c.as_slice.ensures.value ∙ sym (values-held c.self.invariant)
    ∙ ap (λ stored. map.values (held g.K.Ord.cmp stored)) c.self.view_is
