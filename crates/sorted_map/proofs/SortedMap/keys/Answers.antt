use Rattle.std.proofs.Common.{sym, ap, ◌∙◌}
use Rattle.std.specs.FinMap as map
use Rattle.sorted_map.specs.Maps.{held}
use Rattle.sorted_map.proofs.Held.{keys-held}
use Rattle.sorted_map.proofs.SortedMap.keys.Goals as goal

pub returns : goal.returns
returns g c = c.as_slice.ensures.value ∙ sym (keys-held c.self.invariant)
    ∙ ap (λ stored. map.keys (held g.K.Ord.cmp stored)) c.self.view_is
