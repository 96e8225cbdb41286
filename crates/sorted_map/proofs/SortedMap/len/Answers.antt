use Rattle.std.proofs.Common.{sym, ap, ◌∙◌}
use Rattle.std.specs.FinMap as map
use Rattle.sorted_map.specs.Maps.{held}
use Rattle.sorted_map.proofs.Held.{len-held}
use Rattle.sorted_map.proofs.SortedMap.len.Goals as goal

pub returns : goal.returns
returns g c = c.len.ensures ∙ c.self.inside.keys.ok.0 ∙ sym (len-held c.self.invariant)
    ∙ ap (λ stored. map.len (held g.K.Ord.cmp stored)) c.self.view_is
