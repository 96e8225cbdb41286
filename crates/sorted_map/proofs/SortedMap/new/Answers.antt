use Rattle.sorted_map.proofs.Held.{nothing-held}
use Rattle.sorted_map.proofs.SortedMap.new.Goals as goal

pub returns : goal.returns
returns g c = nothing-held g.K.Ord.cmp _ c.new-2.result.items c.new.ensures.items
