use Rattle.sorted_map.proofs.Held.{nothing-held, nothing-aligned}
use Rattle.sorted_map.proofs.SortedMap.clear.Goals as goal

pub invariant_of-self : goal.invariant_of-self
invariant_of-self g c =
    nothing-aligned g.K.Ord.cmp c.clear.new.self.items c.clear-2.new.self.items
    c.clear.ensures.items c.clear-2.ensures.items

pub returns-clause-held : goal.returns-clause-held
returns-clause-held g c = nothing-held g.K.Ord.cmp _ c.clear-2.new.self.items c.clear.ensures.items
