use Rattle.std.proofs.Common.{ap, ◌∙◌}
use Rattle.std.specs.Prelude.{Some, map as map_list}
use Rattle.std.specs.Ordering.{nat_cmp}
use Rattle.std.specs.FinMap as map
use Rattle.sorted_map.proofs.Maps.{entries-empty}
use Rattle.call_counter.proofs.counter.Counter.new.Goals as goal

pub returns : goal.returns
returns c = ap (λ keys. record { calls = 0; faults = 0; plan = Some keys })
    (ap map.keys c.new.ensures ∙ ap (map_list (λ entry. entry.0)) (entries-empty nat_cmp))
