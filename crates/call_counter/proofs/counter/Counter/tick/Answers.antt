use Rattle.std.proofs.Common.{subst}
use Rattle.std.specs.Prelude.{IfSome, IsTrue, Contains, ◌↔◌}
use Rattle.std.specs.Ordering.{nat_cmp}
use Rattle.sorted_map.specs.Maps.{held}
use Rattle.call_counter.proofs.Planned.{found-planned}
use Rattle.call_counter.proofs.counter.Counter.tick.Goals as goal

pub returns-then-fails-clause-planned : goal.returns-then-fails-clause-planned
returns-then-fails-clause-planned c =
    let call = c.saturating_add-self-inside.result in
    let is = found-planned (held nat_cmp c.self.inside.planned) call in
    let tells = c.contains_key-fails.ensures in
    subst (λ counts. IfSome counts.plan (λ planned. IsTrue c.contains_key-fails.result ↔ Contains planned call))
    c.self.view_is (λ fails. is.0 (tells.0 fails), λ planned. tells.1 (is.1 planned))

pub returns-else-fails-clause-planned : goal.returns-else-fails-clause-planned
returns-else-fails-clause-planned c =
    let call = c.saturating_add-self-inside.result in
    let is = found-planned (held nat_cmp c.self.inside.planned) call in
    let tells = c.contains_key-fails.ensures in
    subst (λ counts. IfSome counts.plan (λ planned. IsTrue c.contains_key-fails.result ↔ Contains planned call))
    c.self.view_is (λ fails. is.0 (tells.0 fails), λ planned. tells.1 (is.1 planned))
