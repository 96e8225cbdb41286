use Rattle.std.proofs.Common.{subst}
use Rattle.std.specs.Prelude.{IfSome}
use Rattle.std.specs.List.Sorted.{IsStrictlyIncreasing}
use Rattle.call_counter.proofs.Planned.{planned-rise}
use Rattle.call_counter.proofs.counter.Counter.left.Goals as goal

pub returns-clause-once : goal.returns-clause-once
returns-clause-once c = subst (λ counts. IfSome counts.plan IsStrictlyIncreasing) c.self.view_is (planned-rise _)
