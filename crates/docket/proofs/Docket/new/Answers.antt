use Rattle.docket.proofs.Queues.{queues-empty}
use Rattle.docket.proofs.Docket.new.Goals as goal

pub invariant_of-result : goal.invariant_of-result
invariant_of-result g c = queues-empty g.A.Ord.cmp _ _ c.new-2.ensures
