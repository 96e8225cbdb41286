use Rattle.docket.proofs.Queues.{queues-dropped}
use Rattle.docket.proofs.Docket.begin.Goals as goal

pub invariant_of-self-2 : goal.invariant_of-self-2
invariant_of-self-2 g c = queues-dropped g.met.A.Ord.total g.met.A.ExactOrd.exact _ _ _ c.args.actor
    c.take_first-number.result c.self.invariant c.take_first-number.ensures
