use Rattle.std.proofs.Common.{◌<◌, length, subst}
use Rattle.docket.proofs.Queues.{first-within}
use Rattle.docket.proofs.Docket.first.Goals as goal

pub returns-clause-within : goal.returns-clause-within
returns-clause-within g c = subst (λ docket. c.first.result < length docket.commands) c.self.view_is
    (first-within _ c.first.result _ (c.self.invariant c.args.actor) c.first.ensures)
