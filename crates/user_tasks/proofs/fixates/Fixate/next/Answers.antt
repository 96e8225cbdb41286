use Rattle.std.proofs.Common.{sym, subst}
use Rattle.user_tasks.specs.declared.tasks.UserTask.TheVariants.{Fixate as OfFixate}
use Rattle.user_tasks.specs.Tasks.{UserTurns}
use Rattle.user_tasks.proofs.Fixing.{goes-on, has-stopped}
use Rattle.user_tasks.proofs.FixateTurns.{drops-turn, sync-turn, fixed-turn, durable-turn}
use Rattle.user_tasks.proofs.fixates.Fixate.next.Goals as goal

pub returns-in-Some-clause-turn : goal.returns-in-Some-clause-turn
returns-in-Some-clause-turn c =
    let fixate = c.args.self.now in
    subst (UserTurns (OfFixate fixate) c.args.looks) (sym c.fixing.ensures)
    (drops-turn fixate c.if-self.false c.in-Some.doing (goes-on _ c.in-Some.ensures.ended) c.in-Some.ensures.turn
    c.args.looks)

pub returns-in-None-2-clause-turn : goal.returns-in-None-2-clause-turn
returns-in-None-2-clause-turn c =
    let fixate = c.args.self.now in
    subst (UserTurns (OfFixate fixate) c.args.looks) (sym c.quiet.ensures)
    (sync-turn fixate c.if-self.false (has-stopped _ c.in-None.ensures.ended) c.args.looks)

pub returns-then-self-clause-turn : goal.returns-then-self-clause-turn
returns-then-self-clause-turn c =
    let fixate = c.args.self.now in
    subst (UserTurns (OfFixate fixate) c.args.looks) (sym c.ending.ensures)
    (fixed-turn fixate c.if-self.true c.args.looks)

pub returns-in-None-clause-turn : goal.returns-in-None-clause-turn
returns-in-None-clause-turn c =
    let fixate = c.args.self.now in
    subst (UserTurns (OfFixate fixate) c.args.looks) (sym c.ending-in-None.ensures)
    (durable-turn fixate c.if-self.false (has-stopped _ c.in-None.ensures.ended) c.args.looks c.if-looks.true)
