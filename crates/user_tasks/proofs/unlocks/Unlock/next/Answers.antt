use Rattle.std.proofs.Common.{ap, subst, sym, ◌∙◌}
use Rattle.open_task.specs.Turns.{OpenTurns}
use Rattle.user_tasks.specs.declared.tasks.UserTask.TheVariants.{Unlock as OfUnlock}
use Rattle.user_tasks.specs.Tasks.{UserTurns}
use Rattle.user_tasks.specs.Turns.{opening_turn, fixing_turn}
use Rattle.user_tasks.specs.Unlock.{adding_turn}
use Rattle.user_tasks.proofs.Fixing.{goes-on, has-stopped}
use Rattle.user_tasks.proofs.UnlockTurns.{opens-turn, refuses-turn, drops-turn, sync-turn, adds-durable, adds-turn}
use Rattle.user_tasks.proofs.UnlockTurns.{ends-turn}
use Rattle.user_tasks.proofs.unlocks.Unlock.next.Goals as goal

pub returns-in-Some-clause-turn : goal.returns-in-Some-clause-turn
returns-in-Some-clause-turn c =
    let unlock = c.args.self.now in
    subst (UserTurns (OfUnlock unlock) c.args.looks)
    (sym (c.opening.ensures ∙ ap (λ user. opening_turn user c.in-Some.doing) c.user-user.ensures))
    (opens-turn unlock c.in-Opening.is c.in-Some.doing
    (subst (OpenTurns unlock.opening) c.in-Some.is c.in_ok-doing-in-Opening.ensures.turn) c.args.looks)

pub returns-in-None-clause-turn : goal.returns-in-None-clause-turn
returns-in-None-clause-turn c =
    let unlock = c.args.self.now in
    refuses-turn unlock c.in-Opening.is
    (subst (OpenTurns unlock.opening) c.in-None.is c.in_ok-doing-in-Opening.ensures.turn) c.args.looks

pub returns-in-Some-next-clause-turn : goal.returns-in-Some-next-clause-turn
returns-in-Some-next-clause-turn c =
    let unlock = c.args.self.now in
    let next = c.in-Some-next in
    subst (UserTurns (OfUnlock unlock) c.args.looks)
    (sym (c.fixing.ensures ∙ ap (λ user. fixing_turn user next.doing) c.user-user.ensures))
    (drops-turn unlock c.in-Fixing.key c.in-Fixing.is next.doing (goes-on _ next.ensures.ended) next.ensures.turn
    c.args.looks)

pub returns-in-None-next-clause-turn : goal.returns-in-None-next-clause-turn
returns-in-None-next-clause-turn c =
    let unlock = c.args.self.now in
    subst (UserTurns (OfUnlock unlock) c.args.looks)
    (sym (c.adding.ensures ∙ ap (λ user. adding_turn user c.in-Fixing.key) c.user-user.ensures))
    (adds-durable unlock c.in-Fixing.key c.in-Fixing.is (has-stopped _ c.in-None-next.ensures.ended) c.args.looks
    c.if-looks.true)

pub returns-in-None-2-clause-turn : goal.returns-in-None-2-clause-turn
returns-in-None-2-clause-turn c =
    let unlock = c.args.self.now in
    subst (UserTurns (OfUnlock unlock) c.args.looks) (sym c.quiet.ensures)
    (sync-turn unlock c.in-Fixing.key c.in-Fixing.is (has-stopped _ c.in-None-next.ensures.ended) c.args.looks)

pub returns-in-Installing-clause-turn : goal.returns-in-Installing-clause-turn
returns-in-Installing-clause-turn c =
    let unlock = c.args.self.now in
    let key = c.in-Installing.key in
    subst (UserTurns (OfUnlock unlock) c.args.looks)
    (sym (c.adding-in-Installing.ensures ∙ ap (λ user. adding_turn user key) c.user-user.ensures))
    (adds-turn unlock key c.in-Installing.is c.args.looks)

pub returns-in-Ending-clause-turn : goal.returns-in-Ending-clause-turn
returns-in-Ending-clause-turn c =
    let unlock = c.args.self.now in
    subst (UserTurns (OfUnlock unlock) c.args.looks) (sym c.ending.ensures)
    (ends-turn unlock c.in-Ending.is c.args.looks)
