use Rattle.std.proofs.Common.{◌≢◌, rules, subst, sym, ap, ◌∙◌}
use Rattle.std.specs.Prelude.{false, Some}
use Rattle.tree_model.specs.declared.sites.Site.TheVariants.{Temp}
use Rattle.task_turns.specs.declared.next.Next.TheVariants.{Reply}
use Rattle.journal_model.specs.declared.commands.Reply.TheVariants.{Done, WrongSecret}
use Rattle.open_task.specs.Turns.{OpenTurns, OpenAsks}
use Rattle.user_tasks.specs.declared.protects.Protect.TheInside.{Inside}
use Rattle.user_tasks.specs.declared.protects.ProtectStage.TheVariants.{Opening, Clearing, Storing, Added, Ended}
use Rattle.user_tasks.specs.Protect.{Protecting, change_by}
use Rattle.user_tasks.specs.Stores.{IsStoreTurn}
use Rattle.user_tasks.specs.Turns.{removing_turn, opening_turn, ending_turn}
use Rattle.user_tasks.proofs.CreateTurns.{turns-given}
use Rattle.user_tasks.proofs.ProtectShown.{Shows, at-stage, opening-shown, refused-shown, removed-shown, begun-shown}
use Rattle.user_tasks.proofs.ProtectShown.{stored-shown, synced-shown, ended-shown}
use Rattle.user_tasks.proofs.protects.Protect.next.Goals as goal
use Rattle.user_tasks.proofs.protects.Protect.next.Goals.{in_default-via-in-Some+in_default, in_default-via-in_default}

abbrev view_of : Inside → Protecting
view_of p = record { made = p.made; opening = p.opening; store = p.store; stage = p.stage }

pub returns-in-Some : goal.returns-in-Some
returns-in-Some c =
    let looks = c.args.looks in
    let inside = view_of c.self.inside in
    let turns = subst (OpenTurns inside.opening) c.in-Some.is c.in_ok-doing-in-Opening.ensures.turn in
    let asks = subst (OpenAsks inside.opening) c.in-Some.is c.in_ok-doing-in-Opening.ensures.asks in
    let shown : Shows c.args.self.now looks c.opening.result =
    subst (Shows c.args.self.now looks)
    (sym (c.opening.ensures ∙ ap (λ user. opening_turn user c.in-Some.doing) c.user.ensures))
    (at-stage (λ protect. Shows protect looks (opening_turn protect.opening.user c.in-Some.doing)) inside
    c.args.self.now Opening c.self.view_is c.in-Opening.is c.self.invariant
    (λ is. opening-shown inside looks c.in-Some.doing is.stage.0 turns asks)) in
    record { turn = shown.turn; asks = shown.asks; jobs = shown.jobs }

pub returns-in-None : goal.returns-in-None
returns-in-None c =
    let inside = view_of c.self.inside in
    let ended = subst (OpenTurns inside.opening) c.in-None.is c.in_ok-doing-in-Opening.ensures.turn in
    let shown = at-stage (λ protect. Shows protect c.args.looks (Reply WrongSecret)) inside c.args.self.now
    Opening
    c.self.view_is c.in-Opening.is c.self.invariant
    (λ is. refused-shown inside c.args.looks ended is.stage.1) in
    record { turn = shown.turn; asks = shown.asks; jobs = shown.jobs }

pub returns-in-Some-Temp : goal.returns-in-Some-Temp
returns-in-Some-Temp c =
    let looks = c.args.looks in
    let inside = view_of c.self.inside in
    let shown = subst (Shows c.args.self.now looks) (sym (c.removing.ensures
    ∙ ap (λ user. removing_turn user Temp) c.user-in-Some-Temp.ensures))
    (at-stage (λ protect. Shows protect looks (removing_turn protect.opening.user Temp)) inside
    c.args.self.now Clearing c.self.view_is c.in-Clearing.is c.self.invariant
    (λ is. removed-shown inside looks
    (c.in-Some-Temp.is ∙ ap Some (rw c.in-Some-Temp.is at c.in-Some-Temp.field-0-is)))) in
    record { turn = shown.turn; asks = shown.asks; jobs = shown.jobs }

pub returns-in_default : goal.returns-in_default
returns-in_default c =
    let looks = c.args.looks in
    let inside = view_of c.self.inside in
    let result = c.store_turn.result in
    let other : looks.in_the_way ≢ Some Temp = elim c.in_default.branch [
      | in_default-via-in-Some+in_default w ↦ λ e. search rules
      | in_default-via-in_default w ↦ λ e. cc
    ] in
    let shown = turns-given _ (Shows c.args.self.now looks) result c.store_turn.ensures.turn (λ next turn.
    at-stage (λ p. IsStoreTurn p.opening.user p.store (Some (change_by p)) next → Shows p looks next) inside
    c.args.self.now Clearing c.self.view_is c.in-Clearing.is c.self.invariant
    (λ is stores. begun-shown inside looks next stores is other) turn) in
    record {
      turn = turns-given (Shows c.args.self.now looks) _ result shown (λ next shows. shows.turn);
      asks = turns-given (Shows c.args.self.now looks) _ result shown (λ next shows. shows.asks);
      jobs = turns-given (Shows c.args.self.now looks) _ result shown (λ next shows. shows.jobs);
    }

pub returns-in-Storing : goal.returns-in-Storing
returns-in-Storing c =
    let looks = c.args.looks in
    let inside = view_of c.self.inside in
    let result = c.store_turn-in-Storing.result in
    let shown = turns-given _ (Shows c.args.self.now looks) result c.store_turn-in-Storing.ensures.turn (λ next turn.
    at-stage (λ p. IsStoreTurn p.opening.user p.store (Some (change_by p)) next → Shows p looks next) inside
    c.args.self.now Storing c.self.view_is c.in-Storing.is c.self.invariant
    (λ is stores. stored-shown inside looks next stores is) turn) in
    record {
      turn = turns-given (Shows c.args.self.now looks) _ result shown (λ next shows. shows.turn);
      asks = turns-given (Shows c.args.self.now looks) _ result shown (λ next shows. shows.asks);
      jobs = turns-given (Shows c.args.self.now looks) _ result shown (λ next shows. shows.jobs);
    }

pub returns-in-Added : goal.returns-in-Added
returns-in-Added c =
    let inside = view_of c.self.inside in
    let shown = subst (Shows c.args.self.now c.args.looks) (sym c.quiet.ensures)
    (at-stage (λ protect. Shows protect c.args.looks _) inside c.args.self.now Added c.self.view_is c.in-Added.is
    c.self.invariant (λ is. synced-shown inside c.args.looks)) in
    record { turn = shown.turn; asks = shown.asks; jobs = shown.jobs }

pub returns-in-Ended : goal.returns-in-Ended
returns-in-Ended c =
    let looks = c.args.looks in
    let inside = view_of c.self.inside in
    let shown = subst (Shows c.args.self.now looks) (sym c.ending.ensures)
    (at-stage (λ protect. Shows protect looks (ending_turn looks.due false Done)) inside c.args.self.now Ended
    c.self.view_is c.in-Ended.is c.self.invariant (λ is. ended-shown inside looks)) in
    record { turn = shown.turn; asks = shown.asks; jobs = shown.jobs }
