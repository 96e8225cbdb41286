-- What one turn of a command leads to, by where the command rests before it and after it.
use Rattle.std.proofs.Common.{◌≡◌, ◌+◌, ◌<◌, ◌≤◌, sym, subst}
use Rattle.std.specs.Prelude.{Option}
use Rattle.user_world.specs.declared.changes.LocalChange.{LocalChange}
use Rattle.user_world.specs.Turns.{with_note}
use Rattle.key_directory.specs.Vaults.{Attempts, Extends}
use Rattle.task_turns.specs.declared.calls.Answer.{Answer}
use Rattle.task_turns.specs.Shares.{Share, AllHas, AreHeld}
use Rattle.task_turns.specs.Turns.{seen_of, Rest, Tasks, Scene, Cost, Leads}

-- as much was tried
pub none-more : (attempts : Attempts) → Extends attempts attempts
none-more attempts = record { additions = λ added has. has; secrets = λ secret has. has }

-- what one turn leads to, by where the task rests before it and after it
pub record LeadsTo (scene : Scene) (rest then : Rest) (note : Option LocalChange) (cost : Cost) (share : Share) :
    Type 0 where
  pub facts : AllHas then.facts share
  pub known : AreHeld then.held then.facts
  pub serves : then.serves scene.boot (with_note rest.user scene.began note)
  pub same_user : then.user ≡ rest.user
  pub falls : then.left + cost.makes + cost.lists < rest.left + cost.takes + cost.deletes
  pub makes : then.makes + cost.makes ≤ rest.makes
  pub draws : then.draws + cost.draws ≤ rest.draws

pub leads-to : {T : Type 0} (tasks : Tasks T) (task : T) (answer : Answer) {scene : Scene} {rest then : Rest}
    {note : Option LocalChange} {cost : Cost} {share : Share} → tasks.hears task answer
    → tasks.rest_of task ≡ rest → tasks.rest_of (tasks.after task answer) ≡ then
    → LeadsTo scene rest then note cost share
    → Leads (seen_of tasks task) answer scene note cost share
leads-to tasks task answer {scene} {rest} {then} {note} {cost} {share} hears is next to =
    let led = subst (λ r. LeadsTo scene r (tasks.rest_of (tasks.after task answer)) note cost share) (sym is)
    (subst (λ r. LeadsTo scene rest r note cost share) (sym next) to) in record {
      hears = hears;
      facts = led.facts;
      known = led.known;
      serves = led.serves;
      same_user = led.same_user;
      falls = led.falls;
      makes = led.makes;
      draws = led.draws;
    }
