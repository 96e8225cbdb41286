-- Of a user whose keys were ended nothing is left either once a command began, but a create of the user.
use Rattle.std.proofs.Common.{◌≡◌, ◌≢◌, ◌==◌, ℕ, inl, inr, Bool, true, false, ◌∷◌, [], ◌++◌, sym, ap, ◌∙◌, subst}
use Rattle.std.proofs.lemmas.Bool.{and_parts, eq-eqb, false≢true}
use Rattle.std.proofs.lemmas.Option.{same_Some}
use Rattle.std.specs.Prelude.{◌&&◌, not, Some, is_some}
use Rattle.std.specs.FinMap as map
use Rattle.tree_model.specs.declared.blobs.Blob.{Blob}
use Rattle.tree_model.specs.declared.places.Place.TheVariants.{De}
use Rattle.tree_model.specs.declared.sites.Site.TheVariants.{De as DeSite}
use Rattle.tree_model.specs.Disk.{view}
use Rattle.tree_model.proofs.Maps.{decide_key, get-insert_same, get-insert_other}
use Rattle.journal_model.specs.declared.commands.Actor.{Actor}
use Rattle.journal_model.specs.declared.commands.Actor.TheVariants.{User as UserActor}
use Rattle.journal_model.specs.declared.commands.Command.{Command}
use Rattle.journal_model.specs.declared.commands.Command.TheVariants.{Create, Unlock, Lock, Protect, Fixate, Destroy}
use Rattle.journal_model.specs.declared.commands.Command.TheVariants.{Recover}
use Rattle.journal_model.specs.declared.commands.Reply.TheVariants.{NoUser, NotInstalled, NoSlot}
use Rattle.journal_model.specs.declared.entries.Entry.TheVariants.{Began}
use Rattle.journal_model.specs.declared.phase.Phase.TheVariants.{Up}
use Rattle.journal_model.specs.declared.refusals.Facts.{Facts}
use Rattle.journal_model.specs.Actor.{actor_total, actor_exact}
use Rattle.journal_model.specs.Command.{actor_of, user_in, user_in_actor}
use Rattle.journal_model.specs.Endings.{is_ended, ended_after}
use Rattle.journal_model.specs.Machine.{Machine, TakesTurn, is_up}
use Rattle.journal_model.specs.Refusals.{refusal_of, due, first_due}
use Rattle.blob_custody.specs.Custody.{IsListed}
use Rattle.blob_custody.proofs.Left.{view-left}
use Rattle.vold_book.specs.declared.tasks.Running.{Running}
use Rattle.vold_book.specs.declared.tasks.Task.{Task}
use Rattle.vold_book.specs.declared.tasks.Task.TheVariants.{User as Using, Recovery as Recovers, Refusal, Fault}
use Rattle.vold_book.specs.Endings.{LeavesNothing, WasRefused}
use Rattle.vold_book.specs.State.{Plain, machine_of}
use Rattle.vold_book.specs.Turns.{FirstTask, facts_in, start_in, user_there, begun_list}
use Rattle.vold_book.specs.Whole.{Whole}
use Rattle.vold_book.proofs.CleanBegun.{due-down}
use Rattle.vold_book.proofs.EndedSteps.{ended-append}
use Rattle.vold_book.proofs.Grounds.{not_boot, same_user}
use Rattle.vold_book.proofs.Plains.{Beginning, IsBeginning, begun_plain, work_of}
use Rattle.vold_book.proofs.FirstTasks.{begun_entry}
use Rattle.vold_book.proofs.SlotsToTry.{known-up}

both : (owner user : ℕ) (ended : Bool) → (not (owner == user) && ended) ≡ true → (ended ≡ true) × (owner ≢ user)
both owner user ended is =
    let parts = and_parts (not (owner == user)) ended is in
    (parts.1, λ same. absurd (false≢true (sym (ap not (eq-eqb owner user same)) ∙ parts.0)))

-- a beginning after which a user's keys are ended is no create of the user, and they were ended before
ended-still : (user number : ℕ) (machine : Machine) (actor : Actor) (ended : Bool) (command : Command)
    → ended_after user machine ended (Began number actor command) ≡ true
    → (ended ≡ true) × (command ≢ Create user)
ended-still user number machine actor ended (Create owner) is =
    let parts = both owner user ended is in (parts.0, λ same. parts.1 (of same))
  where
    of : Create owner ≡ Create user → owner ≡ user
    of e = cc
ended-still user number machine actor ended command is = (is, λ e. cc)

-- a command of a user who isn't there is refused, but a create
absent-refused : (user : ℕ) (command : Command) (facts : Facts) → actor_of command ≡ UserActor user
    → facts.present ≡ false → command ≢ Create user → refusal_of command facts ≡ Some NoUser
absent-refused user (Create owner) facts own absent other = absurd (other (ap Create (same_user owner user own)))
absent-refused user (Unlock owner secret) facts own absent other = ap (λ p. due (not p) NoUser) absent
absent-refused user (Lock owner) facts own absent other =
    ap (λ p. first_due (due (not p) NoUser) (due (not facts.installed) NotInstalled)) absent
absent-refused user (Protect owner given fresh) facts own absent other =
    ap (λ p. first_due (due (not p) NoUser) (due facts.full NoSlot)) absent
absent-refused user (Fixate owner) facts own absent other = ap (λ p. due (not p) NoUser) absent
absent-refused user (Destroy owner) facts own absent other = ap (λ p. due (not p) NoUser) absent
absent-refused user Recover facts own absent other = absurd (not_boot user own)

module _ (book : Plain) (actor : Actor) (begins : Beginning) (whole : Whole book)
    (takes : TakesTurn book.tracker.phase actor) (is : IsBeginning book actor begins)
    (own : actor_of begins.command ≡ actor) where
  abbrev facts : Facts
  facts = facts_in book.bench.places book begins.command

  module _ (user : ℕ) (nothing : LeavesNothing book user) (other : begins.command ≢ Create user) where
    -- the user isn't there
    absent : actor ≡ UserActor user → facts.present ≡ false
    absent mine = ap (user_there book.bench.places) whose
        ∙ (known-up book actor whole takes user mine).there (De user)
        ∙ ap is_some (nothing.vacant (view book.bench.disk) DeSite (view-left book.bench.disk))
      where
        whose : user_in begins.command ≡ Some user
        whose = ap user_in_actor (own ∙ mine)

    -- so what the user's actor begins is refused
    begun-refused : actor ≡ UserActor user → begins.task ≡ Refusal NoUser
    begun-refused mine = subst (λ verdict. FirstTask begins.command (start_in book.bench.places book actor) verdict
        begins.task) (absent-refused user begins.command facts (own ∙ mine) (absent mine) other) is.first

    idle-then : (it : Running)
        → map.get (map.insert book.docket.running actor (work_of begins)) (UserActor user) ≡ Some it → WasRefused it
    idle-then it at = elim (decide_key actor_total actor_exact (UserActor user) actor) [
      | inl mine ↦ subst WasRefused (same_Some (work_of begins) it
          (sym (get-insert_same actor_total actor_exact book.docket.running actor (work_of begins))
          ∙ ap (map.get (map.insert book.docket.running actor (work_of begins))) (sym mine) ∙ at))
          (record { reply = NoUser; is = begun-refused (sym mine) })
      | inr differ ↦ nothing.idle it (sym (get-insert_other actor_total actor_exact book.docket.running actor
          (work_of begins) (UserActor user) differ) ∙ at)
    ]

    -- and the list stays, since no recovery begins while the machine is up
    listed-then : (blob : Blob) → book.tracker.phase ≡ Up → IsListed book.bench.list blob
        → IsListed (begun_list begins.task book.bench.list) blob
    listed-then blob up listed = by begins.task is.first
      where
        by : (task : Task) → FirstTask begins.command (start_in book.bench.places book actor)
            (refusal_of begins.command facts) task → IsListed (begun_list task book.bench.list) blob
        by (Using task) first = listed
        by (Recovers recovery) first = absurd (false≢true
            (sym (due-down facts begins.command (start_in book.bench.places book actor) recovery first)
            ∙ ap is_up up))
        by (Refusal reply) first = listed
        by (Fault device held) first = listed

    begun-nothing : LeavesNothing (begun_plain book actor begins) user
    begun-nothing = record {
      vacant = nothing.vacant;
      keyless = nothing.keyless;
      listed = λ up entry has of. listed-then entry.blob up (nothing.listed up entry has of);
      idle = idle-then;
    }

  pub begun-ended : (user : ℕ)
      → is_ended (book.ledger.entries ++ begun_entry book actor begins ∷ []) user ≡ true
      → LeavesNothing (begun_plain book actor begins) user
  begun-ended user ended =
      let before = ended-still user begins.number (machine_of book) actor (is_ended book.ledger.entries user)
      begins.command (sym (ended-append user book.ledger.entries (begun_entry book actor begins)) ∙ ended) in
      begun-nothing user (whole.ended user before.0) before.1
