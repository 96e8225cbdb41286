-- An unlock drops no slot that is the newest under its secret.
use Rattle.std.proofs.Common.{◌≡◌, ℕ, List, inl, inr, sym, ap, ◌∙◌, subst}
use Rattle.std.specs.Prelude.{Option, Some, None, IfSome}
use Rattle.tree_model.specs.declared.places.Slot.{Slot}
use Rattle.journal_model.specs.declared.commands.Actor.{Actor}
use Rattle.journal_model.specs.declared.commands.Command.TheVariants.{Unlock, Recover}
use Rattle.journal_model.specs.declared.entries.Change.{Change}
use Rattle.journal_model.specs.declared.entries.Change.TheVariants.{Drop}
use Rattle.journal_model.specs.declared.entries.Entry.TheVariants.{Changed, Replied}
use Rattle.journal_model.specs.Machine.{Running as BeganCommand}
use Rattle.journal_model.specs.Users.{Record}
use Rattle.user_world.specs.declared.changes.LocalChange.{LocalChange}
use Rattle.user_world.specs.declared.changes.LocalChange.TheVariants.{Born, Added, Dropped, Settled, Destroyed}
use Rattle.user_world.specs.Changes.{change_of}
use Rattle.user_world.proofs.Timelines.{known-shown}
use Rattle.task_turns.specs.declared.calls.Call.{Call}
use Rattle.task_turns.specs.declared.calls.Call.TheVariants.{Op, Sync, List as ListCall, Read, Delete}
use Rattle.task_turns.specs.declared.calls.Call.TheVariants.{Generate, Encrypt, Decrypt, Entries, Add, Remove}
use Rattle.task_turns.specs.declared.next.Next.TheVariants.{Call as CallNext, Reply as ReplyNext}
use Rattle.key_directory.specs.Vaults.{Attempts, NoChanceMatch}
use Rattle.deferred_delete.specs.declared.items.Item.{Item}
use Rattle.task_turns.specs.Shares.{IsNewestUnder}
use Rattle.task_turns.specs.Turns.{seen_of, CallShows, KeepsNewest, KeepsRight, opening_secret}
use Rattle.user_tasks.specs.declared.tasks.UserTask.{UserTask}
use Rattle.bench.specs.declared.made.Made.{Made}
use Rattle.bench.specs.declared.made.Made.TheVariants.{Heard, Failed}
use Rattle.bench.specs.Bench.{BenchState, Senses}
use Rattle.user_tasks.specs.Tasks.{tasks, user_of}
use Rattle.vold_book.specs.declared.tasks.Task.{Task}
use Rattle.vold_book.specs.declared.tasks.Task.TheVariants.{User as Using, Recovery as Recovers, Refusal, Fault}
use Rattle.vold_book.specs.Entries.{entry_of, made_entry}
use Rattle.vold_book.specs.Opening.{IsSpare, KeepsOpened}
use Rattle.vold_book.specs.State.{BookState, Plain, seen, machine_of, timeline, ground_of, tried_in}
use Rattle.vold_book.specs.Steps.{GoesOn}
use Rattle.vold_book.specs.Tasks.{TaskStands, TaskShows, scene_of, fault_of, due_to}
use Rattle.vold_book.specs.Whole.{Whole, IsWhole}
use Rattle.vold_book.proofs.RightSecrets.{last-entry, it-is}
use Rattle.vold_book.proofs.Worked.{stands-now}

-- a change of a user that is a drop
record IsDrop (user : ℕ) (slot : Slot) (owner : ℕ) (local : LocalChange) : Type 0 where
  owned : owner ≡ user
  drops : local ≡ Dropped slot

drops-by : (user : ℕ) (slot : Slot) (owner : ℕ) (local : LocalChange) → change_of owner local ≡ Drop user slot
    → IsDrop user slot owner local
drops-by user slot owner (Dropped other) same = record { owned = cc; drops = cc }
drops-by user slot owner (Born birth) same = cc
drops-by user slot owner (Added other secret) same = cc
drops-by user slot owner (Settled other) same = cc
drops-by user slot owner Destroyed same = cc

same-change : (number other : ℕ) (change drop : Change) → Some (Changed number change) ≡ Some (Changed other drop)
    → change ≡ drop
same-change number other change drop e = cc

module _ (book : Plain) (whole : Whole book) (began : BeganCommand) (user : ℕ) (secret : List ℕ) (slot : Slot)
    (unlocks : began.command ≡ Unlock user secret) where
  abbrev SparesIn : Attempts → Option Record → Type 0
  SparesIn attempts found = IfSome found (λ known. IfSome (opening_secret began.command)
      (KeepsNewest attempts known (Dropped slot)))

  spare-in : (attempts : Attempts) (found : Option Record) → SparesIn attempts found → NoChanceMatch attempts
      → IfSome found (λ known. ¬ (IsNewestUnder known secret slot))
  spare-in attempts None keeps clear = tt
  spare-in attempts (Some known) keeps clear =
      subst (λ c. IfSome (opening_secret c) (KeepsNewest attempts known (Dropped slot))) unlocks keeps clear

  module _ (due : Option Item) (number other : ℕ) where
    -- what a user's share tells of the slot, the machine's map tells
    spare : (owner : ℕ) → owner ≡ user
        → KeepsRight owner (scene_of owner (ground_of book) began due) (Dropped slot) → IsSpare book user secret slot
    spare owner same keeps clear =
        subst (λ r. IfSome r (λ known. ¬ (IsNewestUnder known secret slot)))
        (known-shown user _ (timeline book.bench.disk (machine_of book)) whole.worlds.shows)
        (spare-in (tried_in book user) _
        (subst (λ o. KeepsRight o (scene_of o (ground_of book) began due) (Dropped slot)) same keeps) clear)

    by-call : (task : UserTask) (call : Call) (change : Option LocalChange) (made : Made)
        → CallShows (seen_of tasks task) (scene_of (user_of task) (ground_of book) began due) call change
        → made_entry made (entry_of number call change) ≡ Some (Changed other (Drop user slot))
        → IsSpare book user secret slot
    by-call task (Op owner op names) (Some local) (Heard answer) shows is =
        let drop = drops-by user slot owner local (same-change number other (change_of owner local) (Drop user slot)
        is) in
        spare (user_of task) (sym shows.stands.mine ∙ drop.owned)
        (subst (KeepsRight (user_of task) (scene_of (user_of task) (ground_of book) began due)) drop.drops
        shows.may.keeps)
    by-call task (Op owner op names) None (Heard answer) shows is = cc
    by-call task Sync change (Heard answer) shows is = cc
    by-call task ListCall change (Heard answer) shows is = cc
    by-call task (Read place) change (Heard answer) shows is = cc
    by-call task (Generate tag app_id) change (Heard answer) shows is = cc
    by-call task (Encrypt blob app_id nonce key) change (Heard answer) shows is = cc
    by-call task (Decrypt blob app_id text) change (Heard answer) shows is = cc
    by-call task Entries change (Heard answer) shows is = cc
    by-call task (Add owner class key) change (Heard answer) shows is = cc
    by-call task (Remove owner class) change (Heard answer) shows is = cc
    by-call task (Delete item tells) change (Heard answer) shows is = cc
    by-call task call change (Failed device) shows is = cc

    task-call : (task : Task) (call : Call) (change : Option LocalChange) (made : Made)
        → TaskStands (ground_of book) task began
        → TaskShows (ground_of book) began due task (CallNext call change)
        → made_entry made (entry_of number call change) ≡ Some (Changed other (Drop user slot))
        → IsSpare book user secret slot
    task-call (Using task) call change made stands shows is = by-call task call change made shows is
    task-call (Recovers recovery) call change made stands shows is =
        absurd (apart (sym unlocks ∙ stands.0.command))
      where
        apart : Unlock user secret ≡ Recover → ⊥
        apart e = cc
    task-call (Refusal reply) call change made stands shows is = absurd (apart shows)
      where
        apart : CallNext call change ≡ ReplyNext reply → ⊥
        apart e = cc
    task-call (Fault device held) call change made stands shows is = absurd (apart shows)
      where
        apart : CallNext call change ≡ ReplyNext (fault_of device) → ⊥
        apart e = cc

module _ {D E F : Type 0} (senses : Senses D E F) (before after : BookState (BenchState D E F)) (actor : Actor) where
  abbrev plain : Plain
  plain = seen senses before

  pub goes-kept : IsWhole senses before → GoesOn senses before after actor
      → KeepsOpened plain (seen senses after) actor
  goes-kept whole (inl calls) it user secret slot runs given same =
      let began = calls.plans.on.began in
      let unlocks = it-is plain actor calls.it calls.plans.runs whole began calls.plans.on.at it (Unlock user secret)
      runs given in
      task-call plain whole began user secret slot unlocks (due_to plain calls.it) calls.it.number it.number
      calls.making.task calls.making.call calls.making.change calls.makes.made
      (stands-now plain actor calls.it calls.making.task _ calls.plans) calls.plans.shows
      (last-entry before.ledger.entries _ (Changed it.number (Drop user slot))
      (sym (ap (λ b. b.ledger.entries) calls.makes.state) ∙ same))
  goes-kept whole (inr replies) it user secret slot runs given same =
      absurd (apart (last-entry before.ledger.entries (Some (Replied replies.it.number replies.reply))
      (Changed it.number (Drop user slot)) (sym (ap (λ b. b.ledger.entries) replies.replies.state) ∙ same)))
    where
      apart : Some (Replied replies.it.number replies.reply) ≡ Some (Changed it.number (Drop user slot)) → ⊥
      apart e = cc
