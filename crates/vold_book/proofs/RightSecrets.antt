-- A key comes into the ring, and a change or a reply tells of it, only for a command that gave a right secret.
use Rattle.std.proofs.Common.{◌≡◌, ◌+◌, ℕ, List, [], ◌∷◌, ◌++◌, length, inl, inr, refl, sym, ap, ◌∙◌, subst, arith}
use Rattle.std.proofs.lemmas.List.{length_push, same_from_push}
use Rattle.std.proofs.lemmas.Option.{same_Some}
use Rattle.std.specs.Prelude.{Option, Some, None, IfSome, slice_get}
use Rattle.std.specs.FinMap as map
use Rattle.journal_model.specs.declared.commands.Actor.{Actor}
use Rattle.journal_model.specs.declared.commands.Actor.TheVariants.{User}
use Rattle.journal_model.specs.declared.commands.Command.{Command}
use Rattle.journal_model.specs.declared.commands.Command.TheVariants.{Create, Unlock, Lock, Protect, Recover}
use Rattle.journal_model.specs.declared.commands.Reply.{Reply}
use Rattle.journal_model.specs.declared.commands.Reply.TheVariants.{Done}
use Rattle.journal_model.specs.declared.entries.Device.{Device}
use Rattle.journal_model.specs.declared.entries.Device.TheVariants.{Tree, Store, Ring}
use Rattle.journal_model.specs.declared.entries.Entry.{Entry}
use Rattle.journal_model.specs.declared.entries.Entry.TheVariants.{Synced, Evicted, Replied, Swept}
use Rattle.journal_model.specs.Command.{actor_of}
use Rattle.journal_model.specs.Machine.{Running as BeganCommand, kind_of_reply, Outcome, Refusal as RefusalKind}
use Rattle.user_world.specs.declared.changes.LocalChange.{LocalChange}
use Rattle.user_world.proofs.Timelines.{known-shown}
use Rattle.task_turns.specs.declared.calls.Call.{Call}
use Rattle.task_turns.specs.declared.calls.Call.TheVariants.{Op, Sync, List as ListCall, Read, Delete}
use Rattle.task_turns.specs.declared.calls.Call.TheVariants.{Generate, Encrypt, Decrypt, Entries, Add, Remove}
use Rattle.task_turns.specs.declared.next.Next.TheVariants.{Call as CallNext, Reply as ReplyNext}
use Rattle.task_turns.specs.Shares.{IsUnder}
use Rattle.task_turns.specs.Turns.{seen_of, CallShows, TellsOpened, opening_secret}
use Rattle.bench.specs.declared.made.Made.{Made}
use Rattle.bench.specs.declared.made.Made.TheVariants.{Heard, Failed}
use Rattle.bench.specs.Bench.{BenchState, Senses}
use Rattle.user_tasks.specs.Tasks.{tasks, user_of}
use Rattle.vold_book.specs.declared.tasks.Running.{Running}
use Rattle.vold_book.specs.declared.tasks.Task.{Task}
use Rattle.vold_book.specs.declared.tasks.Task.TheVariants.{User as Using, Recovery as Recovers, Refusal, Fault}
use Rattle.vold_book.specs.Entries.{entry_of, made_entry}
use Rattle.vold_book.specs.Parts.{with_entry}
use Rattle.vold_book.specs.State.{BookState, Plain, seen, machine_of, timeline, ground_of, share_of}
use Rattle.vold_book.specs.Steps.{GoesOn}
use Rattle.vold_book.specs.Tasks.{TaskStands, TaskShows, scene_of, fault_of, due_to}
use Rattle.vold_book.specs.Opening.{ComesOfOpening, IsRecorded, GaveRecorded, OpensFirst}
use Rattle.vold_book.specs.Whole.{Whole, IsWhole}
use Rattle.vold_book.proofs.Shown.{next_reply}
use Rattle.vold_book.proofs.Grounds.{same_user}
use Rattle.vold_book.proofs.Worked.{stands-now}
use Rattle.journal_model.specs.declared.commands.Command.TheVariants.{Destroy, Fixate}
use Rattle.deferred_delete.specs.declared.items.Item.{Item}

-- only what came of a command's work tells that its key was opened
tells-outcome : (reply : Reply) (command : Command) → TellsOpened reply command → kind_of_reply reply ≡ Outcome
tells-outcome Done command tells = refl
tells-outcome reply command tells = absurd tells

refuses-none : (reply : Reply) (command : Command) → kind_of_reply reply ≡ RefusalKind → TellsOpened reply command → ⊥
refuses-none reply command kind tells = let same = sym (tells-outcome reply command tells) ∙ kind in apart same
  where
    apart : Outcome ≡ RefusalKind → ⊥
    apart e = cc

faults-none : (device : Device) (command : Command) → TellsOpened (fault_of device) command → ⊥
faults-none Tree command tells = tells
faults-none Store command tells = tells
faults-none Ring command tells = tells

-- the entry that was added last
pub last-entry : (entries : List Entry) (found : Option Entry) (entry : Entry)
    → with_entry entries found ≡ entries ++ entry ∷ [] → found ≡ Some entry
last-entry entries None entry same =
    let longer : length entries ≡ length entries + 1 = ap length same ∙ length_push entries entry in
    absurd (omega (arith, longer))
last-entry entries (Some found) entry same = ap Some (same_from_push entries entries found entry same).1

module _ (book : Plain) (whole : Whole book) (began : BeganCommand) where
  of-user : (user owner : ℕ) (secret : List ℕ) → owner ≡ user
      → IsUnder (share_of user (ground_of book)) user secret → IsRecorded book secret owner
  of-user user owner secret same right = subst (IsRecorded book secret) (sym same) (record {
    known = right.known;
    there = sym (known-shown user _ (timeline book.bench.disk (machine_of book)) whole.worlds.shows) ∙ right.there;
    under = right.under;
  })

  -- what a user's share tells of the secret, the machine's map tells
  recorded : (user : ℕ) (command : Command) → actor_of command ≡ User user
      → IfSome (opening_secret command) (IsUnder (share_of user (ground_of book)) user) → GaveRecorded book command
  recorded user (Create owner) own right = tt
  recorded user (Lock owner) own right = tt
  recorded user (Fixate owner) own right = tt
  recorded user (Destroy owner) own right = tt
  recorded user Recover own right = tt
  recorded user (Unlock owner secret) own right = of-user user owner secret (same_user owner user own) right
  recorded user (Protect owner secret fresh) own right = of-user user owner secret (same_user owner user own) right

  module _ (due : Option Item) (number : ℕ) (call : Call) (change : Option LocalChange) (made : Made) (entry : Entry)
      (is : made_entry made (entry_of number call change) ≡ Some entry) where
    -- the entry of a call that shows what it has to
    by-call : (task : _) → CallShows (seen_of tasks task) (scene_of (user_of task) (ground_of book) began due) call
        change
        → actor_of began.command ≡ User (user_of task) → ComesOfOpening entry began.command
        → GaveRecorded book began.command
    by-call task shows own comes = by made call change is shows
      where
        none : {A : Type 0} → None ≡ Some entry → A
        none e = cc

        by : (made : Made) (call : Call) (change : Option LocalChange)
            → made_entry made (entry_of number call change) ≡ Some entry
            → CallShows (seen_of tasks task) (scene_of (user_of task) (ground_of book) began due) call change
            → GaveRecorded book began.command
        by (Failed device) call change is shows = none is
        by (Heard answer) (Op owner op names) None is shows = none is
        by (Heard answer) (Op owner op names) (Some local) is shows =
            recorded (user_of task) began.command own shows.may.right
        by (Heard answer) Sync change is shows =
            absurd (subst (λ e. ComesOfOpening e began.command) (sym (same_Some Synced entry is)) comes)
        by (Heard answer) (Add owner class key) change is shows =
            recorded (user_of task) began.command own shows.stands.right
        by (Heard answer) (Remove owner class) change is shows = absurd (subst (λ e. ComesOfOpening e began.command)
            (sym (same_Some (Evicted owner class) entry is)) comes)
        by (Heard answer) (Delete item tells) change is shows = absurd (subst (λ e. ComesOfOpening e began.command)
            (sym (same_Some (Swept item.blob) entry is)) comes)
        by (Heard answer) ListCall change is shows = none is
        by (Heard answer) (Read place) change is shows = none is
        by (Heard answer) (Generate tag app_id) change is shows = none is
        by (Heard answer) (Encrypt blob app_id nonce key) change is shows = none is
        by (Heard answer) (Decrypt blob app_id text) change is shows = none is
        by (Heard answer) Entries change is shows = none is

    task-call : (task : Task) → TaskStands (ground_of book) task began
        → TaskShows (ground_of book) began due task (CallNext call change) → ComesOfOpening entry began.command
        → GaveRecorded book began.command
    task-call (Using task) stands shows comes = by-call task shows stands.of_user comes
    task-call (Recovers recovery) stands shows comes = subst (GaveRecorded book) (sym stands.0.command) tt
    task-call (Refusal reply) stands shows comes = absurd (apart shows)
      where
        apart : CallNext call change ≡ ReplyNext reply → ⊥
        apart e = cc
    task-call (Fault device held) stands shows comes = absurd (apart shows)
      where
        apart : CallNext call change ≡ ReplyNext (fault_of device) → ⊥
        apart e = cc

  -- and a reply
  task-reply : (due : Option Item) (reply : Reply) (task : Task) → TaskStands (ground_of book) task began
      → TaskShows (ground_of book) began due task (ReplyNext reply) → TellsOpened reply began.command
      → GaveRecorded book began.command
  task-reply due reply (Using task) stands shows tells =
      recorded (user_of task) began.command stands.of_user (shows.right tells)
  task-reply due reply (Recovers recovery) stands shows tells = subst (GaveRecorded book) (sym stands.0.command) tt
  task-reply due reply (Refusal refusal) stands shows tells = absurd (refuses-none refusal began.command stands.1
      (subst (λ r. TellsOpened r began.command) (next_reply reply refusal shows) tells))
  task-reply due reply (Fault device held) stands shows tells = absurd (faults-none device began.command
      (subst (λ r. TellsOpened r began.command) (next_reply reply (fault_of device) shows) tells))

-- the command that an actor runs is the one that the machine has of it
module _ (book : Plain) (actor : Actor) (ours : Running) (runs : map.get book.docket.running actor ≡ Some ours)
    (whole : Whole book) (began : BeganCommand)
    (at : map.get (machine_of book).running ours.number ≡ Some began) where
  pub it-is : (it : Running) (command : Command) → map.get book.docket.running actor ≡ Some it
      → slice_get book.docket.commands it.number ≡ Some command → began.command ≡ command
  it-is it command its given = same_Some began.command command
      (sym (whole.numbers.given ours.number began at).given
      ∙ ap (λ r. slice_get book.docket.commands r.number) (same_Some ours it (sym runs ∙ its)) ∙ given)

module _ {D E F : Type 0} (senses : Senses D E F) (before after : BookState (BenchState D E F)) (actor : Actor) where
  abbrev plain : Plain
  plain = seen senses before

  pub goes-opened : IsWhole senses before → GoesOn senses before after actor
      → OpensFirst plain (seen senses after) actor
  goes-opened whole (inl calls) it command entry runs given same comes =
      let began = calls.plans.on.began in
      let is = it-is plain actor calls.it calls.plans.runs whole began calls.plans.on.at it command runs given in
      subst (GaveRecorded plain) is
      (task-call plain whole began (due_to plain calls.it) calls.it.number calls.making.call calls.making.change
      calls.makes.made entry
      (last-entry before.ledger.entries _ entry (sym (ap (λ b. b.ledger.entries) calls.makes.state) ∙ same))
      calls.making.task (stands-now plain actor calls.it calls.making.task _ calls.plans) calls.plans.shows
      (subst (ComesOfOpening entry) (sym is) comes))
  goes-opened whole (inr replies) it command entry runs given same comes =
      let began = replies.plans.on.began in
      let is = it-is plain actor replies.it replies.plans.runs whole began replies.plans.on.at it command runs given in
      let entry_is = same_Some (Replied replies.it.number replies.reply) entry
      (last-entry before.ledger.entries (Some (Replied replies.it.number replies.reply)) entry
      (sym (ap (λ b. b.ledger.entries) replies.replies.state) ∙ same)) in
      subst (GaveRecorded plain) is
      (task-reply plain whole began (due_to plain replies.it) replies.reply replies.now
      (stands-now plain actor replies.it replies.now _ replies.plans) replies.plans.shows
      (subst (ComesOfOpening (Replied replies.it.number replies.reply)) (sym is)
      (subst (λ e. ComesOfOpening e command) (sym entry_is) comes)))
