-- That a user is gone is told only once no blob that the command listed has an entry any more.
use Rattle.std.proofs.Common.{◌≡◌, ◌⊎◌, ◌<◌, ◌≤◌, ℕ, inl, inr, Bool, true, false, refl, sym, ap}
use Rattle.std.proofs.Common.{◌∙◌, subst}
use Rattle.std.proofs.lemmas.Bool.{cases_lt}
use Rattle.std.proofs.lemmas.Option.{same_Some}
use Rattle.std.specs.Prelude.{Some, None, IfSome, IsNone, is_some, Contains}
use Rattle.std.specs.FinMap as map
use Rattle.deferred_delete.specs.declared.items.Item.{Item}
use Rattle.journal_model.specs.declared.commands.Actor.{Actor}
use Rattle.journal_model.specs.declared.commands.Actor.TheVariants.{User as UserActor}
use Rattle.journal_model.specs.declared.commands.Command.{Command}
use Rattle.journal_model.specs.declared.commands.Command.TheVariants.{Destroy}
use Rattle.journal_model.specs.declared.commands.Reply.{Reply}
use Rattle.journal_model.specs.declared.commands.Reply.TheVariants.{Gone}
use Rattle.journal_model.specs.declared.entries.Device.{Device}
use Rattle.journal_model.specs.declared.entries.Device.TheVariants.{Tree as TreeDevice, Store as StoreDevice}
use Rattle.journal_model.specs.declared.entries.Device.TheVariants.{Ring as RingDevice}
use Rattle.journal_model.specs.declared.entries.Entry.TheVariants.{Replied}
use Rattle.journal_model.specs.Machine.{Evidence, Running as BeganCommand, DidDestroy, AllowsOutcome, kind_of_reply}
use Rattle.journal_model.specs.Machine.{Outcome, Refusal as RefusalKind}
use Rattle.keystore_model.specs.Store.{entry_of}
use Rattle.user_world.specs.OwnWorlds.{notes}
use Rattle.user_world.proofs.Timelines.{durable-shown}
use Rattle.task_turns.specs.declared.next.Next.TheVariants.{Reply as ReplyNext}
use Rattle.task_turns.specs.Turns.{evidence_in, tells_deletes}
use Rattle.user_tasks.specs.Tasks.{user_of}
use Rattle.bench.specs.Bench.{BenchState, Senses}
use Rattle.vold_book.specs.declared.tasks.Running.{Running}
use Rattle.vold_book.specs.declared.tasks.Task.{Task}
use Rattle.vold_book.specs.declared.tasks.Task.TheVariants.{User as Using, Recovery as Recovers, Refusal, Fault}
use Rattle.vold_book.specs.Endings.{EndsGone}
use Rattle.vold_book.specs.Owing.{IsOwing, IsWaiting, IsEnded, HasTried}
use Rattle.vold_book.specs.State.{BookState, Plain, AllDurable, seen, ground_of, machine_of, share_of, timeline}
use Rattle.vold_book.specs.Steps.{GoesOn}
use Rattle.vold_book.specs.Tasks.{TaskStands, TaskShows, RunsOn, Plans, ends_passed, fault_of, due_to}
use Rattle.vold_book.specs.Turns.{IsNoted}
use Rattle.vold_book.specs.Whole.{Whole, IsWhole}
use Rattle.vold_book.proofs.Charged.{noted-entry}
use Rattle.vold_book.proofs.DueItems.{none-due, none-synced}
use Rattle.vold_book.proofs.Grounds.{same_user}
use Rattle.vold_book.proofs.RightSecrets.{last-entry}
use Rattle.vold_book.proofs.Shown.{next_reply}
use Rattle.vold_book.proofs.Worked.{on-now}

-- only a destroy tells that its user is gone, and it tells where its deletes fail
destroy-tells : (evidence : Evidence) (boot : ℕ) (running : BeganCommand) (reply : Reply)
    → AllowsOutcome evidence boot running reply → reply ≡ Gone → tells_deletes running.command ≡ true
destroy-tells evidence boot running reply allows gone =
    by running.command (subst (AllowsOutcome evidence boot running) gone allows)
  where
    by : (command : Command) → DidDestroy evidence running command → tells_deletes command ≡ true
    by (Destroy user) did = refl
    by command did = absurd did

module _ (book : Plain) (whole : Whole book) (actor : Actor) (it : Running) (now : Task) (reply : Reply)
    (plans : Plans book actor it now (ReplyNext reply)) (gone : reply ≡ Gone) where
  -- where no delete is due and every change of the user's is durable, what wasn't passed has ended as well
  module _ (user : ℕ) (own : actor ≡ UserActor user) (durable : AllDurable (ground_of book).line user)
      (none : due_to book it ≡ None)
      (passed : (item : Item) → Contains it.owed.items item → item.number < it.owed.from
      → IsEnded (ground_of book) item) where
    all-ended : (item : Item) → Contains it.owed.items item → entry_of book.bench.store.entries item.blob ≡ None
    all-ended item has = elim (cases_lt item.number it.owed.from) [
      | inl low ↦ (passed item has low).gone
      | inr reached ↦ by reached owing.2.stands
    ]
      where
        owing : (owner : ℕ) × (actor ≡ UserActor owner) × IsOwing (ground_of book) owner item
        owing = plans.on.owes item has

        waiting : it.owed.from ≤ item.number → (synced : Bool)
            → Contains book.bench.list.items (record item { synced = synced })
            → (synced ≡ false → ¬ (AllDurable (ground_of book).line owing.0)) → ⊥
        waiting reached true there unsynced = none-synced book.bench.list whole.numbered item.number
            (none-due book.bench.list whole.numbered it.owed.from it.owed.items none item has reached)
            (record item { synced = true }) there refl refl
        waiting reached false there unsynced = unsynced refl (subst (AllDurable (ground_of book).line)
            (same_user user owing.0 (sym own ∙ owing.1)) durable)

        by : it.owed.from ≤ item.number → IsWaiting (ground_of book) owing.0 item ⊎ IsEnded (ground_of book) item
            → entry_of book.bench.store.entries item.blob ≡ None
        by reached (inl waits) = absurd (waiting reached waits.synced waits.has waits.unsynced)
        by reached (inr ended) = ended.gone

  pub gone-at-reply : (item : Item) → Contains it.owed.items item
      → entry_of book.bench.store.entries item.blob ≡ None
  gone-at-reply = by now on.stands plans.shows on.tried
    where
      on : RunsOn (ground_of book) (machine_of book) actor
          (record { number = it.number; task = now; owed = it.owed })
      on = on-now book actor it now (ReplyNext reply) plans

      by : (task : Task) → TaskStands (ground_of book) task plans.on.began
          → TaskShows (ground_of book) plans.on.began (due_to book it) task (ReplyNext reply)
          → HasTried (ground_of book) (ends_passed on.began.command task) it.owed
          → (item : Item) → Contains it.owed.items item → entry_of book.bench.store.entries item.blob ≡ None
      by (Using task) stands shows tried =
          let ends = shows.gone gone in
          let evidence = evidence_in (user_of task) (share_of (user_of task) (ground_of book)) in
          let tells = destroy-tells evidence (ground_of book).boot plans.on.began reply shows.may gone in
          all-ended (user_of task) (sym plans.on.own ∙ stands.of_user)
          (durable-shown (user_of task) _ (timeline book.bench.disk (machine_of book)) whole.worlds.shows
          (ap notes ends.still)) ends.ended (tried.ended tells)
      by (Recovers recovery) stands shows tried = let ended = sym gone ∙ shows.ended in cc
      by (Refusal refusal) stands shows tried =
          let refused : Outcome ≡ RefusalKind = ap kind_of_reply (sym gone ∙ next_reply reply refusal shows)
          ∙ stands.1 in cc
      by (Fault device held) stands shows tried =
          absurd (no-fault device (sym gone ∙ next_reply reply (fault_of device) shows))
        where
          no-fault : (device : Device) → Gone ≡ fault_of device → ⊥
          no-fault TreeDevice e = cc
          no-fault StoreDevice e = cc
          no-fault RingDevice e = cc

module _ {D E F : Type 0} (senses : Senses D E F) (before after : BookState (BenchState D E F)) (actor : Actor) where
  pub begins-gone : IsNone (map.get before.docket.running actor)
      → EndsGone (seen senses before) (seen senses after) actor
  begins-gone idle it number item runs told has = absurd (apart (sym (ap is_some runs) ∙ idle))
    where
      apart : true ≡ false → ⊥
      apart e = cc

  pub goes-gone : IsWhole senses before → GoesOn senses before after actor
      → EndsGone (seen senses before) (seen senses after) actor
  goes-gone whole (inl calls) it number item runs told has =
      absurd (subst (λ found. IfSome found (IsNoted calls.it.number))
      (last-entry before.ledger.entries _ (Replied number Gone)
      (sym (ap (λ b. b.ledger.entries) calls.makes.state) ∙ told))
      (noted-entry calls.makes.made calls.it.number calls.making.call calls.making.change))
  goes-gone whole (inr replies) it number item runs told has =
      ap (λ b. entry_of (senses.store b.bench.store).entries item.blob) replies.replies.state
      ∙ gone-at-reply (seen senses before) whole actor replies.it replies.now replies.reply replies.plans
      (is-gone (last-entry before.ledger.entries (Some (Replied replies.it.number replies.reply)) (Replied number Gone)
      (sym (ap (λ b. b.ledger.entries) replies.replies.state) ∙ told))) item
      (subst (λ (one : Running). Contains one.owed.items item)
      (same_Some it replies.it (sym runs ∙ replies.plans.runs)) has)
    where
      is-gone : Some (Replied replies.it.number replies.reply) ≡ Some (Replied number Gone) → replies.reply ≡ Gone
      is-gone e = cc
