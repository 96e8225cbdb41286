-- What a whole Book's actors run and what waits for them is what the journal and the given commands tell, and so is
-- each turn.
use Rattle.std.specs.declared.cmp.Ordering.TheVariants.{Less, Equal}
use Rattle.std.proofs.lemmas.Option.{same_Some}
use Rattle.std.proofs.Common.{◌≡◌, ◌⊎◌, inl, inr, ℕ, List, [], ◌∷◌, ◌++◌, refl, sym, ap, ◌∙◌, subst, arith}
use Rattle.std.specs.Prelude.{Option, Some, None, IsSome, IfSome, IsSomeAnd, Contains, slice_get}
use Rattle.std.specs.FinMap as map
use Rattle.std.proofs.lemmas.List.{append-nil}
use Rattle.bench.specs.Bench.{BenchState, Senses}
use Rattle.journal_model.specs.declared.commands.Actor.{Actor}
use Rattle.journal_model.specs.declared.commands.Actor.TheVariants.{Boot, Cp, User}
use Rattle.journal_model.specs.declared.entries.Entry.{Entry}
use Rattle.journal_model.specs.declared.entries.Entry.TheVariants.{Began, Changed, Synced, Installed, Evicted}
use Rattle.journal_model.specs.declared.entries.Entry.TheVariants.{Swept, Stopped, Restarted, Replied}
use Rattle.journal_model.specs.Command.{actor_of}
use Rattle.journal_model.specs.Actor.{actor_cmp}
use Rattle.journal_model.specs.declared.phase.Phase.{Phase}
use Rattle.journal_model.specs.declared.phase.Phase.TheVariants.{Up, Down, Halted}
use Rattle.journal_model.specs.Machine.{TakesTurn, machine_after, numbers_begun}
use Rattle.vold_book.specs.declared.tasks.Running.{Running}
use Rattle.vold_book.specs.State.{BookState}
use Rattle.vold_book.specs.Whole.{IsWhole}
use Rattle.docket.specs.Docket.{IsBusy, IsNextBusy}
use Rattle.vold_book.specs.Parts.{with_entry}
use Rattle.vold_book.specs.Turns.{Begins, Goes, Turns, IsNoted as IsNotedEntry}
use Rattle.vold_book.proofs.Begun.{none_of}
use Rattle.docket.specs.Accounts.{AllWait}
use Rattle.docket.proofs.Accounts.{contains-cons}
use Rattle.vold_run.specs.Rounds.{NothingLeft}
use Rattle.vold_book.proofs.SlotsToTry.{some-of}
use Rattle.vold_run.specs.Lines.{IsInOrder, IsBetweenLines}
use Rattle.vold_run.specs.Fits.{history_of, Waits, Runs, HasWork, IsAtWork, NoWork, ComesBy, IsNextAtWork, NoneAtWork}
use Rattle.vold_run.specs.Fits.{BeginsNext, IsNoted, TurnFits}

there : {A : Type 0} (found : Option A) (P : A → Type 0) → IsSomeAnd found P → (a : A) × (found ≡ Some a) × P a
there None P h = absurd h
there (Some a) P h = (a, refl, h)

is_there : {A : Type 0} (found : Option A) (P : A → Type 0) → IsSomeAnd found P → IsSome found
is_there None P h = absurd h
is_there (Some a) P h = refl

there_and_not : {A : Type 0} (found : Option A) → IsSome found → found ≡ None → ⊥
there_and_not found there none = cc

-- where the machine takes no turn of an actor, it takes none of those behind it
pub none-behind : (phase : Phase) (actor other : Actor) → ¬ (TakesTurn phase actor) → TakesTurn phase other
    → (actor_cmp actor other ≡ Less) ⊎ (actor_cmp actor other ≡ Equal) → ⊥
none-behind Up actor other waits takes order = waits tt
none-behind Down Boot other waits takes order = waits refl
none-behind Down Cp other waits takes order =
    elim (subst (λ o. (actor_cmp Cp o ≡ Less) ⊎ (actor_cmp Cp o ≡ Equal)) takes order) [
      | inl less ↦ cc
      | inr equal ↦ cc
    ]
none-behind Down (User user) other waits takes order =
    elim (subst (λ o. (actor_cmp (User user) o ≡ Less) ⊎ (actor_cmp (User user) o ≡ Equal)) takes order) [
      | inl less ↦ cc
      | inr equal ↦ cc
    ]
none-behind Halted actor other waits takes order = takes

comes-itself : (actor : Actor) (number : ℕ) → ComesBy actor number number
comes-itself Boot number = omega arith
comes-itself Cp number = omega arith
comes-itself (User user) number = omega arith

module _ {D E F : Type 0} (senses : Senses D E F) (book : BookState (BenchState D E F))
    (whole : IsWhole senses book) where
  runs-run : (actor : Actor) (number : ℕ) → Runs (history_of book) actor number
      → IsSome (map.get book.docket.running actor)
  runs-run actor number runs =
      let began = there (map.get (machine_after book.ledger.entries).running number)
      (λ running. actor_of running.command ≡ actor) runs in
      is_there (map.get book.docket.running actor) (λ it. it.number ≡ number)
      (subst (λ a. IsSomeAnd (map.get book.docket.running a) (λ it. it.number ≡ number)) began.2
      (whole.all number began.0 began.1))

  -- what runs began, and got no reply
  pub run-runs : (actor : Actor) (it : Running) → map.get book.docket.running actor ≡ Some it
      → Runs (history_of book) actor it.number
  run-runs actor it at =
      let run = whole.run actor it at in
      subst (λ found. IsSomeAnd found (λ running. actor_of running.command ≡ actor)) (sym run.at) run.own

  waits-queue : (actor : Actor) (number : ℕ) → Waits (history_of book) actor number
      → IsSomeAnd (map.get book.docket.waiting actor) (λ numbers. Contains numbers number)
  waits-queue actor number waits =
      let given = there (slice_get book.docket.commands number) (λ command. actor_of command ≡ actor) waits.0 in
      elim (whole.numbers.accounted.kept number given.0 given.1) [
        | inl began ↦ absurd (waits.1 began)
        | inr queued ↦
            subst (λ a. IsSomeAnd (map.get book.docket.waiting a) (λ numbers. Contains numbers number)) given.2 queued
      ]

  queue-waits : (actor : Actor) (number : ℕ) (numbers : List ℕ)
      → map.get book.docket.waiting actor ≡ Some (number ∷ numbers)
      → Waits (history_of book) actor number
  queue-waits actor number numbers at =
      let wait = subst
      (λ found. IfSome found (AllWait actor_of book.docket.commands (numbers_begun book.ledger.entries) actor)) at
      (whole.numbers.accounted.queues actor) in
      (wait.0, wait.1)

  queue-works : (actor : Actor) (numbers : List ℕ) → map.get book.docket.waiting actor ≡ Some numbers
      → HasWork (history_of book) actor
  queue-works actor [] at = absurd (whole.numbers.accounted.some actor at)
  queue-works actor (number ∷ numbers) at = (number, inr (queue-waits actor number numbers at))

  -- an actor that is busy has something to do
  busy-works : (actor : Actor) → IsBusy book.docket actor → HasWork (history_of book) actor
  busy-works actor (inl runs) =
      let it = some-of (map.get book.docket.running actor) runs in (it.0.number, inl (run-runs actor it.0 it.1))
  busy-works actor (inr waits) =
      let queue = some-of (map.get book.docket.waiting actor) waits in queue-works actor queue.0 queue.1

  -- and one that has something to do is busy
  works-busy : (actor : Actor) → HasWork (history_of book) actor → IsBusy book.docket actor
  works-busy actor (number, inl runs) = inl (runs-run actor number runs)
  works-busy actor (number, inr waits) =
      inr (is_there (map.get book.docket.waiting actor) (λ numbers. Contains numbers number)
      (waits-queue actor number waits))

  -- an actor is at work where it is busy and has turns
  pub at-work : (actor : Actor) → IsBusy book.docket actor → TakesTurn book.tracker.phase actor
      → IsAtWork (history_of book) actor
  at-work actor busy takes = record {
    works = busy-works actor busy;
    allowed = subst (λ p. TakesTurn p actor) (sym whole.agrees.phase) takes;
  }

  pub work-takes : (actor : Actor) → IsAtWork (history_of book) actor → TakesTurn book.tracker.phase actor
  work-takes actor work = subst (λ p. TakesTurn p actor) whole.agrees.phase work.allowed

  pub work-busy : (actor : Actor) → IsAtWork (history_of book) actor → IsBusy book.docket actor
  work-busy actor work = works-busy actor work.works

  pub next-fits : (after : Option Actor) (next : Actor) → IsNextBusy book.docket after (Some next)
      → TakesTurn book.tracker.phase next → IsNextAtWork (history_of book) after next
  next-fits after next is takes = record {
    works = at-work next is.0 takes;
    later = is.1;
    first = λ other works later. is.2 other (work-busy other works) later;
  }

  -- no actor is at work behind the last one: none is busy, or the machine takes no turn of the next one
  pub none-fits : (after : Option Actor) → IsNextBusy book.docket after None → NoneAtWork (history_of book) after
  none-fits after none other works later = none other (work-busy other works) later

  pub waits-fits : (after : Option Actor) (next : Actor) → IsNextBusy book.docket after (Some next)
      → ¬ (TakesTurn book.tracker.phase next) → NoneAtWork (history_of book) after
  waits-fits after next is waits other works later =
      none-behind book.tracker.phase next other waits (work-takes other works)
      (is.2 other (work-busy other works) later)

  pub idle-fits : NothingLeft book → NoWork (history_of book)
  idle-fits idle actor works = idle actor (work-busy actor works) (work-takes actor works)

  begins-fits : (after : BookState (BenchState D E F)) (actor : Actor)
      → IfSome (map.get book.docket.waiting actor) (IsInOrder actor)
      → map.get book.docket.running actor ≡ None → Begins book after actor
      → BeginsNext (history_of book) actor (history_of after)
  begins-fits after actor order none begins = record {
    number = begins.number;
    command = begins.command;
    idle = λ other runs. there_and_not (map.get book.docket.running actor) (runs-run actor other runs) none;
    waits = queue-waits actor begins.number begins.numbers begins.queued;
    first = λ other waits. first other waits;
    given = begins.given;
    left = ap history_of begins.state;
  }
    where
      ordered : IsInOrder actor (begins.number ∷ begins.numbers)
      ordered = subst (λ found. IfSome found (IsInOrder actor)) begins.queued order

      first : (other : ℕ) → Waits (history_of book) actor other → ComesBy actor begins.number other
      first other waits =
          let queue = there (map.get book.docket.waiting actor) (λ numbers. Contains numbers other)
          (waits-queue actor other waits) in
          let same : queue.0 ≡ begins.number ∷ begins.numbers =
          same_Some queue.0 (begins.number ∷ begins.numbers) (sym queue.1 ∙ begins.queued) in
          let within = subst (λ numbers. Contains numbers other) same queue.2 in
          elim (contains-cons begins.number begins.numbers other within) [
            | inl is ↦ subst (ComesBy actor begins.number) is (comes-itself actor begins.number)
            | inr later ↦ ordered.0 other later
          ]

-- the entry of a call is one that a call may add
entry-noted : (number : ℕ) (entry : Option Entry) → IfSome entry (IsNotedEntry number) → (entries : List Entry)
    → (more : List Entry) × IsNoted number more × (with_entry entries entry ≡ entries ++ more)
entry-noted number None noted entries = ([], inl refl, sym (append-nil entries))
entry-noted number (Some Synced) noted entries = (Synced ∷ [], inr (inl refl), refl)
entry-noted number (Some (Changed other change)) noted entries =
    (Changed other change ∷ [], inr (inr (inl (change, ap (λ n. Changed n change ∷ []) noted))), refl)
entry-noted number (Some (Installed user class)) noted entries =
    (Installed user class ∷ [], inr (inr (inr (inl (user, class, inl refl)))), refl)
entry-noted number (Some (Evicted user class)) noted entries =
    (Evicted user class ∷ [], inr (inr (inr (inl (user, class, inr refl)))), refl)
entry-noted number (Some (Swept blob)) noted entries = (Swept blob ∷ [], inr (inr (inr (inr (blob, refl)))), refl)
entry-noted number (Some (Began other actor command)) noted entries = absurd noted
entry-noted number (Some (Stopped kept)) noted entries = absurd noted
entry-noted number (Some (Restarted boot level)) noted entries = absurd noted
entry-noted number (Some (Replied other reply)) noted entries = absurd noted

-- a turn that went fits
pub turn-fits : {D E F : Type 0} (senses : Senses D E F) (book after : BookState (BenchState D E F)) (actor : Actor)
    → IsBetweenLines senses book → Goes senses book after actor
    → TurnFits (history_of book) actor (history_of after)
turn-fits senses book after actor between goes = from goes.turn
  where
    from : Turns senses book after actor → TurnFits (history_of book) actor (history_of after)
    from (inl (none, begins)) = inl (begins-fits senses book between.whole after actor (between.order actor)
        (none_of (map.get book.docket.running actor) none) begins)
    from (inr (inl calls)) =
        let noted = entry-noted calls.it.number calls.entry calls.noted book.ledger.entries in
        inr (inl (record {
          number = calls.it.number;
          more = noted.0;
          runs = run-runs senses book between.whole actor calls.it calls.runs;
          noted = noted.1;
          left = ap history_of calls.state
              ∙ ap (λ entries. record
              (history_of book) { entries = entries; calls = book.ledger.callers ++ actor ∷ [] }) noted.2;
        }))
    from (inr (inr replies)) = inr (inr (record {
      number = replies.it.number;
      reply = replies.reply;
      runs = run-runs senses book between.whole actor replies.it replies.runs;
      left = ap history_of replies.state;
    }))
