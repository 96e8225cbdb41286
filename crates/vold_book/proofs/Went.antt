-- What a turn that goes did: one call or one reply, for an actor that has something to do, with fewer turns left.
use Rattle.std.proofs.Common.{◌≡◌, ◌<◌, inl, inr, Bool, true, false, refl, sym, ap, ◌∙◌, subst}
use Rattle.std.proofs.lemmas.Option.{none-some, same_Some}
use Rattle.std.specs.Prelude.{◌↔◌, Option, Some, None, is_some, IsNone, Ok, Contains, slice_get}
use Rattle.std.specs.FinMap as map
use Rattle.journal_model.specs.declared.commands.Actor.{Actor}
use Rattle.journal_model.specs.declared.commands.Reply.TheVariants.{Gone}
use Rattle.journal_model.specs.declared.entries.Change.TheVariants.{Drop, Destroy}
use Rattle.journal_model.specs.declared.entries.Entry.TheVariants.{Changed, Replied}
use Rattle.journal_model.specs.declared.phase.Phase.{Phase}
use Rattle.journal_model.specs.declared.phase.Phase.TheVariants.{Up, Down, Halted}
use Rattle.journal_model.specs.Actor.{actor_cmp}
use Rattle.journal_model.specs.Machine.{TakesTurn}
use Rattle.task_turns.specs.declared.calls.Call.{Call}
use Rattle.bench.specs.declared.made.Made.{Made}
use Rattle.bench.specs.declared.made.Made.TheVariants.{Heard, Failed}
use Rattle.bench.specs.Bench.{BenchState, Senses, AreCounted, device_of, was_done, told_of}
use Rattle.vold_book.specs.declared.tasks.Running.{Running}
use Rattle.vold_book.specs.Endings.{EndsDue, EndsGone}
use Rattle.vold_book.specs.Listing.{ListsEnded, OwesOn}
use Rattle.vold_book.specs.Entries.{entry_of, made_entry}
use Rattle.vold_book.specs.Parts.{TrackerState, noted}
use Rattle.vold_book.specs.State.{BookState, Plain, seen, machine_of}
use Rattle.vold_book.specs.Steps.{CallsOn, RepliesOn, GoesOn}
use Rattle.vold_book.specs.Turns.{after_call, Begins, CallsOnce, RepliesOnce, Turns, Goes, LeavesOthers, as_told}
use Rattle.vold_book.specs.Opening.{OpensFirst, KeepsOpened}
use Rattle.vold_book.specs.Turns.{ComesUp, IsTidied, IsFault, IsTelling, deleted_by}
use Rattle.vold_book.specs.Whole.{PhaseStands, Whole, IsWhole, turns_left}
use Rattle.vold_book.proofs.Called.{call-fits, hears-whole}
use Rattle.vold_book.proofs.Charged.{noted-entry}
use Rattle.vold_book.proofs.EndsDue.{same-ends, made-ends}
use Rattle.vold_book.proofs.Falls.{called-falls, replied-falls}
use Rattle.vold_book.proofs.Isolated.{spare-same, call-isolates}
use Rattle.vold_book.proofs.Replied.{replied-up}
use Rattle.vold_book.proofs.RightSecrets.{last-entry}
use Rattle.vold_book.proofs.Shown.{call-falls, call-told, reply-told, reply-lasts}
use Rattle.vold_book.proofs.Tracked.{noted-stays}
use Rattle.vold_book.proofs.Tried.{owes-fewer, tells-by, tries-next}

-- the machine takes the turns of what runs
runs-takes : (book : Plain) (actor : Actor) (it : Running) → Whole book → map.get book.docket.running actor ≡ Some it
    → TakesTurn book.tracker.phase actor
runs-takes book actor it whole runs = by book.tracker.phase whole.phase
  where
    by : (phase : Phase) → PhaseStands phase book (machine_of book) → TakesTurn phase actor
    by Up stands = tt
    by Down stands = stands.1 actor it runs
    by Halted stands =
        absurd (none-some it (sym (map.get-empty actor_cmp actor) ∙ ap (λ m. map.get m actor) (sym stands.2) ∙ runs))

-- a call tracks what is durable and what is pending, and nothing else
tracked : (made : Bool) (call : Call) (change : Bool) (tracker : TrackerState) → noted made call change tracker
    ≡ record tracker {
      durable = (noted made call change tracker).durable;
      pending = (noted made call change tracker).pending;
    }
tracked made call change tracker =
    let stays = noted-stays made call change tracker in
    let now = noted made call change tracker in
    λ i. record now { phase = stays.phase i; boot = stays.boot i; level = stays.level i }

no_entry : (made : Made) (entry : Option _) → was_done made ≡ false → made_entry made entry ≡ None
no_entry (Heard answer) entry e = cc
no_entry (Failed device) entry e = refl

as-told : (made : Made) → told_of (Ok made) ≡ as_told (was_done made)
as-told (Heard answer) = refl
as-told (Failed device) = refl

some_none : {A : Type 0} → true ≡ false → A
some_none e = cc

-- a turn that isn't due leaves the Book as it is
module _ (book : Plain) (actor : Actor) where
  pub still-isolates : LeavesOthers book book actor
  still-isolates owner user own differ =
      let spare = spare-same user book.bench book.bench refl refl refl in (spare.places, spare.entries, spare.keys)

  pub still-ends : EndsDue book.bench book.bench
  still-ends = same-ends book.bench book.bench refl

  pub still-gone : EndsGone book book actor
  still-gone it number item runs told has =
      absurd (none-some _ (last-entry book.ledger.entries None (Replied number Gone) told))

  pub still-listed : ListsEnded book book actor
  still-listed it number user runs told =
      absurd (none-some _ (last-entry book.ledger.entries None (Changed number (Destroy user)) told))

  pub still-owing : OwesOn book book actor
  still-owing it then item runs goes has =
      subst (λ (ran : Running). Contains ran.owed.items item) (same_Some it then (sym runs ∙ goes)) has

  pub still-down : ComesUp book book
  still-down down up = absurd (down up)

  pub still-opened : OpensFirst book book actor
  still-opened it command entry runs given same comes =
      absurd (none-some entry (last-entry book.ledger.entries None entry same))

  pub still-kept : KeepsOpened book book actor
  still-kept it user secret slot runs given same =
      absurd (none-some _ (last-entry book.ledger.entries None (Changed it.number (Drop user slot)) same))

-- a command that begins makes no call, gives no reply, and changes no device
module _ {D E F : Type 0} (senses : Senses D E F) (before after : BookState (BenchState D E F)) (actor : Actor)
    (idle : IsNone (map.get before.docket.running actor)) (begins : Begins before after actor) where
  pub begins-goes : TakesTurn before.tracker.phase actor → Goes senses before after actor
  begins-goes takes = record {
    turn = inl (idle, begins);
    busy = λ both. some_none (sym (ap is_some begins.queued) ∙ both.1);
    takes = takes;
  }

  pub begins-isolates : LeavesOthers (seen senses before) (seen senses after) actor
  begins-isolates owner user own differ =
      let spare = spare-same user (seen senses before).bench (seen senses after).bench
      (ap (λ b. senses.disk b.bench.tree) begins.state) (ap (λ b. senses.store b.bench.store) begins.state)
      (ap (λ b. senses.keys b.bench.ring) begins.state) in (spare.places, spare.entries, spare.keys)

  pub begins-ends : EndsDue (seen senses before).bench (seen senses after).bench
  begins-ends = same-ends (seen senses before).bench (seen senses after).bench
      (ap (λ b. senses.store b.bench.store) begins.state)

  pub begins-down : ComesUp (seen senses before) (seen senses after)
  begins-down down up = absurd (down (sym (ap (λ b. b.tracker.phase) begins.state) ∙ up))

  pub begins-opened : OpensFirst (seen senses before) (seen senses after) actor
  begins-opened it command entry runs given same comes = some_none (sym (ap is_some runs) ∙ idle)

  pub begins-kept : KeepsOpened (seen senses before) (seen senses after) actor
  begins-kept it user secret slot runs given same = some_none (sym (ap is_some runs) ∙ idle)

module _ {D E F : Type 0} (senses : Senses D E F) (before after : BookState (BenchState D E F)) (actor : Actor)
    (whole : IsWhole senses before) where
  abbrev plain : Plain
  plain = seen senses before

  -- a failure is told unless it is a delete's of another command than a destroy
  faults-told : (calls : CallsOn senses before after actor)
      → ((was_done calls.makes.made ≡ false) × IsTelling (slice_get before.docket.commands calls.it.number)
      (deleted_by calls.making.call)) ↔ IsFault (device_of calls.making.call) calls.making.then
  faults-told calls =
      let told = call-told plain actor calls.it calls.making calls.plans calls.makes.made calls.makes.then
      (seen senses after).bench calls.makes.is_made in
      let telling = tells-by plain whole actor calls.it calls.making calls.plans in
      (λ both. told.0 (both.0, telling.0 both.1), λ fault. ((told.1 fault).0, telling.1 (told.1 fault).1))

  calls-once : CallsOn senses before after actor → CallsOnce senses before after actor
  calls-once calls =
      let making = calls.making in
      let made = calls.makes.made in
      let state = calls.makes.state in
      let called = after_call before actor calls.it.number making made after.marks after.bench in
      let now : called.tracker ≡ after.tracker = sym (ap (λ b. b.tracker) state) in record {
        it = calls.it;
        device = device_of making.call;
        made = was_done made;
        entry = made_entry made (entry_of calls.it.number making.call making.change);
        task = making.then;
        deletes = deleted_by making.call;
        owed = making.owed;
        tries = tries-next plain whole actor calls.it making calls.plans made calls.makes.owed;
        runs = calls.plans.runs;
        counted = subst (AreCounted plain.bench (seen senses after).bench (device_of making.call)) (as-told made)
            calls.makes.counted;
        noted = noted-entry made calls.it.number making.call making.change;
        quiet = no_entry made (entry_of calls.it.number making.call making.change);
        fault = faults-told calls;
        state = state ∙ ap (λ t. record called { tracker = t })
            (tracked (was_done made) making.call (is_some making.change) before.tracker
            ∙ ap (λ t. record before.tracker { durable = t.durable; pending = t.pending }) now);
      }

  replies-once : RepliesOn senses before after actor → RepliesOnce before after actor
  replies-once replies = record {
    it = replies.it;
    command = replies.replies.command;
    reply = replies.reply;
    runs = replies.plans.runs;
    given = replies.replies.given;
    told = reply-told plain actor replies.it replies.now replies.reply replies.plans;
    state = replies.replies.state;
  }

  busy-goes : (it : Running) → map.get before.docket.running actor ≡ Some it
      → Turns senses before after actor → Goes senses before after actor
  busy-goes it runs turn = record {
    turn = turn;
    busy = λ none. some_none (sym (ap is_some runs) ∙ none.0);
    takes = runs-takes plain actor it whole runs;
  }

  -- so the turn went
  pub goes-once : GoesOn senses before after actor → Goes senses before after actor
  goes-once (inl calls) = busy-goes calls.it calls.plans.runs (inr (inl (calls-once calls)))
  goes-once (inr replies) = busy-goes replies.it replies.plans.runs (inr (inr (replies-once replies)))

  -- and left what other users have
  pub goes-isolates : GoesOn senses before after actor → LeavesOthers plain (seen senses after) actor
  goes-isolates (inl calls) owner user own differ =
      let spare = call-isolates plain whole actor owner user own differ calls.it calls.making.task calls.making.call
      calls.making.change calls.makes.made (seen senses after).bench calls.plans calls.makes.is_made in
      (spare.places, spare.entries, spare.keys)
  goes-isolates (inr replies) owner user own differ =
      let spare = spare-same user plain.bench (seen senses after).bench
      (ap (λ b. senses.disk b.bench.tree) replies.replies.state)
      (ap (λ b. senses.store b.bench.store) replies.replies.state)
      (ap (λ b. senses.keys b.bench.ring) replies.replies.state) in (spare.places, spare.entries, spare.keys)

  -- and what was neither listed nor synced is in the keystore still
  pub goes-ends : GoesOn senses before after actor → EndsDue plain.bench (seen senses after).bench
  goes-ends (inl calls) = made-ends plain.bench (seen senses after).bench calls.making.call calls.makes.made
      (call-fits plain actor calls.it calls.making whole calls.plans) calls.makes.is_made
  goes-ends (inr replies) = same-ends plain.bench (seen senses after).bench
      (ap (λ b. senses.store b.bench.store) replies.replies.state)

  -- with fewer turns left
  pub goes-falls : GoesOn senses before after actor → turns_left (seen senses after) < turns_left plain
  goes-falls (inl calls) =
      let bench = (seen senses after).bench in
      subst (λ b. turns_left b < turns_left plain) (sym (ap (seen senses) calls.makes.state))
      (called-falls plain whole actor calls.it calls.plans.runs calls.making calls.makes.made after.marks bench
      (call-falls plain actor calls.it calls.making calls.plans calls.makes.made calls.makes.then bench
      calls.makes.is_made whole (hears-whole calls.makes.made calls.makes.answers))
      (owes-fewer plain whole actor calls.it calls.making calls.plans calls.makes.made calls.makes.owed)
      (call-fits plain actor calls.it calls.making whole calls.plans) calls.makes.is_made)
  goes-falls (inr replies) =
      subst (λ b. turns_left b < turns_left plain) (sym (ap (seen senses) replies.replies.state))
      (replied-falls plain whole actor replies.it replies.plans.runs replies.replies.command replies.reply
      (reply-lasts plain actor replies.it replies.now replies.reply replies.plans))

  -- a call leaves the phase
  call-stays : CallsOn senses before after actor → after.tracker.phase ≡ before.tracker.phase
  call-stays calls = ap (λ b. b.tracker.phase) calls.makes.state
      ∙ (noted-stays (was_done calls.makes.made) calls.making.call (is_some calls.making.change) before.tracker).phase

  -- a machine comes up with a recovery's reply alone
  pub goes-up : GoesOn senses before after actor → ComesUp plain (seen senses after)
  goes-up (inl calls) down up = absurd (down (sym (call-stays calls) ∙ up))
  goes-up (inr replies) down up =
      subst IsTidied (sym (ap (seen senses) replies.replies.state))
      (replied-up plain actor replies.it replies.now replies.reply whole replies.plans replies.replies.command
      replies.replies.given down (sym (ap (λ b. b.tracker.phase) replies.replies.state) ∙ up))
