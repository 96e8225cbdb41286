-- What a Book's functions rest on that make a call or give a reply: each keeps the Book whole.
use Rattle.std.proofs.Common.{◌≡◌, ℕ, ◌<◌, inl, List, sym, ap, ◌∙◌, subst, arith}
use Rattle.std.proofs.lemmas.Option.{same_Some, slice_get_within}
use Rattle.std.specs.Prelude.{Option, Some, Ok, is_some, ◌&&◌, length}
use Rattle.std.specs.FinMap as map
use Rattle.journal_model.specs.declared.commands.Actor.{Actor}
use Rattle.journal_model.specs.declared.commands.Reply.{Reply}
use Rattle.user_world.specs.declared.changes.LocalChange.{LocalChange}
use Rattle.task_turns.specs.declared.calls.Call.{Call}
use Rattle.task_turns.specs.declared.calls.Call.TheVariants.{Op, Sync, List as ListCall, Read, Generate, Encrypt}
use Rattle.task_turns.specs.declared.calls.Call.TheVariants.{Decrypt, Entries, Add, Remove, Delete}
use Rattle.task_turns.specs.declared.next.Next.TheVariants.{Call as CallNext, Reply as ReplyNext}
use Rattle.bench.specs.declared.made.Made.{Made}
use Rattle.bench.specs.Bench.{BenchState, Senses, Fits, IsMade, AreCounted, device_of, told_of, was_done}
use Rattle.bench.specs.Bench.{seen as bench_seen}
use Rattle.bench.specs.Seen.{AnswersWhole, marks_told}
use Rattle.step_core.specs.Table.{Users}
use Rattle.user_tasks.specs.declared.tasks.UserTask.{UserTask}
use Rattle.vold_book.specs.declared.plans.Plan.TheVariants.{Call as PlansCall}
use Rattle.vold_book.specs.declared.tasks.Running.{Running}
use Rattle.vold_book.specs.declared.tasks.Task.{Task}
use Rattle.vold_book.specs.Entries.{entry_of, made_entry}
use Rattle.vold_book.specs.Owed.{Owed, CanTry, more_owed, drops_of, after_try, with_more}
use Rattle.vold_book.specs.Parts.{LedgerState, TrackerState, ledger_with, noted}
use Rattle.vold_book.specs.State.{Docket, BookState, Plain, seen}
use Rattle.vold_book.specs.Steps.{RepliesTo, IsPlanned, task_now, GoesOn}
use Rattle.vold_book.specs.Tasks.{Plans, HearsMade, TaskAfter}
use Rattle.vold_book.specs.Turns.{Making, Makes, after_reply, marks_with}
use Rattle.vold_book.specs.Whole.{IsWhole, Whole}
use Rattle.vold_book.proofs.Called.{call-fits, call-hears, whole-called}
use Rattle.vold_book.proofs.Numbering.{listed-below}
use Rattle.vold_book.proofs.Replied.{whole-replied}
use Rattle.vold_book.proofs.SteadyReplies.{steady-replied}

-- what a command is after its call, which lists more
pub record IsAfter (it : Running) (making : Making) (made : Made) (more : Option Owed) (then : Running) : Type 0 where
  pub number : then.number ≡ it.number
  pub task : TaskAfter making.call made making.task making.then
  pub owed : then.owed ≡ after_try making.call (with_more (was_done made) more it.owed)

-- a number comes behind that of what is deleted
fits-try : (book : Plain) → Whole book → (call : Call) → Fits book.bench call → CanTry call
fits-try book whole (Delete item tells) fits =
    let below = listed-below book.bench.list item whole.numbered fits.0 in
    let few = whole.numbered.few in
    omega (arith, below, few)
fits-try book whole (Op user op names) fits = tt
fits-try book whole Sync fits = tt
fits-try book whole ListCall fits = tt
fits-try book whole (Read place) fits = tt
fits-try book whole (Generate tag app_id) fits = tt
fits-try book whole (Encrypt blob app_id nonce key) fits = tt
fits-try book whole (Decrypt blob app_id sealed) fits = tt
fits-try book whole Entries fits = tt
fits-try book whole (Add user class key) fits = tt
fits-try book whole (Remove user class) fits = tt

module _ {D E F : Type 0} (senses : Senses D E F) (book : BookState (BenchState D E F))
    (whole : IsWhole senses book) where
  abbrev plain : Plain
  plain = seen senses book

  -- what an actor runs has a number that was given
  pub number-given : (actor : Actor) (it : Running) → map.get book.docket.running actor ≡ Some it
      → it.number < length book.docket.commands
  number-given actor it runs =
      let on = whole.run actor it runs in
      slice_get_within book.docket.commands it.number on.began.command
      (whole.numbers.given it.number on.began on.at).given

  -- a reply was given that was planned
  module _ (actor : Actor) (it : Running) (now : Task) (reply : Reply)
      (plans : Plans plain actor it now (ReplyNext reply)) where
    pub replies-whole : (after : BookState (BenchState D E F)) → RepliesTo book after actor it reply
        → IsWhole senses after
    replies-whole after replies =
        let began = plans.on.began in
        let same : began.command ≡ replies.command = same_Some began.command replies.command
        (sym (whole.numbers.given it.number began plans.on.at).given ∙ replies.given) in
        subst (λ b. IsWhole senses b)
        (sym (replies.state ∙ ap (λ c. after_reply book actor it c reply) (sym same)))
        (whole-replied plain actor it now reply whole plans (steady-replied plain actor it now reply whole plans))

  -- the call that was planned for the actor
  module _ (actor : Actor) (done : Option UserTask) (call : Call) (change : Option LocalChange)
      (planned : IsPlanned plain actor (record { task = done; plan = PlansCall call change })) where
    abbrev making_of : Running → Task → Owed → Making
    making_of it then owed =
        record { call = call; change = change; task = task_now done it.task; then = then; owed = owed }

    -- may be made
    pub planned-fits : Fits (bench_seen senses book.bench) call
    planned-fits = call-fits plain actor planned.it (making_of planned.it planned.it.task planned.it.owed) whole
        planned.plans

    pub planned-tries : CanTry call
    planned-tries = fits-try plain whole call planned-fits

    module _ (it : Running) (runs : map.get book.docket.running actor ≡ Some it) where
      plans-it : Plans plain actor it (task_now done it.task) (CallNext call change)
      plans-it = subst (λ r. Plans plain actor r (task_now done r.task) (CallNext call change))
          (same_Some planned.it it (sym planned.plans.runs ∙ runs)) planned.plans

      -- and the task may hear what its device answered
      pub planned-hears : (now : Task) → now ≡ task_now done it.task → (made : Made) (bench : BenchState D E F)
          → IsMade (bench_seen senses book.bench) (bench_seen senses bench) call (Ok made)
          → AnswersWhole (Ok made) → HearsMade call now made
      planned-hears now is made bench is_made long =
          subst (λ t. HearsMade call t made) (sym is) (call-hears plain actor it (making_of it it.task it.owed) whole
          plans-it made (bench_seen senses bench) is_made long)

      -- what is noted of it, with what it lists and as its devices leave the bench
      module _ (made : Made) (more : Option Owed) (then : Running) (bench : BenchState D E F)
          (then_is : IsAfter it (making_of it then.task then.owed) made more then) where
        pub noted-makes : (marks : Users) (boot_seed : List ℕ) (ledger : LedgerState) (docket : Docket)
            (tracker : TrackerState)
            → IsMade (bench_seen senses book.bench) (bench_seen senses bench) call (Ok made)
            → AreCounted (bench_seen senses book.bench) (bench_seen senses bench) (device_of call)
            (told_of (Ok made))
            → AnswersWhole (Ok made)
            → more ≡ more_owed it.owed book.bench.list.next (drops_of book.bench.places call)
            → marks ≡ marks_with bench.places (marks_told book.marks call (Ok made)) call
            (was_done made && is_some change)
            → boot_seed ≡ book.boot_seed
            → ledger ≡ ledger_with book.ledger actor (made_entry made (entry_of it.number call change))
            → docket ≡ record book.docket { running = map.insert book.docket.running actor then }
            → tracker ≡ noted (was_done made) call (is_some change) book.tracker
            → Makes senses book (record book {
              bench = bench;
              marks = marks;
              boot_seed = boot_seed;
              ledger = ledger;
              docket = docket;
              tracker = tracker;
            }) actor it (making_of it then.task then.owed)
        noted-makes marks boot_seed ledger docket tracker is_made counted long lists marked same_seed entered runs
            tracked = record {
              made = made;
              is_made = is_made;
              counted = counted;
              answers = long;
              then = then_is.task;
              owed = then_is.owed ∙ ap (λ m. after_try call (with_more (was_done made) m it.owed)) lists;
              marks = marked;
              state = λ i. record book {
                bench = bench;
                marks = marks;
                boot_seed = same_seed i;
                ledger = entered i;
                docket = (runs ∙ ap {A = Running} (λ r. record book.docket {
                  running = map.insert book.docket.running actor r;
                }) (λ j. record { number = then_is.number j; task = then.task; owed = then.owed })) i;
                tracker = tracked i;
              };
            }

      module _ (after : BookState (BenchState D E F)) (then : Task) (owed : Owed)
          (makes : Makes senses book after actor it (making_of it then owed)) where
        pub planned-goes : GoesOn senses book after actor
        planned-goes = inl (record { it = it; making = making_of it then owed; plans = plans-it; makes = makes })

        pub planned-whole : IsWhole senses after
        planned-whole =
            subst (λ b. IsWhole senses b) (sym makes.state)
            (whole-called plain actor it (making_of it then owed) whole plans-it makes.made
            (bench_seen senses after.bench) makes.is_made makes.answers makes.then
            (record { owed = owed; marks = after.marks }) makes.counted
            (record { owed = makes.owed; marks = makes.marks }))
