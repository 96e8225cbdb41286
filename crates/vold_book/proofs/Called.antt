-- Any task's call, made or failed, keeps a Book whole: by its kind it leaves what it has to.
use Rattle.std.proofs.Common.{◌≡◌, ◌∷◌, [], ◌++◌, refl, sym, ap, ◌∙◌, subst}
use Rattle.std.specs.Prelude.{Bool, true, false, Option, is_some, Ok}
use Rattle.journal_model.specs.declared.commands.Actor.{Actor}
use Rattle.user_world.specs.declared.changes.LocalChange.{LocalChange}
use Rattle.task_turns.specs.declared.calls.Call.{Call}
use Rattle.task_turns.specs.declared.next.Next.TheVariants.{Call as CallNext}
use Rattle.user_tasks.specs.declared.tasks.UserTask.{UserTask}
use Rattle.user_tasks.specs.Tasks.{user_of}
use Rattle.bench.specs.declared.made.Made.{Made}
use Rattle.bench.specs.declared.made.Made.TheVariants.{Heard, Failed}
use Rattle.bench.specs.Bench.{Plain as Seen, Fits, IsMade, AreCounted}
use Rattle.bench.specs.Bench.{device_of, told_of, was_done}
use Rattle.journal_model.specs.Made.{boot_seed_of}
use Rattle.bench.specs.Seen.{AnswersWhole}
use Rattle.vold_book.specs.declared.tasks.Running.{Running}
use Rattle.vold_book.specs.declared.tasks.Task.{Task}
use Rattle.vold_book.specs.declared.tasks.Task.TheVariants.{User as Using, Recovery as Recovers, Refusal, Fault}
use Rattle.vold_book.specs.Installed.{RingStands}
use Rattle.vold_book.specs.State.{Plain, ground_of}
use Rattle.vold_book.specs.Tasks.{Plans, TaskAfter, TaskFailed, HearsMade, is_untold, due_to}
use Rattle.vold_book.specs.Turns.{Making, after_call}
use Rattle.vold_book.specs.Whole.{Whole}
use Rattle.journal_model.specs.Machine.{machine_after}
use Rattle.vold_book.specs.Parts.{with_entry}
use Rattle.vold_book.proofs.Moves.{After, Notes, Moves, after_of, tried_then, whole-moved, machine-with, tried-with}
use Rattle.vold_book.proofs.PlannedRecovery.{few-listed}
use Rattle.vold_book.proofs.RecoveryTurns.{recovery-fits, recovery-heard, recovery-moves}
use Rattle.vold_book.proofs.RingKept.{ring-called}
use Rattle.vold_book.proofs.Bounds.{small-bounds}
use Rattle.vold_book.proofs.Small.{small-called}
use Rattle.vold_book.proofs.Shown.{HearsWhole, call-due, call-falls}
use Rattle.vold_book.proofs.Charged.{called-charged}
use Rattle.vold_book.proofs.CleanCalls.{clean-called}
use Rattle.vold_book.proofs.Tracked.{noted-stays}
use Rattle.vold_book.proofs.MadeCalls.{MadeCall, left_by, IsNotes}
use Rattle.vold_book.proofs.UserRuns.{UserRuns, runs-now, known}
use Rattle.vold_book.proofs.UserTurns.{user-hears, user-done}
use Rattle.journal_model.specs.declared.entries.Device.{Device}
use Rattle.vold_book.proofs.EndedKept.{called-ended}
use Rattle.vold_book.proofs.KeptStore.{made-store}
use Rattle.vold_book.proofs.DropsFew.{drops-fit}
use Rattle.vold_book.proofs.OwedKept.{called-notices}
use Rattle.vold_book.proofs.SweptKept.{called-swept, called-numbered}
use Rattle.vold_book.proofs.UserFailures.{user-fits, user-failed, user-goes_on, untold-hears}
use Rattle.vold_book.proofs.Worked.{on-now, held-now, recovers-it}

module _ (book : Plain) (actor : Actor) (it : Running) (whole : Whole book) (call : Call)
    (change : Option LocalChange) where
  -- what the plan of a call gives
  pub record Goes (now : Task) : Type 0 where
    pub fits : Fits book.bench call
    pub hears : (made : Made) (bench : Seen) → IsMade book.bench bench call (Ok made) → AnswersWhole (Ok made)
        → HearsMade call now made
    pub moves : (made : Made) (then : Task) (bench : Seen) → IsMade book.bench bench call (Ok made)
        → AnswersWhole (Ok made) → TaskAfter call made now then
        → Moves book actor it.number (after_of book it.number call change then made bench)

  -- where a user's command makes it
  module _ (task : UserTask) (plans : Plans book actor it (Using task) (CallNext call change)) where
    abbrev runs : UserRuns book
    runs = runs-now book whole actor it task plans.runs (on-now book actor it (Using task) (CallNext call change)
        plans)
        (held-now book actor it (Using task) (CallNext call change) plans)

    heard : (made : Made) (bench : Seen) → IsMade book.bench bench call (Ok made) → AnswersWhole (Ok made)
        → HearsMade call (Using task) made
    heard (Heard answer) bench is_made long =
        user-hears book whole runs call change answer bench plans.shows long is_made
    heard (Failed device) bench is_made long = untold-hears book whole runs call change plans.shows

    failed : (device : Device) (then : Task) (bench : Seen) (untold : Bool) → is_untold call ≡ untold
        → IsMade book.bench bench call (Ok (Failed device)) → TaskFailed untold call device (Using task) then
        → Moves book actor it.number (after_of book it.number call change then (Failed device) bench)
    failed device then bench false is is_made after =
        subst (λ t. Moves book actor it.number (after_of book it.number call change t (Failed device) bench))
        (sym after.is) (user-failed book whole runs change bench call device after.blobs plans.shows is_made after.all)
    failed device then bench true is is_made after =
        subst (λ t. Moves book actor it.number (after_of book it.number call change t (Failed device) bench))
        (sym after) (user-goes_on book whole runs call change bench device is plans.shows is_made)

    moved : (made : Made) (then : Task) (bench : Seen) → IsMade book.bench bench call (Ok made)
        → AnswersWhole (Ok made) → TaskAfter call made (Using task) then
        → Moves book actor it.number (after_of book it.number call change then made bench)
    moved (Heard answer) then bench is_made long after =
        subst (λ t. Moves book actor it.number (after_of book it.number call change t (Heard answer) bench))
        (sym after) (user-done book whole runs call change answer bench plans.shows long is_made)
    moved (Failed device) then bench is_made long after =
        failed device then bench (is_untold call) refl is_made after

  pub goes : (now : Task) → Plans book actor it now (CallNext call change) → Goes now
  goes (Using task) plans = record {
    fits = user-fits book whole (runs task plans) call change plans.shows
        (small-bounds book whole.small whole.numbers.few).given
        (drops-fit book whole (known book whole (runs task plans)) (user_of task));
    hears = heard task plans;
    moves = moved task plans;
  }
  goes (Recovers recovery) plans =
      let is = recovers-it (ground_of book) plans.on.began (due_to book it) it.task (Recovers recovery) plans.jobs
      recovery plans.worked refl in record {
        fits = recovery-fits book actor it recovery whole is (Recovers recovery) call change plans
            (few-listed book whole);
        hears = λ made bench is_made long.
            recovery-heard book actor it recovery whole is (Recovers recovery) call change plans made;
        moves = λ made then bench is_made long after.
            recovery-moves book actor it recovery whole is (Recovers recovery) call change plans made then bench
            is_made after;
      }
  goes (Refusal reply) plans = cc
  goes (Fault device held) plans = cc

-- a blob that a task hears has 32 bytes
pub hears-whole : (made : Made) → AnswersWhole (Ok made) → HearsWhole made
hears-whole made long blob is = subst (λ m. AnswersWhole (Ok m)) is long

module _ (book : Plain) (actor : Actor) (it : Running) (making : Making) (whole : Whole book)
    (plans : Plans book actor it making.task (CallNext making.call making.change)) where
  -- the devices' conditions hold
  pub call-fits : Fits book.bench making.call
  call-fits = (goes book actor it whole making.call making.change making.task plans).fits

  -- and the task may hear what the device answered
  pub call-hears : (made : Made) (bench : Seen) → IsMade book.bench bench making.call (Ok made)
      → AnswersWhole (Ok made) → HearsMade making.call making.task made
  call-hears = (goes book actor it whole making.call making.change making.task plans).hears

  module _ (made : Made) (bench : Seen) (is_made : IsMade book.bench bench making.call (Ok made))
      (long : AnswersWhole (Ok made)) (after : TaskAfter making.call made making.task making.then) where
    abbrev pub done : MadeCall book actor it
    done = record {
      making = making;
      made = made;
      bench = bench;
      plans = plans;
      fits = call-fits;
      is_made = is_made;
      long = long;
      after = after;
      moves = (goes book actor it whole making.call making.change making.task plans).moves made making.then bench
          is_made long after;
    }

    abbrev then : After
    then = left_by book actor it done

    -- the Book is whole
    pub whole-called : (notes : Notes) → AreCounted book.bench bench (device_of making.call) (told_of (Ok made))
        → IsNotes book actor it done notes
        → Whole (after_call book actor it.number (record making { owed = notes.owed }) made notes.marks bench)
    whole-called notes counted is =
        let store = made-store book.bench bench whole.store making.call made is_made in
        let stays = noted-stays (was_done made) making.call (is_some making.change) book.tracker in
        whole-moved book actor it notes then whole plans.runs done.moves (book.ledger.callers ++ actor ∷ [])
        (called-notices book whole actor it done notes is) (record {
          short = whole.short;
          seeded = whole.seeded ∙ ap (boot_seed_of book.seed) (sym stays.boot);
          store = store.whole;
          level = store.level ∙ whole.level ∙ sym stays.level;
          current = store.current whole.current;
          ring = subst (λ t. RingStands t book.seed bench.keys
              (machine_after (with_entry book.ledger.entries then.entry)))
              (sym (tried-with book.seed book.ledger.entries then.entry))
              (subst (RingStands (tried_then book then) book.seed bench.keys)
              (sym (machine-with book.ledger.entries then.entry))
              (ring-called book actor it making whole plans made bench is_made));
          clean = clean-called book actor it (record making { owed = notes.owed }) bench whole plans made notes.marks
              is_made after long;
          numbered = called-numbered book whole actor it done;
          swept = called-swept book whole actor it done;
          ended = called-ended book whole actor it done notes;
          small = small-called book whole.small actor it plans.runs making made bench notes
              (call-falls book actor it making plans made after bench is_made whole (hears-whole made long))
              is_made whole.numbers.few;
          charged = λ device. called-charged book device (whole.charged device) actor it.number making made bench notes
              counted is_made (call-due book actor it making plans made after device);
        })
