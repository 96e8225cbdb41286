-- What a turn that begins a command leaves of a Book, over any devices: the command began, and the Book is whole.
use Rattle.std.proofs.Common.{◌≡◌, ℕ, ◌<◌, List, [], ◌∷◌, ◌++◌, refl, sym, ap, ◌∙◌, subst, arith}
use Rattle.std.proofs.lemmas.Option.{same_Some}
use Rattle.std.specs.Prelude.{Option, Some, IsNone, IsSomeAnd, slice_get}
use Rattle.std.specs.FinMap as map
use Rattle.deferred_delete.specs.Deferral.{Deferral, IsNumbered}
use Rattle.deferred_delete.proofs.Numbered.{numbered-none}
use Rattle.journal_model.specs.declared.commands.Actor.{Actor}
use Rattle.journal_model.specs.declared.commands.Command.{Command}
use Rattle.journal_model.specs.declared.commands.Reply.{Reply}
use Rattle.journal_model.specs.declared.entries.Birth.{Birth}
use Rattle.journal_model.specs.declared.entries.Entry.TheVariants.{Began}
use Rattle.journal_model.specs.Actor.{actor_total, actor_exact}
use Rattle.journal_model.specs.Command.{actor_of}
use Rattle.journal_model.specs.Refusals.{refusal_of}
use Rattle.journal_model.specs.Machine.{TakesTurn, numbers_begun}
use Rattle.docket.specs.Docket.{IsFirst, TakesFirst, begun_by}
use Rattle.docket.proofs.Accounts.{first-given}
use Rattle.step_core.specs.Table.{Users}
use Rattle.bench.specs.Bench.{BenchState, Senses}
use Rattle.vold_book.specs.declared.tasks.Task.{Task}
use Rattle.vold_book.specs.declared.tasks.Task.TheVariants.{User as Using, Recovery as Recovers, Refusal, Fault}
use Rattle.vold_book.specs.Owed.{nothing_owed}
use Rattle.vold_book.specs.Parts.{LedgerState}
use Rattle.vold_book.specs.State.{Docket, BookState, Plain, seen}
use Rattle.vold_book.specs.Turns.{Start, start_in, FirstTask, facts_in, begun_list, begun_bench, begun_marks, Begins}
use Rattle.vold_book.specs.Whole.{IsWhole, turns_left}
use Rattle.vold_book.proofs.Begun.{whole-begun, none_of}
use Rattle.vold_book.proofs.Charged.{begun-charged, due-first}
use Rattle.vold_book.proofs.CleanBegun.{clean-begun}
use Rattle.vold_book.proofs.EndedBegun.{begun-ended}
use Rattle.vold_book.proofs.Falls.{begun-falls}
use Rattle.vold_book.proofs.FewSlots.{few-slots, few-of-user}
use Rattle.vold_book.proofs.FirstTasks.{begun_entry}
use Rattle.vold_book.proofs.Moves.{Steady}
use Rattle.vold_book.proofs.Plains.{Beginning, IsBeginning, begun_plain}
use Rattle.vold_book.proofs.RingKept.{ring-entered}
use Rattle.vold_book.proofs.Small.{FewSlots, small-begun}
use Rattle.vold_book.proofs.SweptKept.{swept-quiet}

-- the numbers of the list rise still
numbered-begun : (task : Task) (list : Deferral) → IsNumbered list → IsNumbered (begun_list task list)
numbered-begun (Using task) list numbered = numbered
numbered-begun (Recovers recovery) list numbered = numbered-none list 0 numbered (omega arith)
numbered-begun (Refusal reply) list numbered = numbered
numbered-begun (Fault device held) list numbered = numbered

module _ {D E F : Type 0} (book : BookState (BenchState D E F)) (actor : Actor) (first number : ℕ) (command : Command)
    (task : Task) where
  -- the first of a queue begins
  pub begun-book : (birth : Birth) (bench : BenchState D E F) (boot_seed : List ℕ) (marks : Users)
      (ledger ledger' : LedgerState) (docket' : Docket)
      → TakesFirst book.docket docket' actor number (record { number = first; task = task; owed = nothing_owed })
      → IsSomeAnd (map.get book.docket.waiting actor) (λ queue. IsFirst queue first)
      → slice_get book.docket.commands first ≡ Some command
      → birth.boot ≡ book.tracker.boot → birth.index ≡ begun_by book.docket actor
      → FirstTask command (record (start_in book.bench.places book actor) { birth = birth })
      (refusal_of command (facts_in book.bench.places book command)) task
      → bench ≡ begun_bench task book.bench → boot_seed ≡ book.boot_seed → marks ≡ begun_marks task book.marks
      → ledger ≡ book.ledger → ledger' ≡ record ledger { entries = ledger.entries ++ Began first actor command ∷ [] }
      → Begins book
      (record book { bench = bench; boot_seed = boot_seed; marks = marks; ledger = ledger'; docket = docket' }) actor
  begun-book birth bench boot_seed marks ledger ledger' docket' takes is_first given boot index first_task is_bench
      same_seed is_marks same entered =
      let number_is : number ≡ first =
      subst (λ found. IsSomeAnd found (λ queue. IsFirst queue first)) takes.1 is_first in
      let born : birth ≡ record { boot = book.tracker.boot; index = begun_by book.docket actor } =
      λ i. record { boot = boot i; index = index i } in record {
        number = first;
        numbers = takes.0;
        command = command;
        task = task;
        queued = takes.1 ∙ ap (λ n. Some (n ∷ takes.0)) number_is;
        given = given;
        first = subst (λ b. FirstTask command (record (start_in book.bench.places book actor) { birth = b })
            (refusal_of command (facts_in book.bench.places book command)) task) born first_task;
        state = λ i. record book {
          bench = is_bench i;
          boot_seed = same_seed i;
          marks = is_marks i;
          ledger = (entered ∙ ap {A = LedgerState}
              (λ l. record l { entries = l.entries ++ Began first actor command ∷ [] }) same) i;
          docket = takes.2 i;
        };
      }

module _ {D E F : Type 0} (senses : Senses D E F) (book : BookState (BenchState D E F))
    (whole : IsWhole senses book) (after : BookState (BenchState D E F)) (actor : Actor)
    (idle : IsNone (map.get book.docket.running actor)) (begins : Begins book after actor)
    (takes : TakesTurn book.tracker.phase actor) where
  abbrev plain : Plain
  plain = seen senses book

  abbrev beginning : Beginning
  beginning = record {
    number = begins.number;
    numbers = begins.numbers;
    command = begins.command;
    task = begins.task;
  }

  abbrev start : Start
  start = start_in plain.bench.places plain actor

  abbrev verdict : Option Reply
  verdict = refusal_of begins.command (facts_in book.bench.places book begins.command)

  is_beginning : IsBeginning plain actor beginning
  is_beginning = record { queued = begins.queued; given = begins.given; first = begins.first }

  -- the command is the actor's
  own : actor_of begins.command ≡ actor
  own =
      let first = first-given actor_total actor_exact actor_of book.docket (numbers_begun book.ledger.entries)
      whole.numbers.accounted actor begins.number begins.numbers begins.queued in
      ap actor_of (same_Some begins.command first.0 (sym begins.given ∙ first.1)) ∙ first.2

  few : FewSlots begins.command start
  few = record {
    tried = few-slots plain actor begins.command whole takes own;
    owned = few-of-user plain actor begins.command whole takes own;
  }

  steady-begun : Steady (begun_plain plain actor beginning)
  steady-begun = record {
    short = whole.short;
    seeded = whole.seeded;
    store = whole.store;
    level = whole.level;
    current = whole.current;
    ring = ring-entered plain (begun_entry plain actor beginning) refl refl whole.ring;
    clean = clean-begun plain actor beginning start whole (none_of (map.get book.docket.running actor) idle)
        begins.first;
    numbered = numbered-begun begins.task book.bench.list whole.numbered;
    swept = swept-quiet plain.bench.store book.ledger.entries (begun_entry plain actor beginning) refl whole.swept;
    ended = begun-ended plain actor beginning whole takes is_beginning own;
    small = small-begun plain whole.small actor beginning start verdict begins.queued few begins.first;
    charged = λ device. begun-charged plain device (whole.charged device) actor beginning
        (due-first device begins.command start verdict begins.task begins.first);
  }

  pub begins-whole : IsWhole senses after
  begins-whole = subst (λ b. IsWhole senses b) (sym begins.state)
      (whole-begun plain actor beginning whole idle takes is_beginning own steady-begun)

  pub begins-falls : turns_left (seen senses after) < turns_left plain
  begins-falls = subst (λ b. turns_left b < turns_left plain) (sym (ap (seen senses) begins.state))
      (begun-falls plain whole actor beginning start verdict idle begins.queued own few begins.first)
