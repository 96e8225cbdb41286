-- What else stands of a Book once a reply was given: besides what speaks of the machine.
use Rattle.std.proofs.Common.{true, refl, arith}
use Rattle.journal_model.specs.declared.commands.Actor.{Actor}
use Rattle.journal_model.specs.declared.commands.Reply.{Reply}
use Rattle.journal_model.specs.declared.entries.Entry.TheVariants.{Replied}
use Rattle.blob_custody.specs.Custody.{IsClean}
use Rattle.deferred_delete.specs.Deferral.{IsNumbered}
use Rattle.task_turns.specs.declared.next.Next.TheVariants.{Reply as ReplyNext}
use Rattle.bench.specs.Bench.{listed}
use Rattle.vold_book.specs.declared.tasks.Running.{Running}
use Rattle.vold_book.specs.declared.tasks.Task.{Task}
use Rattle.vold_book.specs.State.{Plain}
use Rattle.vold_book.specs.Tasks.{Plans, lists_with}
use Rattle.vold_book.specs.Whole.{IsSmall, custody_of, Whole}
use Rattle.vold_book.proofs.Bounds.{small-bounds}
use Rattle.vold_book.proofs.Charged.{replied-charged}
use Rattle.vold_book.proofs.CleanTurns.{clean-replied}
use Rattle.vold_book.proofs.EndedReplied.{replied-ended}
use Rattle.vold_book.proofs.Moves.{Steady}
use Rattle.vold_book.proofs.Numbering.{numbered-listed}
use Rattle.vold_book.proofs.Plains.{replied_plain}
use Rattle.vold_book.proofs.RingKept.{ring-entered}
use Rattle.vold_book.proofs.Shown.{reply-told}
use Rattle.vold_book.proofs.Small.{listed-next, listed-promised, small-replied}
use Rattle.vold_book.proofs.SweptKept.{swept-quiet}

module _ (book : Plain) (actor : Actor) (it : Running) (now : Task) (reply : Reply) (whole : Whole book)
    (plans : Plans book actor it now (ReplyNext reply)) where
  abbrev after : Plain
  after = replied_plain book actor it plans.on.began.command reply

  small : IsSmall after
  small = small-replied book whole.small actor it plans.runs plans.on.began.command reply

  -- what the command held that failed has its numbers
  numbered : IsNumbered (listed book.bench.list (lists_with it.task))
  numbered =
      let room = (small-bounds after small whole.numbers.few).room_held in
      let next = listed-next true book.bench.list (lists_with it.task) in
      let promised = listed-promised true book.bench.list (lists_with it.task) in
      numbered-listed true book.bench.list (lists_with it.task) whole.numbered (omega (arith, room, next, promised))

  clean : IsClean (custody_of after)
  clean = clean-replied book actor it now plans.on.began.command reply whole plans
      (whole.numbers.given it.number plans.on.began plans.on.at).given

  pub steady-replied : Steady after
  steady-replied = record {
    short = whole.short;
    seeded = whole.seeded;
    store = whole.store;
    level = whole.level;
    current = whole.current;
    ring = ring-entered book (Replied it.number reply) refl refl whole.ring;
    clean = clean;
    numbered = numbered;
    swept = swept-quiet book.bench.store book.ledger.entries (Replied it.number reply) refl whole.swept;
    ended = replied-ended book actor it now reply whole plans clean;
    small = small;
    charged = λ device. replied-charged book device (whole.charged device) actor it plans.on.began.command reply
        plans.runs (reply-told book actor it now reply plans device);
  }
