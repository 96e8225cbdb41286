-- A Book over what is seen of its devices, after a command began and after it got its reply.
use Rattle.std.proofs.Common.{ℕ, List, [], ◌∷◌, ◌++◌}
use Rattle.std.specs.FinMap as map
use Rattle.journal_model.specs.declared.commands.Actor.{Actor}
use Rattle.journal_model.specs.declared.commands.Command.{Command}
use Rattle.journal_model.specs.declared.commands.Reply.{Reply}
use Rattle.journal_model.specs.declared.entries.Entry.TheVariants.{Began, Replied}
use Rattle.journal_model.specs.Machine.{phase_after}
use Rattle.docket.specs.Docket.{after_begin as docket_begun}
use Rattle.journal_model.specs.Refusals.{refusal_of}
use Rattle.std.specs.Prelude.{◌≡◌, Some, slice_get}
use Rattle.bench.specs.Bench.{Plain as Seen, listed}
use Rattle.vold_book.specs.declared.tasks.Running.{Running}
use Rattle.vold_book.specs.declared.tasks.Task.{Task}
use Rattle.vold_book.specs.State.{Plain}
use Rattle.vold_book.specs.Tasks.{lists_with}
use Rattle.vold_book.specs.Turns.{begun_places, begun_list, begun_marks, FirstTask, start_in, facts_in}
use Rattle.vold_book.specs.Owed.{nothing_owed}

-- a recovery knows nothing of the tree as it begins, and nothing is listed then
abbrev pub begun_seen : Task → Seen → Seen
begun_seen task bench =
    record bench { places = begun_places task bench.places; list = begun_list task bench.list }

-- what begins: its number, those that wait behind it, the command, and what it does first
pub record Beginning : Type 0 where
  pub number : ℕ
  pub numbers : List ℕ
  pub command : Command
  pub task : Task

-- it waits first for its actor, and this is what it does first
pub record IsBeginning (book : Plain) (actor : Actor) (begins : Beginning) : Type 0 where
  pub queued : map.get book.docket.waiting actor ≡ Some (begins.number ∷ begins.numbers)
  pub given : slice_get book.docket.commands begins.number ≡ Some begins.command
  pub first : FirstTask begins.command (start_in book.bench.places book actor)
      (refusal_of begins.command (facts_in book.bench.places book begins.command)) begins.task

abbrev pub work_of : Beginning → Running
work_of begins = record { number = begins.number; task = begins.task; owed = nothing_owed }

abbrev pub begun_plain : Plain → Actor → Beginning → Plain
begun_plain book actor begins = record book {
  bench = begun_seen begins.task book.bench;
  marks = begun_marks begins.task book.marks;
  ledger = record book.ledger {
    entries = book.ledger.entries ++ Began begins.number actor begins.command ∷ [];
  };
  docket = docket_begun book.docket actor begins.numbers (work_of begins);
}

abbrev pub replied_plain : Plain → Actor → Running → Command → Reply → Plain
replied_plain book actor it command reply = record book {
  bench = record book.bench { list = listed book.bench.list (lists_with it.task) };
  ledger = record book.ledger { entries = book.ledger.entries ++ Replied it.number reply ∷ [] };
  docket = record book.docket { running = map.remove book.docket.running actor };
  tracker = record book.tracker { phase = phase_after book.tracker.phase command reply };
}
