-- What a stop and a restart leave of a Book.
use Rattle.std.specs.Prelude.{◌≡◌, ℕ, ◌+◌, [], ◌∷◌, ◌++◌}
use Rattle.std.specs.FinMap as map
use Rattle.tree_model.specs.declared.ops.Cut.{Cut}
use Rattle.tree_model.specs.Disk.{stopped}
use Rattle.journal_model.specs.declared.commands.Actor.TheVariants.{Boot}
use Rattle.journal_model.specs.declared.commands.Command.TheVariants.{Recover}
use Rattle.journal_model.specs.declared.entries.Entry.TheVariants.{Stopped, Restarted}
use Rattle.journal_model.specs.declared.entries.Order.TheVariants.{Stop}
use Rattle.journal_model.specs.declared.phase.Phase.TheVariants.{Down, Halted}
use Rattle.journal_model.specs.Made.{boot_seed_of}
use Rattle.docket.specs.Docket.{with_first_command}
use Rattle.user_world.specs.Timelines.{survivors}
use Rattle.bench.specs.Bench.{BenchState, Senses}
use Rattle.vold_book.specs.State.{BookState, seen, machine_of, timeline}
use Rattle.vold_book.specs.Turns.{unlisted}

-- the Book once the machine stopped: nothing runs and nothing is listed, and what waits still waits
abbrev pub after_stop : {B : Type 0} → BookState B → B → Cut → ℕ → BookState B
after_stop book bench cut kept = record book {
  bench = bench;
  ledger = record book.ledger {
    entries = book.ledger.entries ++ Stopped kept ∷ [];
    orders = book.ledger.orders ++ Stop cut ∷ [];
  };
  docket = record book.docket { running = map.empty };
  tracker = record book.tracker { phase = Halted; durable = kept; pending = [] };
}

-- a stop keeps exactly the operations of its cut, with its fills, and its entry has the number of changes that
-- survive: the durable ones, and those among the first pending operations that it keeps; no key is left in the ring,
-- and the keystore stays
pub record IsStopped {D E F : Type 0} (senses : Senses D E F) (before after : BookState (BenchState D E F))
    (cut : Cut) : Type 0 where
  pub left : (seen senses after).bench ≡ record (seen senses before).bench {
    disk = stopped (seen senses before).bench.disk cut.keep cut.fills;
    keys = [];
    list = unlisted before.bench.list;
  }
  pub state : after ≡ after_stop before after.bench cut
      (survivors (timeline (senses.disk before.bench.tree) (machine_of before)) cut.keep)

-- the Book once the machine started again: a recovery is the first that waits for it
abbrev pub after_restart : {B : Type 0} → BookState B → B → ℕ → BookState B
after_restart book bench level = record book {
  bench = bench;
  boot_seed = boot_seed_of book.seed (book.tracker.boot + 1);
  ledger = record book.ledger {
    entries = book.ledger.entries ++ Restarted (book.tracker.boot + 1) level ∷ [];
  };
  docket = record (with_first_command book.docket Boot Recover) { begun = map.empty };
  tracker = record book.tracker { phase = Down; boot = book.tracker.boot + 1; level = level };
}

-- a restart leaves the devices, where the level is the one that the machine has
pub record IsRestarted {D E F : Type 0} (senses : Senses D E F) (before after : BookState (BenchState D E F))
    (level : ℕ) : Type 0 where
  pub same : (seen senses after).bench ≡ (seen senses before).bench
  pub state : after ≡ after_restart before after.bench level
