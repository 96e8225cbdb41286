-- Of a user whose keys were ended a stop and a restart leave nothing either, nor does a further command.
use Rattle.std.proofs.Common.{◌≡◌, ℕ, ◌+◌, true, [], ◌∷◌, ◌++◌, refl, sym, ◌∙◌}
use Rattle.std.proofs.lemmas.Option.{none-some}
use Rattle.std.specs.FinMap as map
use Rattle.tree_model.specs.declared.ops.Cut.{Cut}
use Rattle.tree_model.specs.Disk.{stopped}
use Rattle.journal_model.specs.declared.commands.Actor.TheVariants.{User as UserActor}
use Rattle.journal_model.specs.declared.commands.Command.{Command}
use Rattle.journal_model.specs.declared.entries.Entry.TheVariants.{Stopped, Restarted}
use Rattle.journal_model.specs.declared.phase.Phase.TheVariants.{Up, Down, Halted}
use Rattle.journal_model.specs.Actor.{actor_cmp}
use Rattle.journal_model.specs.Endings.{is_ended}
use Rattle.bench.specs.Bench.{Plain as Seen}
use Rattle.vold_book.specs.Endings.{LeavesNothing}
use Rattle.vold_book.specs.State.{Plain}
use Rattle.vold_book.specs.Stops.{after_stop, after_restart}
use Rattle.vold_book.specs.Turns.{with_command, unlisted}
use Rattle.vold_book.specs.Whole.{Whole}
use Rattle.vold_book.proofs.EndedSteps.{ended-append}
use Rattle.vold_book.proofs.Sizes.{left-stopped}

module _ (book : Plain) (whole : Whole book) (user : ℕ) where
  -- a stop
  module _ (cut : Cut) (kept : ℕ) where
    abbrev left_bench : Seen
    left_bench = record book.bench {
      disk = stopped book.bench.disk cut.keep cut.fills;
      keys = [];
      list = unlisted book.bench.list;
    }

    pub ended-stopped : is_ended (book.ledger.entries ++ Stopped kept ∷ []) user ≡ true
        → LeavesNothing (after_stop book left_bench cut kept) user
    ended-stopped ended = record {
      vacant = λ left site is. (whole.ended user was).vacant left site
          (left-stopped book.bench.disk cut.keep cut.fills left is);
      keyless = λ class. refl;
      listed = λ up. absurd (apart up);
      idle = λ it at. absurd (none-some it (sym (map.get-empty actor_cmp (UserActor user)) ∙ at));
    }
      where
        was : is_ended book.ledger.entries user ≡ true
        was = sym (ended-append user book.ledger.entries (Stopped kept)) ∙ ended

        apart : Halted ≡ Up → ⊥
        apart e = cc

  -- the machine started again
  pub ended-restarted : (level : ℕ)
      → is_ended (book.ledger.entries ++ Restarted (book.tracker.boot + 1) level ∷ []) user ≡ true
      → LeavesNothing (after_restart book book.bench level) user
  ended-restarted level ended = record {
    vacant = nothing.vacant;
    keyless = nothing.keyless;
    listed = λ up. absurd (apart up);
    idle = nothing.idle;
  }
    where
      nothing : LeavesNothing book user
      nothing = whole.ended user
          (sym (ended-append user book.ledger.entries (Restarted (book.tracker.boot + 1) level)) ∙ ended)

      apart : Down ≡ Up → ⊥
      apart e = cc

  -- a command was given out
  pub ended-given : (command : Command) → is_ended book.ledger.entries user ≡ true
      → LeavesNothing (with_command book command) user
  ended-given command ended =
      let nothing = whole.ended user ended in record {
        vacant = nothing.vacant;
        keyless = nothing.keyless;
        listed = nothing.listed;
        idle = nothing.idle;
      }
