-- What each line of a script leaves of a Book.
use Rattle.std.proofs.Common.{◌≡◌, ◌≢◌, ℕ, ◌+◌, min, List, [], ◌∷◌, ◌++◌}
use Rattle.std.proofs.Common.{length, take, refl, sym, ap, ◌∙◌, subst, arith}
use Rattle.std.proofs.lemmas.List.{append-nil}
use Rattle.std.specs.Prelude.{Option, Some, None, Result, Ok, Err, IsOk, OnOk}
use Rattle.tree_model.specs.declared.memory.NoMemory.{NoMemory}
use Rattle.tree_model.specs.declared.ops.Cut.{Cut}
use Rattle.bench.specs.Bench.{BenchState, Senses}
use Rattle.tree_model.specs.Tree.{changes_in}
use Rattle.journal_model.specs.declared.commands.Actor.{Actor}
use Rattle.journal_model.specs.declared.commands.Actor.TheVariants.{User}
use Rattle.journal_model.specs.declared.commands.Command.{Command}
use Rattle.journal_model.specs.declared.commands.EnqueueFault.{EnqueueFault}
use Rattle.journal_model.specs.declared.commands.Command.TheVariants.{Recover}
use Rattle.journal_model.specs.declared.entries.Entry.TheVariants.{Restarted}
use Rattle.journal_model.specs.Command.{actor_of, user_in}
use Rattle.journal_model.specs.Machine.{machine_after, numbers_begun}
use Rattle.journal_model.proofs.ByCommand.{no-user, of-user}
use Rattle.docket.specs.Docket.{with_command as docket_with}
use Rattle.script_text.specs.declared.script.Line.TheVariants.{Seed, Do, Turns, All, Stop, Restart}
use Rattle.script_text.specs.Script.{IsLine}
use Rattle.journal_model.specs.declared.phase.Phase.TheVariants.{Down, Halted}
use Rattle.vold_book.specs.State.{BookState, machine_of, timeline}
use Rattle.vold_book.specs.Whole.{IsWhole}
use Rattle.user_world.specs.Timelines.{survivors}
use Rattle.vold_book.specs.Stops.{IsStopped, IsRestarted}
use Rattle.vold_book.specs.Turns.{with_command, IsEnqueued}
use Rattle.vold_run.specs.Fits.{AllFits, TurnsOf, history_of}
use Rattle.vold_run.specs.Lines.{IsBetweenLines, IsKept, IsLineDone}
use Rattle.vold_run.specs.Rounds.{NothingLeft}
use Rattle.vold_run.proofs.Counted.{all_counts, counts_in, counts-same}
use Rattle.vold_run.proofs.Kept.{AreInOrder}
use Rattle.vold_run.proofs.Queued.{order-given, order-restarted}

not_ok : (answer : Result ℕ EnqueueFault) (fault : EnqueueFault) → answer ≡ Err fault → ¬ (IsOk answer)
not_ok (Ok number) fault is ok = cc
not_ok (Err other) fault is ok = cc

no-more : (keep count : ℕ) → keep ≡ 0 → min keep count ≡ 0
no-more keep count is = omega (arith, is)

down-runs : Down ≢ Halted
down-runs e = cc

module _ {D E F : Type 0} (senses : Senses D E F) (before after : BookState (BenchState D E F))
    (between : IsBetweenLines senses before) where
  pub seed-done : (bytes : List ℕ) → before.tracker.phase ≢ Halted → after ≡ before
      → IsLineDone senses (Seed bytes) before after
  seed-done bytes ready same = record {
    commands = ap (λ b. b.docket.commands) same ∙ sym (append-nil before.docket.commands);
    orders = ap (λ b. b.ledger.orders) same ∙ sym (append-nil before.ledger.orders);
    seed = ap (λ b. b.seed) same;
    fits = ap history_of same;
    counted =
        counts-same senses before after (ap (counts_in senses) same) (ap (λ b. b.ledger.callers) same);
    idle = λ is. cc;
    still = subst (λ b. b.tracker.phase ≢ Halted) (sym same) ready;
    between = subst (IsBetweenLines senses) (sym same) between;
  }

  pub command-done : (command : Command) (user : ℕ) → actor_of command ≡ User user → before.tracker.phase ≢ Halted
      → IsWhole senses after → after ≡ with_command before command
      → IsLineDone senses (Do command) before after
  command-done command user own ready whole state = record {
    commands = ap (λ b. b.docket.commands) state;
    orders = ap (λ b. b.ledger.orders) state ∙ sym (append-nil before.ledger.orders);
    seed = ap (λ b. b.seed) state;
    fits = ap history_of state;
    counted =
        counts-same senses before after (ap (counts_in senses) state) (ap (λ b. b.ledger.callers) state);
    idle = λ is. cc;
    still = subst (λ b. b.tracker.phase ≢ Halted) (sym state) ready;
    between = record {
      whole = whole;
      level = ap (λ b. b.tracker.level) state ∙ between.level;
      order = subst (λ b. AreInOrder b.docket.waiting) (sym state) (
          subst (λ actor. AreInOrder (docket_with before.docket actor command).waiting) (sym own)
          (order-given (numbers_begun before.ledger.entries) before.docket between.whole.numbers.accounted
          between.order user command));
    };
  }

  pub turns-done : (actor : Actor) (count : ℕ) → before.tracker.phase ≢ Halted
      → TurnsOf actor count (history_of before) (history_of after) → IsKept senses before after
      → IsLineDone senses (Turns actor count) before after
  turns-done actor count ready fits kept = record {
    commands = kept.commands ∙ sym (append-nil before.docket.commands);
    orders = kept.orders ∙ sym (append-nil before.ledger.orders);
    seed = kept.seed;
    fits = fits;
    counted = kept.counted;
    idle = λ is. cc;
    still = kept.still ready;
    between = kept.between;
  }

  pub all-done : before.tracker.phase ≢ Halted → AllFits (history_of before) (history_of after) → NothingLeft after
      → IsKept senses before after → IsLineDone senses All before after
  all-done ready fits idle kept = record {
    commands = kept.commands ∙ sym (append-nil before.docket.commands);
    orders = kept.orders ∙ sym (append-nil before.ledger.orders);
    seed = kept.seed;
    fits = fits;
    counted = kept.counted;
    idle = λ is. idle;
    still = kept.still ready;
    between = kept.between;
  }

  -- where no operation is kept, no further change is
  none-survive : (keep : ℕ) → keep ≡ 0
      → survivors (timeline (senses.disk before.bench.tree) (machine_of before)) keep
      ≡ (machine_after before.ledger.entries).kept
  none-survive keep is =
      let pending = (senses.disk before.bench.tree).pending in
      let none : changes_in (senses.disk before.bench.tree).stable (take (min keep (length pending)) pending) ≡ 0 =
      ap (λ n. changes_in (senses.disk before.bench.tree).stable (take n pending))
      (no-more keep (length pending) is) in
      omega (arith, none)

  stop-done : (cut : Cut) → IsWhole senses after → IsStopped senses before after cut
      → IsLineDone senses (Stop cut) before after
  stop-done cut whole stopped = record {
    commands = ap (λ b. b.docket.commands) stopped.state ∙ sym (append-nil before.docket.commands);
    orders = ap (λ b. b.ledger.orders) stopped.state;
    seed = ap (λ b. b.seed) stopped.state;
    fits = record {
      kept = survivors (timeline (senses.disk before.bench.tree) (machine_of before)) cut.keep;
      left = ap history_of stopped.state;
      none = λ is. none-survive cut.keep is;
    };
    counted =
        counts-same senses before after (ap all_counts stopped.left) (ap (λ b. b.ledger.callers) stopped.state);
    idle = λ is. cc;
    still = ap (λ b. b.tracker.phase) stopped.state;
    between = record {
      whole = whole;
      level = ap (λ b. b.tracker.level) stopped.state ∙ between.level;
      order = subst (λ b. AreInOrder b.docket.waiting) (sym stopped.state) between.order;
    };
  }

  -- where memory was there to stop
  pub stopped-done : (cut : Cut) → IsWhole senses after → (result : Result (Unit {0}) NoMemory)
      → OnOk result (IsStopped senses before after cut) → OnOk result (IsLineDone senses (Stop cut) before after)
  stopped-done cut whole (Ok done) stopped = stop-done cut whole stopped
  stopped-done cut whole (Err want) stopped = tt

  restart-done : (level : ℕ) → level ≡ 1 → IsWhole senses after → IsRestarted senses before after level
      → IsLineDone senses (Restart level) before after
  restart-done level one whole restarted = record {
    commands = ap (λ b. b.docket.commands) restarted.state;
    orders = ap (λ b. b.ledger.orders) restarted.state ∙ sym (append-nil before.ledger.orders);
    seed = ap (λ b. b.seed) restarted.state;
    fits =
        ap history_of restarted.state
        ∙ ap (λ boot. record {
          commands = before.docket.commands ++ Recover ∷ [];
          entries = before.ledger.entries ++ Restarted (boot + 1) level ∷ [];
          calls = before.ledger.callers;
        })
        (sym between.whole.agrees.boot);
    counted =
        counts-same senses before after (ap all_counts restarted.same) (ap (λ b. b.ledger.callers) restarted.state);
    idle = λ is. cc;
    still = λ halted. down-runs (sym (ap (λ b. b.tracker.phase) restarted.state) ∙ halted);
    between = record {
      whole = whole;
      level = ap (λ b. b.tracker.level) restarted.state ∙ one;
      order =
          subst (λ b. AreInOrder b.docket.waiting) (sym restarted.state)
          (order-restarted (numbers_begun before.ledger.entries) before.docket
          between.whole.numbers.accounted between.order Recover);
    };
  }

  -- where a command got its number
  pub given-done : (command : Command) → IsLine (Do command) → before.tracker.phase ≢ Halted
      → IsWhole senses after → (answer : Result ℕ EnqueueFault) → IsEnqueued before after command answer
      → (result : Result (Unit {0}) NoMemory) → (IsOk result → IsOk answer)
      → OnOk result (IsLineDone senses (Do command) before after)
  given-done command line ready whole answer enqueued (Err fault) given = tt
  given-done command line ready whole (Ok number) enqueued (Ok done) given = by (user_in command) refl
    where
      by : (user : Option ℕ) → user_in command ≡ user → IsLineDone senses (Do command) before after
      by None is = absurd (subst (λ c. IsLine (Do c)) (no-user command is) line).first
      by (Some user) is = command-done command user (of-user command user is) ready whole enqueued.2
  given-done command line ready whole (Err fault) enqueued (Ok done) given =
      absurd (not_ok (Err fault) fault refl (given refl))

  -- where a restart's recovery got its number
  pub begun-done : (level : ℕ) → IsLine (Restart level) → IsWhole senses after → (answer : Result ℕ EnqueueFault)
      → OnOk answer (IsRestarted senses before after level) → (result : Result (Unit {0}) NoMemory)
      → (IsOk result → IsOk answer) → OnOk result (IsLineDone senses (Restart level) before after)
  begun-done level line whole answer restarted (Err fault) given = tt
  begun-done level line whole (Ok number) restarted (Ok done) given =
      restart-done level (omega (arith, line.first.1, line.first.2)) whole restarted
  begun-done level line whole (Err fault) restarted (Ok done) given =
      absurd (not_ok (Err fault) fault refl (given refl))
