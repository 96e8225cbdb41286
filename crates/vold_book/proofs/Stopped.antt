-- A Book as it is opened is whole, and a stop, a restart and a command that is given out keep it whole.
use Rattle.std.proofs.Common.{◌≡◌, ◌≢◌, ℕ, ◌+◌, ◌≤◌, ◌<◌, List, [], ◌∷◌, ◌++◌}
use Rattle.std.proofs.Common.{length, refl, sym, ap, ◌∙◌, subst, arith, length-append}
use Rattle.std.proofs.lemmas.Option.{none-some}
use Rattle.std.specs.Prelude.{Option, Some, None, IsSomeAnd, is_some, min, unwrap_or}
use Rattle.std.specs.Ordering.{nat_cmp}
use Rattle.std.specs.FinMap as map
use Rattle.std.proofs.lemmas.List.{length-take-le}
use Rattle.tree_model.specs.declared.places.Place.TheVariants.{De}
use Rattle.tree_model.specs.declared.ops.Cut.{Cut}
use Rattle.tree_model.specs.Dir.{Files}
use Rattle.tree_model.specs.Disk.{stopped}
use Rattle.tree_model.specs.Counted.{Counts}
use Rattle.tree_model.specs.Order.{place_cmp}
use Rattle.tree_model.proofs.Images.{changes_in-take}
use Rattle.journal_model.specs.declared.commands.Actor.{Actor}
use Rattle.journal_model.specs.declared.commands.Actor.TheVariants.{Boot}
use Rattle.journal_model.specs.declared.commands.Command.{Command}
use Rattle.journal_model.specs.declared.commands.Command.TheVariants.{Recover}
use Rattle.journal_model.specs.declared.entries.Entry.{Entry}
use Rattle.journal_model.specs.declared.entries.Entry.TheVariants.{Stopped, Restarted}
use Rattle.journal_model.specs.declared.phase.Phase.{Phase}
use Rattle.journal_model.specs.declared.phase.Phase.TheVariants.{Up, Down, Halted}
use Rattle.journal_model.specs.Actor.{actor_cmp, actor_total, actor_exact}
use Rattle.journal_model.specs.Command.{actor_of}
use Rattle.journal_model.specs.Machine.{Machine, Running as BeganCommand, after_entry, first_machine, numbers_begun}
use Rattle.journal_model.specs.Users.{fold_changes}
use Rattle.journal_model.proofs.Steps.{machine_after-append, legal-append, begun_by-append}
use Rattle.docket.specs.Docket.{with_command as docket_with, with_first_command}
use Rattle.docket.specs.Accounts.{Accounted}
use Rattle.docket.proofs.Accounts.{accounted-empty, accounted-given}
use Rattle.docket.proofs.Accounts.{accounted-given_first, accounted-same, get-stays}
use Rattle.user_world.specs.Meaning.{StandsFor, UserStands}
use Rattle.user_world.specs.Timelines.{survivors}
use Rattle.user_world.proofs.Timelines.{line-stopped, line-still}
use Rattle.keystore_model.specs.Store.{empty_store}
use Rattle.key_directory.specs.Tried.{attempts_of}
use Rattle.key_directory.specs.Vaults.{sealed}
use Rattle.user_world.specs.Meaning.{Meaning}
use Rattle.bench.specs.Bench.{Plain as Seen, named_in}
use Rattle.vold_book.specs.declared.tasks.Running.{Running}
use Rattle.vold_book.specs.State.{Docket, Plain, machine_of, tried_in, timeline, vault_of}
use Rattle.vold_book.specs.Stops.{after_stop, after_restart}
use Rattle.vold_book.specs.Turns.{new_book, opened_at, with_command, unlisted}
use Rattle.vold_book.specs.Recovery.{max_commands}
use Rattle.vold_book.specs.Whole.{Numbers, PhaseStands, Whole}
use Rattle.vold_book.proofs.Moves.{Steady, whole-of, tried-with}
use Rattle.vold_book.proofs.Numbers.{quiet-stopped, numbers-quiet, numbers-running}
use Rattle.vold_book.proofs.Numbers.{begun-quiet, all_given-append, all_given-push}

module _ (book : Plain) (whole : Whole book) where
  abbrev machine : Machine
  machine = machine_of book

  -- a stop
  module _ (cut : Cut) (running : book.tracker.phase ≢ Halted) where
    abbrev survived : ℕ
    survived = survivors (timeline book.bench.disk machine) cut.keep

    abbrev halted : Plain
    halted =
        after_stop book (record book.bench {
          disk = stopped book.bench.disk cut.keep cut.fills;
          keys = [];
          list = unlisted book.bench.list;
        }) cut survived

    abbrev machine' : Machine
    machine' = after_entry book.ledger.entries machine (Stopped survived)

    within : survived ≤ length machine.log
    within =
        let all = whole.images.counted in
        let front = changes_in-take book.bench.disk.stable book.bench.disk.pending
        (min cut.keep (length book.bench.disk.pending)) in
        omega (arith, all, front)

    pub whole-stopped : Steady halted → Whole halted
    whole-stopped steady =
        whole-of halted machine' (tried_in book) (machine_after-append book.ledger.entries (Stopped survived))
        (tried-with book.seed book.ledger.entries (Some (Stopped survived)))
        (legal-append book.ledger.entries (Stopped survived) whole.legal
        (subst (λ p. p ≢ Halted) (sym whole.agrees.phase) running, omega arith, within)) steady (record {
          agrees = record {
            phase = refl;
            boot = whole.agrees.boot;
            level = whole.agrees.level;
            durable = refl;
            pending = refl;
          };
          worlds =
              line-stopped (sealed (vault_of (tried_in book) book.seed book.bench.store))
              (timeline book.bench.disk machine)
              cut.keep cut.fills whole.worlds;
          numbers = numbers-running book.docket (book.ledger.entries ++ Stopped survived ∷ []) machine' map.empty
              (numbers-quiet book.docket book.ledger.entries machine (Stopped survived)
              (quiet-stopped survived) machine'
              whole.numbers refl (λ n b at. absurd (none-some b (sym (map.get-empty nat_cmp n) ∙ at))));
          run = λ actor it at. absurd (none-some it (sym (map.get-empty actor_cmp actor) ∙ at));
          all = λ n b at. absurd (none-some b (sym (map.get-empty nat_cmp n) ∙ at));
          phase = (sym (length-take-le survived machine.log within), refl, refl);
        })

  -- what stands by the phase says nothing of the docket but of what runs
  phase-docket : (docket : Docket) → docket.running ≡ book.docket.running → (phase : Phase)
      → PhaseStands phase book machine
      → PhaseStands phase (record book { docket = docket }) machine
  phase-docket docket same Up stands = stands
  phase-docket docket same Down stands =
      (stands.0, λ actor it at. stands.1 actor it (ap (λ m. map.get m actor) (sym same) ∙ at))
  phase-docket docket same Halted stands = (stands.0, stands.1, same ∙ stands.2)

  -- a command was given out
  module _ (command : Command) (few : length book.docket.commands < max_commands) where
    abbrev given : Docket
    given = docket_with book.docket (actor_of command) command

    numbers-given : Numbers given book.ledger.entries machine
    numbers-given = record {
      accounted = accounted-given actor_total actor_exact actor_of book.docket (numbers_begun book.ledger.entries)
          whole.numbers.accounted command;
      as_given = all_given-push book.docket.commands command book.ledger.entries whole.numbers.as_given;
      given = λ n b at. let was = whole.numbers.given n b at in record {
        given = get-stays book.docket.commands command b.command n was.given;
        begun = was.begun;
      };
      counts = whole.numbers.counts;
      boots = let was = whole.numbers.boots in omega (arith, was, length-append book.docket.commands (command ∷ []));
      few = omega (arith, few, length-append book.docket.commands (command ∷ []));
    }

    pub whole-given : Steady (with_command book command) → Whole (with_command book command)
    whole-given steady = record {
      legal = whole.legal;
      agrees = whole.agrees;
      short = steady.short;
      seeded = steady.seeded;
      store = steady.store;
      level = steady.level;
      current = steady.current;
      images = whole.images;
      worlds = whole.worlds;
      ring = steady.ring;
      numbers = numbers-given;
      run = whole.run;
      all = whole.all;
      phase = phase-docket given refl book.tracker.phase whole.phase;
      clean = steady.clean;
      numbered = steady.numbered;
      swept = steady.swept;
      ended = steady.ended;
      small = steady.small;
      charged = steady.charged;
    }

  -- the machine started again
  module _ (level : ℕ) (halted : book.tracker.phase ≡ Halted)
      (same_level : level ≡ book.tracker.level) (few : length book.docket.commands < max_commands) where
    abbrev entry : Entry
    entry = Restarted (book.tracker.boot + 1) level

    abbrev restarted : Plain
    restarted = after_restart book book.bench level

    abbrev machine_again : Machine
    machine_again = after_entry book.ledger.entries machine entry

    was_halted : PhaseStands Halted book machine
    was_halted = subst (λ p. PhaseStands p book machine) halted whole.phase

    no-runs : (actor : Actor) (it : Running) → map.get book.docket.running actor ≡ Some it → ⊥
    no-runs actor it at =
        none-some it (sym (map.get-empty actor_cmp actor) ∙ ap (λ m. map.get m actor) (sym was_halted.2) ∙ at)

    no-began : (n : ℕ) (b : BeganCommand) → map.get machine.running n ≡ Some b → ⊥
    no-began n b at = none (map.get book.docket.running (actor_of b.command)) refl (whole.all n b at)
      where
        none : (found : Option Running) → map.get book.docket.running (actor_of b.command) ≡ found
            → IsSomeAnd found (λ it. it.number ≡ n) → ⊥
        none None at some = some
        none (Some it) at some = no-runs (actor_of b.command) it at

    abbrev docket' : Docket
    docket' = record (with_first_command book.docket Boot Recover) { begun = map.empty }

    quiet-numbers : numbers_begun (book.ledger.entries ++ entry ∷ []) ≡ numbers_begun book.ledger.entries
    quiet-numbers = begun-quiet book.ledger.entries entry refl

    numbers-again : Numbers docket' (book.ledger.entries ++ entry ∷ []) machine_again
    numbers-again = record {
      accounted = subst (λ ns. Accounted actor_of ns docket') (sym quiet-numbers)
          (accounted-same actor_of (numbers_begun book.ledger.entries)
          (with_first_command book.docket Boot Recover) docket'
          (accounted-given_first actor_total actor_exact actor_of book.docket (numbers_begun book.ledger.entries)
          whole.numbers.accounted Recover) refl refl);
      as_given = all_given-append (book.docket.commands ++ Recover ∷ []) book.ledger.entries entry
          (all_given-push book.docket.commands Recover book.ledger.entries whole.numbers.as_given) tt;
      given = λ n b at. absurd (no-began n b at);
      counts = λ actor. ap (λ found. unwrap_or found 0) (map.get-empty actor_cmp actor)
          ∙ sym (begun_by-append actor book.ledger.entries entry);
      boots =
          let was = whole.numbers.boots in
          let boot = whole.agrees.boot in
          omega (arith, was, boot, length-append book.docket.commands (Recover ∷ []));
      few = omega (arith, few, length-append book.docket.commands (Recover ∷ []));
    }

    pub whole-restarted : Steady restarted → Whole restarted
    whole-restarted steady =
        whole-of restarted machine_again (tried_in book) (machine_after-append book.ledger.entries entry)
        (tried-with book.seed book.ledger.entries (Some entry)) (legal-append book.ledger.entries entry whole.legal (
          whole.agrees.phase ∙ halted,
          ap (λ n. n + 1) (sym whole.agrees.boot),
          let was = whole.agrees.level in omega (arith, was, same_level),
        ))
        steady (record {
          agrees = record {
            phase = refl;
            boot = refl;
            level = refl;
            durable = whole.agrees.durable;
            pending = whole.agrees.pending;
          };
          worlds = whole.worlds;
          numbers = numbers-again;
          run = λ actor it at. absurd (no-runs actor it at);
          all = λ n b at. absurd (no-began n b at);
          phase = (was_halted.0, λ actor it at. absurd (no-runs actor it at));
        })

-- what is seen of the devices as a Book is opened
abbrev pub opened_seen : Counts → Counts → Counts → Seen
opened_seen tree_counts store_counts ring_counts = record {
  disk = record { stable = map.empty; pending = [] };
  tree_counts = tree_counts;
  store = empty_store 1;
  store_counts = store_counts;
  keys = [];
  ring_counts = ring_counts;
  places = map.empty;
  list = record { items = []; next = 0; promised = 0 };
}

-- a Book as it is opened
module _ (tree_counts store_counts ring_counts : Counts) (seed : List ℕ) where
  abbrev opened : Plain
  opened =
      new_book (opened_seen tree_counts store_counts ring_counts) (opened_at tree_counts store_counts ring_counts) seed

  abbrev meaning : Meaning
  meaning = sealed (vault_of (attempts_of seed []) seed (empty_store 1))

  nothing-stands : StandsFor meaning map.empty (fold_changes [])
  nothing-stands = record {
    user = λ user. subst (UserStands meaning map.empty user) (sym (map.get-empty nat_cmp user))
        (map.get-empty place_cmp (De user));
  }

  none-on : (n : ℕ) (b : BeganCommand) → map.get first_machine.running n ≡ Some b → ⊥
  none-on n b at = none-some b (sym (map.get-empty nat_cmp n) ∙ at)

  pub whole-opened : Steady opened → Whole opened
  whole-opened steady =
      whole-of opened first_machine (tried_in opened) refl refl tt steady (record {
        agrees = record { phase = refl; boot = refl; level = refl; durable = refl; pending = refl };
        worlds = line-still meaning map.empty [] nothing-stands;
        numbers = record {
          accounted = accounted-empty actor_total actor_exact actor_of;
          as_given = tt;
          given = λ n b at. absurd (none-on n b at);
          counts = λ actor. ap (λ found. unwrap_or found 0) (map.get-empty actor_cmp actor);
          boots = omega arith;
          few = omega arith;
        };
        run = λ actor it at. absurd (none-some it (sym (map.get-empty actor_cmp actor) ∙ at));
        all = λ n b at. absurd (none-on n b at);
        phase = (
          record {
            there = λ place. ap is_some (map.get-empty {X = Option (List ℕ)} place_cmp place)
                ∙ sym (ap is_some (map.get-empty {X = Files} place_cmp place));
            names = λ place lasting. map.get-empty {X = Option (List ℕ)} place_cmp place
                ∙ sym (ap named_in (map.get-empty {X = Files} place_cmp place));
          },
          λ user there unmarked. tt,
        );
      })
