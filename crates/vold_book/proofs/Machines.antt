-- What a Book's calls that make no turn leave, over any devices: opening it, a further command, a stop and a restart,
-- each of which keeps it whole.
use Rattle.std.proofs.Common.{◌≡◌, ◌≢◌, ℕ, ◌+◌, ◌-◌, ◌^◌, ◌<◌, ◌≤◌, [], ◌∷◌, ◌++◌, length, take, min}
use Rattle.std.proofs.Common.{true, false, refl, sym, ap, ◌∙◌, subst, arith}
use Rattle.std.specs.Prelude.{Result, Ok, Err, OnOk, OnErr}
use Rattle.std.proofs.lemmas.List.Elements.{All-nil}
use Rattle.std.proofs.lemmas.Option.{none-some}
use Rattle.std.specs.FinMap as map
use Rattle.std.specs.FinSet as set
use Rattle.tree_model.specs.declared.memory.NoMemory.{NoMemory}
use Rattle.tree_model.specs.declared.ops.Cut.{Cut}
use Rattle.tree_model.specs.Disk.{stopped}
use Rattle.keystore_model.specs.Store.{empty_store}
use Rattle.keystore_model.proofs.Elements.{Contains-none}
use Rattle.keystore_model.proofs.Stores.{store-empty}
use Rattle.deferred_delete.proofs.Numbered.{numbered-none}
use Rattle.journal_model.specs.declared.commands.Actor.{Actor}
use Rattle.journal_model.specs.declared.commands.Actor.TheVariants.{Boot}
use Rattle.journal_model.specs.declared.commands.Command.{Command}
use Rattle.journal_model.specs.declared.commands.Command.TheVariants.{Recover}
use Rattle.journal_model.specs.declared.entries.Device.{Device}
use Rattle.journal_model.specs.declared.entries.Device.TheVariants.{Tree as TreeDevice, Store as StoreDevice}
use Rattle.journal_model.specs.declared.entries.Device.TheVariants.{Ring as RingDevice}
use Rattle.journal_model.specs.declared.entries.Entry.TheVariants.{Stopped, Restarted}
use Rattle.journal_model.specs.declared.entries.Order.TheVariants.{Stop}
use Rattle.journal_model.specs.declared.phase.Phase.TheVariants.{Down, Halted}
use Rattle.journal_model.specs.Command.{actor_of}
use Rattle.journal_model.specs.Machine.{first_machine}
use Rattle.journal_model.specs.Made.{boot_seed_of}
use Rattle.user_world.specs.Timelines.{survivors}
use Rattle.docket.specs.Docket.{empty_docket, begun_by, with_command as docket_with, with_first_command}
use Rattle.bench.specs.Bench.{BenchState, Senses, Plain as Seen, seen as bench_seen}
use Rattle.vold_book.specs.Parts.{LedgerState, no_ledger, new_tracker, count_changes}
use Rattle.vold_book.specs.Recovery.{max_commands}
use Rattle.vold_book.specs.State.{Docket, BookState, Plain, seen, machine_of, timeline}
use Rattle.vold_book.specs.Stops.{after_stop, IsStopped, after_restart, IsRestarted}
use Rattle.vold_book.specs.Turns.{opened_at, new_book, new_bench, with_command, unlisted}
use Rattle.vold_book.specs.Whole.{Whole, IsWhole, faults_of}
use Rattle.vold_book.proofs.Charged.{given-charged, stopped-charged, restarted-charged, opened-charged}
use Rattle.vold_book.proofs.CleanTurns.{clean-given, clean-stopped, clean-restarted, clean-opened}
use Rattle.vold_book.proofs.EndedStops.{ended-given, ended-stopped, ended-restarted}
use Rattle.vold_book.proofs.Numbers.{few-begun}
use Rattle.vold_book.proofs.RingKept.{ring-empty, ring-entered, ring-emptied}
use Rattle.vold_book.proofs.Small.{small-given, small-stopped, small-restarted, small-opened}
use Rattle.vold_book.proofs.StepsMade.{all-changes}
use Rattle.vold_book.proofs.Stopped.{whole-stopped, whole-given, whole-restarted, whole-opened, opened_seen}
use Rattle.vold_book.proofs.SweptKept.{swept-quiet}
use Rattle.vold_book.proofs.Tracked.{log-short, count-kept}

-- what each part of a Book is as it is opened over the devices
pub record Opens {D E F : Type 0} (senses : Senses D E F) (tree : D) (store : E) (ring : F)
    (book : BookState (BenchState D E F)) : Type 0 where
  pub disk : senses.disk tree ≡ record { stable = map.empty; pending = [] }
  pub entries : senses.store store ≡ empty_store 1
  pub keys : senses.keys ring ≡ []
  pub short : length book.seed ≤ 64
  pub bench : book.bench ≡ new_bench tree store ring
  pub opened : book.opened
      ≡ opened_at (senses.tree_counts tree) (senses.store_counts store) (senses.ring_counts ring)
  pub boot_seed : book.boot_seed ≡ boot_seed_of book.seed 0
  pub marks : book.marks ≡ set.empty
  pub ledger : book.ledger ≡ no_ledger
  pub docket : book.docket ≡ empty_docket
  pub tracker : book.tracker ≡ new_tracker

-- a Book as it is opened
module _ {D E F : Type 0} (senses : Senses D E F) (tree : D) (store : E) (ring : F)
    (book : BookState (BenchState D E F)) where
  pub opened-whole : Opens senses tree store ring book → IsWhole senses book
  opened-whole opens =
      let tree_counts = senses.tree_counts tree in
      let store_counts = senses.store_counts store in
      let ring_counts = senses.ring_counts ring in
      let bench : Seen = opened_seen tree_counts store_counts ring_counts in
      let plain : Whole (new_book bench (opened_at tree_counts store_counts ring_counts) book.seed) =
      whole-opened tree_counts store_counts ring_counts book.seed (record {
        short = opens.short;
        seeded = refl;
        store = store-empty 1;
        level = refl;
        current = λ blob entry live. absurd (none-some entry live);
        ring = ring-empty _ book.seed first_machine refl;
        clean = clean-opened bench (opened_at tree_counts store_counts ring_counts) book.seed refl refl;
        numbered = record {
          rising = λ i j d before within. absurd (omega arith);
          below = All-nil (λ number. number < 0);
          few = omega arith;
        };
        swept = λ blob has. absurd (Contains-none blob has);
        ended = λ user was. absurd (never was);
        small = small-opened bench (opened_at tree_counts store_counts ring_counts) book.seed 1 refl refl refl;
        charged = opened-charged bench book.seed;
      }) in
      let is_seen : bench_seen senses (new_bench tree store ring) ≡ bench =
      λ i. record bench { disk = opens.disk i; store = opens.entries i; keys = opens.keys i } in
      let is : book
      ≡ new_book (new_bench tree store ring) (opened_at tree_counts store_counts ring_counts) book.seed =
      λ i. record {
        bench = opens.bench i;
        opened = opens.opened i;
        seed = book.seed;
        boot_seed = opens.boot_seed i;
        marks = opens.marks i;
        ledger = opens.ledger i;
        docket = opens.docket i;
        tracker = opens.tracker i;
      } in
      subst (IsWhole senses) (sym is)
      (subst (λ b. Whole (new_book b (opened_at tree_counts store_counts ring_counts) book.seed)) (sym is_seen) plain)
    where
      never : false ≡ true → ⊥
      never e = cc

-- what each part of a Book is once the machine stopped: the ledger had its room by then, and the cut was copied
pub record Stops {D E F : Type 0} (senses : Senses D E F) (before after : BookState (BenchState D E F)) (cut : Cut) :
    Type 0 where
  pub kept : ℕ
  pub copied : Cut
  pub reserved : LedgerState
  pub left : senses.disk after.bench.tree ≡ stopped (senses.disk before.bench.tree) cut.keep cut.fills
  pub counts : senses.tree_counts after.bench.tree ≡ senses.tree_counts before.bench.tree
  pub keys : senses.keys after.bench.ring ≡ []
  pub ring_counts : senses.ring_counts after.bench.ring ≡ senses.ring_counts before.bench.ring
  pub list : after.bench.list ≡ unlisted before.bench.list
  pub is_kept : kept ≡ before.tracker.durable + count_changes
      (take (min cut.keep (length before.tracker.pending)) before.tracker.pending)
  pub is_copied : copied ≡ cut
  pub is_reserved : reserved ≡ before.ledger
  pub entered : after.ledger ≡ record reserved {
    entries = reserved.entries ++ Stopped kept ∷ [];
    orders = reserved.orders ++ Stop copied ∷ [];
  }
  pub ended : after.docket ≡ record before.docket { running = map.empty }
  pub halted : after.tracker ≡ record before.tracker { phase = Halted; durable = kept; pending = [] }
  -- and the rest stays
  pub rest : after ≡ record before {
    bench = record before.bench { tree = after.bench.tree; ring = after.bench.ring; list = after.bench.list };
    ledger = after.ledger;
    docket = after.docket;
    tracker = after.tracker;
  }

-- what each part of a Book is once the machine started again
pub record Restarts {D E F : Type 0} (senses : Senses D E F) (before after : BookState (BenchState D E F))
    (level : ℕ) : Type 0 where
  pub boot : ℕ
  pub reserved : LedgerState
  pub queued : Docket
  pub same_disk : senses.disk after.bench.tree ≡ senses.disk before.bench.tree
  pub same_counts : senses.tree_counts after.bench.tree ≡ senses.tree_counts before.bench.tree
  pub is_boot : boot ≡ before.tracker.boot
  pub is_reserved : reserved ≡ before.ledger
  pub is_queued : queued ≡ with_first_command before.docket Boot Recover
  pub seeded : after.boot_seed ≡ boot_seed_of before.seed (boot + 1)
  pub entered : after.ledger ≡ record reserved { entries = reserved.entries ++ Restarted (boot + 1) level ∷ [] }
  pub counted : after.docket ≡ record queued { begun = map.empty }
  pub down : after.tracker ≡ record before.tracker { phase = Down; boot = boot + 1; level = level }
  -- and the rest stays
  pub rest : after ≡ record before {
    bench = record before.bench { tree = after.bench.tree };
    boot_seed = after.boot_seed;
    ledger = after.ledger;
    docket = after.docket;
    tracker = after.tracker;
  }

module _ {D E F : Type 0} (senses : Senses D E F) (book : BookState (BenchState D E F))
    (whole : IsWhole senses book) where
  abbrev plain : Plain
  plain = seen senses book

  -- what an actor began can be counted
  pub few-begin : (actor : Actor) → begun_by book.docket actor < 2 ^ 32 - 1
  few-begin actor =
      let few = few-begun book.docket book.ledger.entries (machine_of plain) actor whole.numbers in
      let all = whole.numbers.few in
      omega (arith, few, all)

  -- the changes that a device's calls made can be counted
  pub changes-fit : length book.ledger.entries < 2 ^ 64
      → book.tracker.durable + count_changes book.tracker.pending < 2 ^ 64
  changes-fit few =
      let all = all-changes plain whole in
      let short = log-short book.ledger.entries in
      omega (arith, all, short, few)

  pub given-whole : (command : Command) → length book.docket.commands < max_commands
      → IsWhole senses (with_command book command)
  given-whole command few =
      whole-given plain whole command few (record {
        short = whole.short;
        seeded = whole.seeded;
        store = whole.store;
        level = whole.level;
        current = whole.current;
        ring = whole.ring;
        clean = clean-given plain command whole;
        numbered = whole.numbered;
        swept = whole.swept;
        ended = λ user. ended-given plain whole user command;
        small = small-given plain whole.small command;
        charged = λ device. given-charged plain device (whole.charged device) command;
      })

  -- a command was given out, or memory was missing
  pub enqueued-whole : (command : Command) (actor : Actor) (docket' : Docket) (result : Result ℕ NoMemory)
      → length book.docket.commands < max_commands → actor ≡ actor_of command
      → OnOk result (docket' ≡ docket_with book.docket actor command) → OnErr result (docket' ≡ book.docket)
      → IsWhole senses (record book { docket = docket' })
  enqueued-whole command actor docket' (Ok number) few own queued refused =
      subst (λ d. IsWhole senses (record book { docket = d }))
      (sym (queued ∙ ap (λ a. docket_with book.docket a command) own))
      (given-whole command few)
  enqueued-whole command actor docket' (Err want) few own queued refused =
      subst (λ d. IsWhole senses (record book { docket = d })) (sym refused) whole

  -- the machine stopped
  module _ (after : BookState (BenchState D E F)) (cut : Cut) where
    pub stopped-book : Stops senses book after cut → IsStopped senses book after cut
    stopped-book stops =
        let kept = stops.kept in
        let survive : kept ≡ survivors (timeline (senses.disk book.bench.tree) (machine_of book)) cut.keep =
        stops.is_kept
        ∙ ap (λ n. n + count_changes (take (min cut.keep (length book.tracker.pending)) book.tracker.pending))
        (sym whole.agrees.durable)
        ∙ ap (λ n. (machine_of book).kept + n)
        (count-kept (senses.disk book.bench.tree) book.tracker.pending cut.keep whole.agrees.pending) in
        let entered : after.ledger ≡ record book.ledger {
          entries = book.ledger.entries ++ Stopped kept ∷ [];
          orders = book.ledger.orders ++ Stop cut ∷ [];
        } = stops.entered ∙ (λ i. record (stops.is_reserved i) {
          entries = (stops.is_reserved i).entries ++ Stopped kept ∷ [];
          orders = (stops.is_reserved i).orders ++ Stop (stops.is_copied i) ∷ [];
        }) in
        let parts : after ≡ after_stop book after.bench cut kept = λ i. record {
          bench = after.bench;
          opened = (stops.rest i).opened;
          seed = (stops.rest i).seed;
          boot_seed = (stops.rest i).boot_seed;
          marks = (stops.rest i).marks;
          ledger = entered i;
          docket = stops.ended i;
          tracker = stops.halted i;
        } in
        record {
          left = λ i. record {
            disk = stops.left i;
            tree_counts = stops.counts i;
            store = senses.store (stops.rest i).bench.store;
            store_counts = senses.store_counts (stops.rest i).bench.store;
            keys = stops.keys i;
            ring_counts = stops.ring_counts i;
            places = (stops.rest i).bench.places;
            list = stops.list i;
          };
          state = parts ∙ ap (after_stop book after.bench cut) survive;
        }

    pub stops-whole : book.tracker.phase ≢ Halted → IsStopped senses book after cut → IsWhole senses after
    stops-whole running is_stopped =
        let left : Seen = record plain.bench {
          disk = stopped plain.bench.disk cut.keep cut.fills;
          keys = [];
          list = unlisted plain.bench.list;
        } in
        let kept = survivors (timeline (senses.disk book.bench.tree) (machine_of book)) cut.keep in
        let halted : Whole (after_stop plain left cut kept) = whole-stopped plain whole cut running (record {
          short = whole.short;
          seeded = whole.seeded;
          store = whole.store;
          level = whole.level;
          current = whole.current;
          ring = ring-emptied plain (Stopped kept) refl;
          clean = clean-stopped plain left cut kept refl;
          numbered = numbered-none plain.bench.list 0 whole.numbered (omega arith);
          swept = swept-quiet plain.bench.store plain.ledger.entries (Stopped kept) refl whole.swept;
          ended = λ user. ended-stopped plain whole user cut kept;
          small = small-stopped plain whole.small left cut kept refl refl refl;
          charged = λ device. stopped-charged plain device (whole.charged device) left cut kept (same-faults device);
        }) in
        subst (IsWhole senses) (sym is_stopped.state)
        (subst (λ b. Whole (after_stop plain b cut kept)) (sym is_stopped.left) halted)
      where
        same-faults : (device : Device) → faults_of (record plain.bench {
          disk = stopped plain.bench.disk cut.keep cut.fills;
          keys = [];
          list = unlisted plain.bench.list;
        }) device ≡ faults_of plain.bench device
        same-faults TreeDevice = refl
        same-faults StoreDevice = refl
        same-faults RingDevice = refl

  -- the machine started again
  module _ (after : BookState (BenchState D E F)) (level : ℕ) where
    pub restarted-book : Restarts senses book after level → IsRestarted senses book after level
    restarted-book restarts = record {
      same = λ i. record {
        disk = restarts.same_disk i;
        tree_counts = restarts.same_counts i;
        store = senses.store (restarts.rest i).bench.store;
        store_counts = senses.store_counts (restarts.rest i).bench.store;
        keys = senses.keys (restarts.rest i).bench.ring;
        ring_counts = senses.ring_counts (restarts.rest i).bench.ring;
        places = (restarts.rest i).bench.places;
        list = (restarts.rest i).bench.list;
      };
      state = (λ i. record {
        bench = after.bench;
        opened = (restarts.rest i).opened;
        seed = (restarts.rest i).seed;
        boot_seed = restarts.seeded i;
        marks = (restarts.rest i).marks;
        ledger = (restarts.entered ∙ ap {A = LedgerState}
            (λ l. record l { entries = l.entries ++ Restarted (restarts.boot + 1) level ∷ [] })
            restarts.is_reserved) i;
        docket = (restarts.counted ∙ ap {A = Docket} (λ d. record d { begun = map.empty }) restarts.is_queued) i;
        tracker = restarts.down i;
      }) ∙ ap (λ b. record book {
        bench = after.bench;
        boot_seed = boot_seed_of book.seed (b + 1);
        ledger = record book.ledger { entries = book.ledger.entries ++ Restarted (b + 1) level ∷ [] };
        docket = record (with_first_command book.docket Boot Recover) { begun = map.empty };
        tracker = record book.tracker { phase = Down; boot = b + 1; level = level };
      }) restarts.is_boot;
    }

    pub restarts-whole : book.tracker.phase ≡ Halted → level ≡ book.tracker.level
        → length book.docket.commands < max_commands → IsRestarted senses book after level → IsWhole senses after
    restarts-whole halted same_level few is_restarted =
        let again : Whole (after_restart plain plain.bench level) =
        whole-restarted plain whole level halted same_level few (record {
          short = whole.short;
          seeded = refl;
          store = whole.store;
          level = whole.level ∙ sym same_level;
          current = whole.current;
          ring = ring-entered plain (Restarted (book.tracker.boot + 1) level) refl refl whole.ring;
          clean = clean-restarted plain plain.bench level whole refl;
          numbered = whole.numbered;
          swept = swept-quiet plain.bench.store plain.ledger.entries (Restarted (book.tracker.boot + 1) level) refl
              whole.swept;
          ended = λ user. ended-restarted plain whole user level;
          small = small-restarted plain whole.small plain.bench level refl;
          charged = λ device. restarted-charged plain device (whole.charged device) plain.bench level refl;
        }) in
        subst (IsWhole senses) (sym is_restarted.state)
        (subst (λ b. Whole (after_restart plain b level)) (sym is_restarted.same) again)
