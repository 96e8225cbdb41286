-- A call of a recovery leaves the Book what it has to be left, whether the device did it or failed.
use Rattle.std.proofs.Common.{◌≡◌, ◌≢◌, ℕ, ◌+◌, ◌^◌, ◌<◌, List, [], ◌∷◌, length, refl, sym, ap, ◌∙◌, subst}
use Rattle.std.proofs.Common.{true, false, arith}
use Rattle.std.proofs.lemmas.Option.{same_Some}
use Rattle.std.specs.Prelude.{Bool, Option, Some, None, IsSomeAnd, Ok}
use Rattle.std.specs.FinMap as map
use Rattle.tree_model.specs.declared.blobs.Blob.{Blob}
use Rattle.tree_model.specs.declared.sites.LocalOp.{LocalOp}
use Rattle.tree_model.specs.Disk.{view, with_op}
use Rattle.tree_model.specs.Sites.{op_of}
use Rattle.deferred_delete.specs.declared.items.Item.{Item}
use Rattle.journal_model.specs.declared.commands.Actor.{Actor}
use Rattle.journal_model.specs.declared.commands.Actor.TheVariants.{Boot}
use Rattle.journal_model.specs.declared.entries.Device.{Device}
use Rattle.journal_model.specs.declared.phase.Phase.TheVariants.{Up, Down}
use Rattle.journal_model.specs.Machine.{Machine, Running as BeganCommand}
use Rattle.keystore_model.proofs.Elements.{Contains-none}
use Rattle.step_core.specs.declared.jobs.Job.{Job}
use Rattle.user_world.specs.declared.changes.LocalChange.{LocalChange}
use Rattle.user_world.specs.Meaning.{Meaning}
use Rattle.user_world.specs.Timelines.{Timeline, OwnWorldsStand}
use Rattle.user_world.proofs.Timelines.{line-quiet, line-settled}
use Rattle.key_directory.specs.Vaults.{KeepsEntry, sealed}
use Rattle.task_turns.specs.declared.calls.Answer.{Answer}
use Rattle.task_turns.specs.declared.calls.Answer.TheVariants.{Done}
use Rattle.task_turns.specs.declared.calls.Call.{Call}
use Rattle.task_turns.specs.declared.calls.Call.TheVariants.{Op as OpCall, Sync, List as ListCall, Read}
use Rattle.task_turns.specs.declared.calls.Call.TheVariants.{Generate, Encrypt, Decrypt, Entries, Add, Remove}
use Rattle.task_turns.specs.declared.calls.Call.TheVariants.{Delete}
use Rattle.task_turns.specs.declared.next.Next.TheVariants.{Call as CallNext}
use Rattle.bench.specs.declared.made.Made.{Made}
use Rattle.bench.specs.declared.made.Made.TheVariants.{Heard, Failed}
use Rattle.bench.specs.Bench.{Plain as Seen, Fits, Does, IsFailed, IsMade, places_after, listed_as, dropped}
use Rattle.bench.proofs.Failures.{failed-leaves}
use Rattle.vold_book.specs.declared.recovery.Recovery.{Recovery}
use Rattle.vold_book.specs.declared.recovery.Recovery.TheVariants.{Listing, Sweeping, Reading, Settled, Listed}
use Rattle.vold_book.specs.declared.tasks.Running.{Running}
use Rattle.vold_book.specs.declared.tasks.Task.{Task}
use Rattle.vold_book.specs.declared.tasks.Task.TheVariants.{Recovery as Recovers}
use Rattle.vold_book.specs.Owed.{Owed}
use Rattle.vold_book.specs.Parts.{TrackerState, Agrees, noted}
use Rattle.vold_book.specs.Recovery.{RecoveryRests, RecoveryCalls, RecoveryShows, CountsFew, recovery_after}
use Rattle.vold_book.specs.State.{Plain, Ground, machine_of, tried_in, timeline, ground_at, ground_of, vault_of}
use Rattle.vold_book.specs.Tasks.{held_in, HoldsOwn, RunsOn, TaskStands, TaskShows, TaskAfter, TellsFault, Worked}
use Rattle.vold_book.specs.Tasks.{Plans, HearsMade, HearsFailed, TaskFailed, is_untold, due_to}
use Rattle.vold_book.specs.Whole.{PhaseStands, Whole}
use Rattle.vold_book.proofs.StepsMade.{same-line, step-fits, step-told, step-failed, failed-disk, all-changes}
use Rattle.vold_book.proofs.Moves.{after_of, Moves}
use Rattle.vold_book.proofs.Numbers.{quiet-synced}
use Rattle.vold_book.proofs.Tracked.{ChangeIsTold, pending-noted, failed-durable, noted-stays}

-- who holds nothing holds its own
holds-none : (ground : Ground) (actor : Actor) (held : List Blob) → held ≡ [] → HoldsOwn ground actor held
holds-none ground actor held none = subst (HoldsOwn ground actor) (sym none)
    (record { differ = tt; own = λ blob has. absurd (Contains-none blob has) })

-- it read no more directories than there can be
counts-few : (ground : Ground) (recovery : Recovery) → RecoveryRests ground recovery → CountsFew recovery
counts-few ground Listing rests = tt
counts-few ground Sweeping rests = tt
counts-few ground (Reading count) rests = rests.1.2
counts-few ground Settled rests = tt
counts-few ground Listed rests = tt

-- it may hear of each of its calls, and is told of each that failed
recovery-hears : (ground : Ground) (recovery : Recovery) (call : Call) (made : Made) → RecoveryRests ground recovery
    → HearsMade call (Recovers recovery) made
recovery-hears ground recovery call (Heard answer) rests = counts-few ground recovery rests
recovery-hears ground recovery call (Failed device) rests = by (is_untold call)
  where
    by : (untold : Bool) → HearsFailed untold (Recovers recovery)
    by true = counts-few ground recovery rests
    by false = tt

is-told : (ground : Ground) (recovery : Recovery) (call : Call) → RecoveryCalls ground recovery call
    → is_untold call ≡ false
is-told ground recovery (Delete item tells) calls = absurd calls
is-told ground recovery (OpCall owner op names) calls = refl
is-told ground recovery Sync calls = refl
is-told ground recovery ListCall calls = refl
is-told ground recovery (Read place) calls = refl
is-told ground recovery (Generate tag app_id) calls = refl
is-told ground recovery (Encrypt blob app_id nonce key) calls = refl
is-told ground recovery (Decrypt blob app_id text) calls = refl
is-told ground recovery Entries calls = refl
is-told ground recovery (Add user class key) calls = refl
is-told ground recovery (Remove user class) calls = refl

abbrev recovering : ℕ → Recovery → Owed → Running
recovering number recovery owed = record { number = number; task = Recovers recovery; owed = owed }

module _ (book : Plain) (actor : Actor) (number : ℕ) (recovery : Recovery) (owed : Owed) (whole : Whole book)
    (runs : map.get book.docket.running actor ≡ Some (recovering number recovery owed))
    (on : RunsOn (ground_of book) (machine_of book) actor (recovering number recovery owed)) where
  abbrev machine : Machine
  machine = machine_of book

  abbrev line : Timeline
  line = timeline book.bench.disk machine

  abbrev meaning : Meaning
  meaning = sealed (vault_of (tried_in book) book.seed book.bench.store)

  -- the machine is down
  pub recovery-down : book.tracker.phase ≡ Down
  recovery-down = sym whole.agrees.phase ∙ on.stands.1.0

  not_up : book.tracker.phase ≡ Up → ⊥
  not_up up = differ (sym up ∙ recovery-down)
    where
      differ : Up ≡ Down → ⊥
      differ e = cc

  -- and nobody else runs a command
  boots : (other : Actor) (o : Running) → map.get book.docket.running other ≡ Some o → other ≡ Boot
  boots other o at = (subst (λ phase. PhaseStands phase book machine) recovery-down whole.phase).1 other o at

  pub nobody-else : (other : Actor) (o : Running) → other ≢ actor → map.get book.docket.running other ≡ Some o → ⊥
  nobody-else other o differ at = differ (boots other o at ∙ sym (boots actor _ runs))

  -- the devices' conditions hold
  fits : (call : Call) → RecoveryCalls (ground_of book) recovery call
      → book.bench.list.next + book.bench.list.promised + length book.bench.store.entries < 2 ^ 63
      → Fits book.bench call
  fits (OpCall owner op names) calls few = (
    step-fits meaning owner line None whole.worlds op calls.step,
    let none = ap length calls.lists in omega (arith, few, none),
  )
  fits Sync calls few = tt
  fits ListCall calls few = tt
  fits (Read place) calls few = calls.0
  fits (Generate tag app_id) calls few = absurd calls
  fits (Encrypt blob app_id nonce key) calls few = absurd calls
  fits (Decrypt blob app_id text) calls few = absurd calls
  fits (Add user class key) calls few = absurd calls
  fits (Remove user class) calls few = absurd calls
  fits (Delete item tells) calls few = absurd calls
  fits Entries calls few = few

  -- whether it makes a change is told rightly: it makes none
  told : (call : Call) → RecoveryCalls (ground_of book) recovery call
      → ChangeIsTold (view book.bench.disk) call false
  told (OpCall owner op names) calls = step-told meaning owner line None whole.worlds op calls.step
  told Sync calls = tt
  told ListCall calls = tt
  told (Read place) calls = tt
  told (Generate tag app_id) calls = tt
  told (Encrypt blob app_id nonce key) calls = tt
  told (Decrypt blob app_id text) calls = tt
  told Entries calls = tt
  told (Add user class key) calls = tt
  told (Remove user class) calls = tt
  told (Delete item tells) calls = tt

  same_began : (began : BeganCommand) → map.get machine.running number ≡ Some began
      → on.began.command ≡ began.command
  same_began began at = ap (λ b. b.command) (same_Some on.began began (sym on.at ∙ at))

  -- what a call without an entry leaves, which leaves the machine as it is
  record Still (bench : Seen) (tracker : TrackerState) (then : Task) : Type 0 where
    store : bench.store ≡ book.bench.store
    agrees : Agrees tracker machine bench.disk
    worlds : OwnWorldsStand meaning (timeline bench.disk machine)
    stands : TaskStands (ground_at (tried_in book) book.seed bench machine) then on.began
    holds : held_in then ≡ []
    phase : tracker.phase ≡ book.tracker.phase

  still-moves : (bench : Seen) (tracker : TrackerState) (then : Task) → Still bench tracker then
      → Moves book actor number (record { bench = bench; tracker = tracker; task = then; entry = None })
  still-moves bench tracker then still = record {
    may = tt;
    quiet = tt;
    agrees = still.agrees;
    worlds = subst (λ store. OwnWorldsStand (sealed (vault_of (tried_in book) book.seed store))
        (timeline bench.disk machine))
        (sym still.store) still.worlds;
    boot = refl;
    mine = record {
      began = on.began;
      at = on.at;
      own = on.own;
      stands = still.stands;
      holds = holds-none _ actor (held_in then) still.holds;
    };
    on_machine = λ n differ. refl;
    same_command = same_began;
    others = λ other o differ at. absurd (nobody-else other o differ at);
    kept = λ blob needed.
        subst (λ store. KeepsEntry (ground_of book).vault (vault_of (tried_in book) book.seed store) blob)
        (sym still.store) (λ entry at. at);
    phase = still.phase;
    up = λ up. absurd (not_up up);
    durable = λ down durable. durable;
  }

  -- a call that the device did
  abbrev Done_by : Call → Answer → Seen → Type 0
  Done_by call answer bench = Moves book actor number
      (after_of book number call None (Recovers (recovery_after call recovery)) (Heard answer) bench)

  -- an operation lists nothing
  lists-none : (owner : ℕ) (op : LocalOp) → dropped book.bench.places owner op ≡ []
      → listed_as false book.bench.list (dropped book.bench.places owner op) ≡ book.bench.list
  lists-none owner op none = ap (listed_as false book.bench.list) none ∙ λ i. record book.bench.list {
    promised = unpromised i;
  }
    where
      unpromised : book.bench.list.promised + 0 ≡ book.bench.list.promised
      unpromised = omega arith

  made-call : (call : Call) (answer : Answer) (bench : Seen) → RecoveryCalls (ground_of book) recovery call
      → Does book.bench bench call answer → Done_by call answer bench
  made-call (OpCall owner op names) answer bench calls does =
      subst (λ b. Done_by (OpCall owner op names) answer b) (sym (does.1 ∙ λ i. record book.bench {
        disk = with_op book.bench.disk (op_of owner op);
        tree_counts = bench.tree_counts;
        places = places_after book.bench.places owner op names;
        list = lists-none owner op calls.lists i;
      })) (still-moves _ _ _ (record {
        store = refl;
        agrees = record {
          phase = whole.agrees.phase;
          boot = whole.agrees.boot;
          level = whole.agrees.level;
          durable = whole.agrees.durable;
          pending = pending-noted book.bench (record book.bench {
            disk = with_op book.bench.disk (op_of owner op);
            tree_counts = bench.tree_counts;
            places = places_after book.bench.places owner op names;
          }) book.tracker whole.agrees.pending (OpCall owner op names) false (Heard Done)
              (told (OpCall owner op names) calls) (
                refl,
                λ i. record book.bench {
                  disk = with_op book.bench.disk (op_of owner op);
                  tree_counts = bench.tree_counts;
                  places = places_after book.bench.places owner op names;
                  list = sym (lists-none owner op calls.lists) i;
                },
              );
        };
        worlds = (line-quiet meaning line owner op [] whole.worlds calls.step).stands;
        stands = (on.stands.0, calls.comes.rests);
        holds = refl;
        phase = refl;
      }))
  made-call Sync answer bench calls does =
      subst (λ b. Done_by Sync answer b) (sym does.1) (record {
        may = (number, subst (λ found. IsSomeAnd found (λ b. b.verdict ≡ None)) (sym on.at) on.stands.0.verdict);
        quiet = quiet-synced;
        agrees = record {
          phase = whole.agrees.phase;
          boot = whole.agrees.boot;
          level = whole.agrees.level;
          durable = all-changes book whole;
          pending = refl;
        };
        worlds = line-settled meaning line whole.worlds;
        boot = refl;
        mine = record {
          began = on.began;
          at = on.at;
          own = on.own;
          stands = (on.stands.0, calls.rests);
          holds = holds-none _ actor [] refl;
        };
        on_machine = λ n differ. refl;
        same_command = same_began;
        others = λ other o differ at. absurd (nobody-else other o differ at);
        kept = λ blob needed entry at. at;
        phase = refl;
        up = λ up. absurd (not_up up);
        durable = λ down durable. refl;
      })
  made-call ListCall answer bench calls does =
      subst (λ b. Done_by ListCall answer b) (sym does.2) (still-moves _ _ _ (record {
        store = refl;
        agrees = whole.agrees;
        worlds = whole.worlds;
        stands = (on.stands.0, (calls bench.places does.1).rests);
        holds = refl;
        phase = refl;
      }))
  made-call (Read place) answer bench calls does =
      subst (λ b. Done_by (Read place) answer b) (sym does.3) (still-moves _ _ _ (record {
        store = refl;
        agrees = whole.agrees;
        worlds = whole.worlds;
        stands = (on.stands.0, calls.1.rests);
        holds = refl;
        phase = refl;
      }))
  made-call (Generate tag app_id) answer bench calls does = absurd calls
  made-call (Encrypt blob app_id nonce key) answer bench calls does = absurd calls
  made-call (Decrypt blob app_id text) answer bench calls does = absurd calls
  made-call (Add user class key) answer bench calls does = absurd calls
  made-call (Remove user class) answer bench calls does = absurd calls
  made-call (Delete item tells) answer bench calls does = absurd calls
  made-call Entries answer bench calls does =
      subst (λ b. Done_by Entries answer b) (sym does.1.2) (still-moves _ _ _ (record {
        store = refl;
        agrees = whole.agrees;
        worlds = whole.worlds;
        stands = (on.stands.0, (calls.comes does.1.0 does.1.1).rests);
        holds = refl;
        phase = refl;
      }))

  unmoved : (bench : Seen) → bench.disk ≡ book.bench.disk → OwnWorldsStand meaning (timeline bench.disk machine)
  unmoved bench same = (same-line meaning 0 line bench.disk whole.worlds same).stands

  -- and one that failed, which is told next
  failed-worlds : (call : Call) (bench : Seen) → RecoveryCalls (ground_of book) recovery call
      → IsFailed book.bench bench call → OwnWorldsStand meaning (timeline bench.disk machine)
  failed-worlds (OpCall owner op names) bench calls failed =
      (step-failed meaning owner line None whole.worlds op bench.disk calls.step (λ none. calls.step)
      (failed-disk book.bench bench owner op failed)).stands
  failed-worlds Sync bench calls failed = unmoved bench (ap (λ b. b.disk) failed)
  failed-worlds ListCall bench calls failed = unmoved bench (ap (λ b. b.disk) failed)
  failed-worlds (Read place) bench calls failed = unmoved bench (ap (λ b. b.disk) failed)
  failed-worlds (Generate tag app_id) bench calls failed = absurd calls
  failed-worlds (Encrypt blob app_id nonce key) bench calls failed = absurd calls
  failed-worlds (Decrypt blob app_id text) bench calls failed = absurd calls
  failed-worlds (Add user class key) bench calls failed = absurd calls
  failed-worlds (Remove user class) bench calls failed = absurd calls
  failed-worlds (Delete item tells) bench calls failed = absurd calls
  failed-worlds Entries bench calls failed = unmoved bench (ap (λ b. b.disk) failed)

  failed-call : (call : Call) (device : Device) (then : Task) (bench : Seen)
      → RecoveryCalls (ground_of book) recovery call → IsMade book.bench bench call (Ok (Failed device))
      → TellsFault device [] then
      → Moves book actor number (after_of book number call None then (Failed device) bench)
  failed-call call device then bench calls made tells =
      let stays = noted-stays false call false book.tracker in
      still-moves bench (noted false call false book.tracker) then (record {
        store = ap (λ b. b.store) (failed-leaves book.bench bench call made.1);
        agrees = record {
          phase = whole.agrees.phase ∙ sym stays.phase;
          boot = whole.agrees.boot ∙ sym stays.boot;
          level = whole.agrees.level ∙ sym stays.level;
          durable = whole.agrees.durable ∙ sym (failed-durable call false book.tracker);
          pending = pending-noted book.bench bench book.tracker whole.agrees.pending call false (Failed device)
              (told call calls) made;
        };
        worlds = failed-worlds call bench calls made.1;
        stands = subst (λ t. TaskStands (ground_at (tried_in book) book.seed bench machine) t on.began) (sym tells.is)
            on.stands.0.verdict;
        holds = ap held_in tells.is ∙ tells.all;
        phase = stays.phase;
      })

  -- a call of the recovery's, by how it went
  by-made : (call : Call) (made : Made) (then : Task) (bench : Seen) → RecoveryCalls (ground_of book) recovery call
      → IsMade book.bench bench call (Ok made) → TaskAfter call made (Recovers recovery) then
      → Moves book actor number (after_of book number call None then made bench)
  by-made call (Heard answer) then bench calls does after =
      subst (λ t. Moves book actor number (after_of book number call None t (Heard answer) bench))
      (sym after) (made-call call answer bench calls does)
  by-made call (Failed device) then bench calls failed after = failed-call call device then bench calls failed
      (subst (λ untold. TaskFailed untold call device (Recovers recovery) then)
      (is-told (ground_of book) recovery call calls) after)

-- a recovery asks for no job
no-job : (ground : Ground) (began : BeganCommand) (due : Option Item) (recovery : Recovery) (now : Task)
    (jobs : List Job) → Worked ground began due (Recovers recovery) now jobs → now ≡ Recovers recovery
no-job ground began due recovery now [] worked = worked
no-job ground began due recovery now (job ∷ jobs) worked = absurd worked

-- the same for what a recovery plans
module _ (book : Plain) (actor : Actor) (it : Running) (recovery : Recovery) (whole : Whole book)
    (is : it.task ≡ Recovers recovery) where
  module _ (now : Task) (call : Call) (change : Option LocalChange)
      (plans : Plans book actor it now (CallNext call change)) where
    same_now : now ≡ Recovers recovery
    same_now = no-job (ground_of book) plans.on.began (due_to book it) recovery now plans.jobs
        (subst (λ t. Worked (ground_of book) plans.on.began (due_to book it) t now plans.jobs) is plans.worked)

    shown : RecoveryShows (ground_of book) recovery (CallNext call change)
    shown = subst (λ t. TaskShows (ground_of book) plans.on.began (due_to book it) t (CallNext call change)) same_now
        plans.shows

    abbrev with_task : Task → Running
    with_task task = record { number = it.number; task = task; owed = it.owed }

    runs_it : map.get book.docket.running actor ≡ Some (recovering it.number recovery it.owed)
    runs_it = plans.runs ∙ ap (λ t. Some (with_task t)) is

    on_it : RunsOn (ground_of book) (machine_of book) actor (recovering it.number recovery it.owed)
    on_it = subst (λ t. RunsOn (ground_of book) (machine_of book) actor (with_task t)) is plans.on

    -- the devices' conditions hold
    pub recovery-fits :
        book.bench.list.next + book.bench.list.promised + length book.bench.store.entries < 2 ^ 63
        → Fits book.bench call
    recovery-fits few = fits book actor it.number recovery it.owed whole runs_it on_it call shown.1 few

    -- the task may hear of its call
    pub recovery-heard : (made : Made) → HearsMade call now made
    recovery-heard made = subst (λ t. HearsMade call t made) (sym same_now)
        (recovery-hears (ground_of book) recovery call made on_it.stands.1)

    -- and the call leaves what it has to
    pub recovery-moves : (made : Made) (then : Task) (bench : Seen) → IsMade book.bench bench call (Ok made)
        → TaskAfter call made now then
        → Moves book actor it.number (after_of book it.number call change then made bench)
    recovery-moves made then bench is_made after =
        subst (λ c. Moves book actor it.number (after_of book it.number call c then made bench)) (sym shown.0)
        (by-made book actor it.number recovery it.owed whole runs_it on_it call made then bench shown.1 is_made
        (subst (λ t. TaskAfter call made t then) same_now after))
