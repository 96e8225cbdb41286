-- A turn that gives a reply keeps a Book whole.
use Rattle.std.proofs.Common.{List, ◌≡◌, ◌≢◌, ℕ, ◌+◌, inl, inr, true, [], ◌∷◌, ◌++◌, length, drop, refl, sym, ap, ◌∙◌}
use Rattle.std.proofs.Common.{subst, arith}
use Rattle.std.proofs.Math.Seq.{drop-length}
use Rattle.std.proofs.lemmas.Option.{none-some, same_Some}
use Rattle.std.specs.Prelude.{◌⊎◌, Some, None, IsSomeAnd, slice_get}
use Rattle.std.specs.Cmp.{nat_cmp_total}
use Rattle.std.specs.FinMap as map
use Rattle.std.specs.FinMap.{nat_cmp-IsAntisymmetric}
use Rattle.tree_model.specs.Disk.{view}
use Rattle.tree_model.proofs.Maps.{get-remove_same, get-remove_other}
use Rattle.journal_model.specs.declared.commands.Actor.{Actor}
use Rattle.journal_model.specs.declared.commands.Reply.{Reply}
use Rattle.journal_model.specs.declared.commands.Reply.TheVariants.{Ended}
use Rattle.journal_model.specs.declared.entries.Entry.TheVariants.{Replied}
use Rattle.journal_model.specs.declared.phase.Phase.{Phase}
use Rattle.journal_model.specs.declared.phase.Phase.TheVariants.{Up, Down, Halted}
use Rattle.journal_model.specs.Actor.{actor_cmp, actor_total, actor_exact}
use Rattle.journal_model.specs.Command.{actor_of}
use Rattle.journal_model.specs.Machine.{Machine, Running as BeganCommand, after_entry, if_running, phase_after}
use Rattle.journal_model.specs.Machine.{IsDurable, NoChangeOf, kind_of_reply, Outcome, Refusal as RefusalKind}
use Rattle.journal_model.specs.Machine.{DidRecover, MayEnd, ComesTo, AllowsReply, evidence_of}
use Rattle.journal_model.proofs.ByCommand.{phase-stays, user-stays}
use Rattle.journal_model.proofs.Steps.{machine_after-append, legal-append}
use Rattle.task_turns.specs.declared.next.Next.TheVariants.{Reply as ReplyNext}
use Rattle.user_tasks.specs.Tasks.{user_of}
use Rattle.vold_book.specs.declared.tasks.Running.{Running}
use Rattle.vold_book.specs.declared.tasks.Task.{Task}
use Rattle.vold_book.specs.declared.tasks.Task.TheVariants.{User as Using, Recovery as Recovers, Refusal, Fault}
use Rattle.journal_model.specs.declared.entries.Device.{Device}
use Rattle.journal_model.specs.declared.entries.Device.TheVariants.{Tree, Store, Ring}
use Rattle.bench.specs.Bench.{listed}
use Rattle.deferred_delete.specs.Deferral.{Deferral}
use Rattle.blob_custody.specs.Steps.{pushed_all}
use Rattle.tree_model.specs.declared.blobs.Blob.{Blob}
use Rattle.vold_book.specs.Recovery.{IsSettled, AllPlaced}
use Rattle.vold_book.specs.Turns.{IsTidied}
use Rattle.blob_custody.specs.Custody.{IsListed}
use Rattle.vold_book.proofs.Custodies.{relisted}
use Rattle.vold_book.proofs.Carried.{Carries, KeepsSynced, owing-on, tried-on, pushed-behind, pushed-old, pushed-next}
use Rattle.journal_model.specs.declared.commands.Command.{Command}
use Rattle.vold_book.specs.State.{Plain, Ground, machine_of, tried_in, ground_of}
use Rattle.vold_book.specs.Tasks.{TaskStands, RunsOn, TaskShows, Plans, ends_passed, lists_with, fault_of, due_to}
use Rattle.vold_book.specs.Whole.{PhaseStands, AllRun, Whole}
use Rattle.vold_book.proofs.Moves.{Steady, whole-of, tried-with, runs_apart}
use Rattle.vold_book.proofs.Numbers.{quiet-replied, numbers-quiet, numbers-running}
use Rattle.vold_book.proofs.Plains.{replied_plain}
use Rattle.vold_book.proofs.Shown.{next_reply}
use Rattle.vold_book.proofs.Told.{outcome-told}
use Rattle.vold_book.proofs.Worked.{stands-now, recovers-it}

module _ (book : Plain) (actor : Actor) (it : Running) (now : Task) (reply : Reply) (whole : Whole book)
    (plans : Plans book actor it now (ReplyNext reply)) where
  abbrev machine : Machine
  machine = machine_of book

  abbrev began : BeganCommand
  began = plans.on.began

  -- a recovery ended that left nothing half made, and nothing else runs
  record Recovered (phase : Phase) : Type 0 where
    up : phase ≡ Up
    settled : IsSettled (ground_of book)
    placed : AllPlaced book.bench.store.entries (view book.bench.disk) book.bench.list
    lists : lists_with it.task ≡ []
    durable : IsDurable machine None
    alone : (other : Actor) (o : Running) → other ≢ actor → map.get book.docket.running other ≡ Some o → ⊥

  -- the phase stays, or it is up then
  abbrev PhaseGoes : Phase → Type 0
  PhaseGoes phase = (phase ≡ machine.phase) ⊎ Recovered phase

  record Ends : Type 0 where
    may : AllowsReply machine began began.verdict reply
    goes : PhaseGoes (phase_after machine.phase began.command reply)

  stays : kind_of_reply reply ≢ Outcome → PhaseGoes (phase_after machine.phase began.command reply)
  stays differ = inl (phase-stays machine.phase began.command reply differ)

  none-allows : began.verdict ≡ None → MayEnd (kind_of_reply reply) (ComesTo machine began reply)
      → AllowsReply machine began began.verdict reply
  none-allows none may = subst (λ verdict. AllowsReply machine began verdict reply) (sym none) may

  -- where the machine is down, nobody but this actor runs
  nobody-else : machine.phase ≡ Down → (other : Actor) (o : Running) → other ≢ actor
      → map.get book.docket.running other ≡ Some o → ⊥
  nobody-else down other o differ at = by book.tracker.phase (sym whole.agrees.phase ∙ down) whole.phase
    where
      by : (phase : Phase) → phase ≡ Down → PhaseStands phase book machine → ⊥
      by Up is stands = cc
      by Down is stands = differ (stands.1 other o at ∙ sym (stands.1 actor it plans.runs))
      by Halted is stands = cc

  durable-down : machine.phase ≡ Down → IsDurable machine None
  durable-down down =
      (subst (λ phase. PhaseStands phase book machine) (sym whole.agrees.phase ∙ down) whole.phase).0

  -- whatever the task, the reply may be given
  ends : Ends
  ends = by now refl (stands-now book actor it now (ReplyNext reply) plans) plans.shows
    where
      by : (task : Task) → now ≡ task → TaskStands (ground_of book) task began
          → TaskShows (ground_of book) began (due_to book it) task (ReplyNext reply) → Ends
      by (Using task) same stands shows =
          record {
            may = none-allows stands.accepted
                (subst (λ kind. MayEnd kind (ComesTo machine began reply)) (sym shows.outcome)
                (outcome-told book whole (user_of task) machine.boot began reply shows.may));
            goes = inl (user-stays machine.phase (user_of task) began.command reply stands.of_user);
          }
      by (Recovers recovery) same stands shows =
          let durable = durable-down stands.1.0 in record {
            may =
                none-allows stands.0.verdict
                (subst (λ r. MayEnd (kind_of_reply r) (ComesTo machine began r)) (sym shows.ended)
                (subst (DidRecover (evidence_of machine) 0) (sym stands.0.command) (refl, durable)));
            goes = inr (record {
              up = ap (λ r. phase_after machine.phase began.command r) shows.ended
                  ∙ ap (λ c. phase_after machine.phase c (Ended 0)) stands.0.command;
              settled = shows.settled;
              placed = shows.placed;
              lists = ap lists_with
                  (recovers-it (ground_of book) began (due_to book it) it.task now plans.jobs recovery plans.worked
                  same);
              durable = durable;
              alone = nobody-else stands.1.0;
            });
          }
      by (Refusal refusal) same stands shows = record {
        may = subst (λ verdict. AllowsReply machine began verdict reply) (sym stands.0)
            (next_reply reply refusal shows);
        goes = stays (λ success. refusal_outcome
            (sym stands.1 ∙ ap kind_of_reply (sym (next_reply reply refusal shows)) ∙ success));
      }
        where
          refusal_outcome : RefusalKind ≡ Outcome → ⊥
          refusal_outcome e = cc
      by (Fault device held) same stands shows =
          let told = next_reply reply (fault_of device) shows in record {
            may = none-allows stands (subst (λ r. MayEnd (kind_of_reply r) (ComesTo machine began r)) (sym told)
                (may-fault device));
            goes = stays (λ success. fault_outcome device (ap kind_of_reply (sym told) ∙ success));
          }
        where
          may-fault : (device : Device) → MayEnd (kind_of_reply (fault_of device))
              (ComesTo machine began (fault_of device))
          may-fault Tree = tt
          may-fault Store = tt
          may-fault Ring = tt

          fault_outcome : (device : Device) → kind_of_reply (fault_of device) ≡ Outcome → ⊥
          fault_outcome Tree e = cc
          fault_outcome Store e = cc
          fault_outcome Ring e = cc

  abbrev machine' : Machine
  machine' = after_entry book.ledger.entries machine (Replied it.number reply)

  phase-is : machine'.phase ≡ phase_after machine.phase began.command reply
  phase-is = ap (λ found. if_running found machine.phase (λ r. phase_after machine.phase r.command reply)) plans.on.at

  -- the command is the one of its number
  abbrev given : slice_get book.docket.commands it.number ≡ Some began.command
  given = (whole.numbers.given it.number began plans.on.at).given

  gone : (n : ℕ) (b : BeganCommand) → map.get machine'.running n ≡ Some b → n ≢ it.number
  gone n b at same = none-some b (sym (get-remove_same nat_cmp_total nat_cmp-IsAntisymmetric machine.running it.number)
      ∙ ap (map.get machine'.running) (sym same) ∙ at)

  was_on : (n : ℕ) (b : BeganCommand) → map.get machine'.running n ≡ Some b → map.get machine.running n ≡ Some b
  was_on n b at =
      sym (get-remove_other nat_cmp_total nat_cmp-IsAntisymmetric machine.running it.number n (gone n b at)) ∙ at

  abbrev running' : map.FinMap actor_cmp Running
  running' = map.remove book.docket.running actor

  not_mine : (other : Actor) (o : Running) → map.get running' other ≡ Some o → other ≢ actor
  not_mine other o at same = none-some o (sym (get-remove_same actor_total actor_exact book.docket.running actor)
      ∙ ap (map.get running') (sym same) ∙ at)

  was_run : (other : Actor) (o : Running) → map.get running' other ≡ Some o
      → map.get book.docket.running other ≡ Some o
  was_run other o at =
      sym (get-remove_other actor_total actor_exact book.docket.running actor other (not_mine other o at)) ∙ at

  abbrev ground' : Ground
  ground' = record (ground_of book) {
    phase = machine'.phase;
    list = listed book.bench.list (lists_with it.task);
  }

  abbrev blobs : List Blob
  blobs = lists_with it.task

  abbrev roomy : Deferral
  roomy = record book.bench.list { promised = book.bench.list.promised + length blobs }

  listed-before : KeepsSynced book.bench.list (pushed_all roomy blobs true)
  listed-before item has below = elim (pushed-old roomy blobs true item has) [
    | inl was ↦ was
    | inr later ↦ absurd (omega (arith, later, below))
  ]

  -- what commands owe is listed still
  carries : Carries (ground_of book) ground'
  carries = record {
    next = let next = pushed-next roomy blobs true in omega (arith, next);
    given = λ blob given. given;
    swept = λ blob given none. none;
    tagged = λ blob entry given live. live;
    items = λ item has. inl (record {
      now = item;
      has = pushed-behind roomy blobs true item has;
      number = refl;
      blob = refl;
      unsynced = λ off. (off, λ user not_durable. not_durable);
    });
    old = λ item has below. (item, listed-before item has below, refl);
    alike = inl listed-before;
  }

  -- another command stands as it did, where the phase stays
  same-phase : (other : Actor) (o : Running) → map.get running' other ≡ Some o
      → PhaseGoes (phase_after machine.phase began.command reply) → (b : BeganCommand)
      → TaskStands (ground_of book) o.task b → TaskStands ground' o.task b
  same-phase other o at (inl same) b stands =
      subst (λ phase. TaskStands (record ground' { phase = phase }) o.task b) (sym (phase-is ∙ same))
      (same-list o.task stands)
    where
      -- only a recovery rests on the list, and then nobody else runs
      same-list : (task : Task) → TaskStands (ground_of book) task b
          → TaskStands (record ground' { phase = machine.phase }) task b
      same-list (Using task) stands = stands
      same-list (Recovers recovery) stands =
          absurd (nobody-else stands.1.0 other o (not_mine other o at) (was_run other o at))
      same-list (Refusal refusal) stands = stands
      same-list (Fault device held) stands = stands
  same-phase other o at (inr up) b stands = absurd (up.alone other o (not_mine other o at) (was_run other o at))

  run-then : (other : Actor) (o : Running) → map.get running' other ≡ Some o
      → RunsOn ground' machine' other o
  run-then other o at =
      let run = whole.run other o (was_run other o at) in
      let apart = runs_apart machine actor other it o _ _ plans.on run (not_mine other o at) in record {
        began = run.began;
        at = get-remove_other nat_cmp_total nat_cmp-IsAntisymmetric machine.running it.number o.number apart ∙ run.at;
        own = run.own;
        stands = same-phase other o at ends.goes run.began run.stands;
        holds = record { differ = run.holds.differ; own = run.holds.own };
        owes = λ item owed.
            let own = run.owes item owed in
            (own.0, own.1, owing-on (ground_of book) ground' own.0 item carries own.2);
        tried = tried-on (ground_of book) ground' other (ends_passed run.began.command o.task) o.owed carries run.owes
            run.tried;
      }

  all-then : AllRun machine' running'
  all-then n b at =
      let was = whole.all n b (was_on n b at) in
      subst (λ found. IsSomeAnd found (λ o. o.number ≡ n))
      (sym (get-remove_other actor_total actor_exact book.docket.running actor (actor_of b.command) (not-own was))) was
    where
      not-own : IsSomeAnd (map.get book.docket.running (actor_of b.command)) (λ o. o.number ≡ n)
          → actor_of b.command ≢ actor
      not-own was same = gone n b at (sym (subst (λ found. IsSomeAnd found (λ o. o.number ≡ n))
          (ap (map.get book.docket.running) same ∙ plans.runs) was))

  abbrev after : Plain
  after = replied_plain book actor it began.command reply

  stands-then : (phase : Phase) → machine.phase ≡ phase → PhaseStands phase book machine
      → PhaseGoes (phase_after machine.phase began.command reply) → PhaseStands machine'.phase after machine'
  stands-then phase is stands (inr up) =
      subst (λ p. PhaseStands p after machine') (sym (phase-is ∙ up.up)) (
        up.settled.tidy.known,
        λ user there unmarked. subst (λ kept. NoChangeOf user (drop kept machine.log)) (sym up.durable)
            (subst (NoChangeOf user) (sym (drop-length machine.log)) tt),
      )
  stands-then Up is stands (inl same) = subst (λ p. PhaseStands p after machine') (sym (phase-is ∙ same ∙ is)) stands
  stands-then Down is stands (inl same) = subst (λ p. PhaseStands p after machine') (sym (phase-is ∙ same ∙ is))
      (stands.0, λ other o at. stands.1 other o (was_run other o at))
  stands-then Halted is stands (inl same) =
      absurd (none-some it
      (sym (map.get-empty actor_cmp actor) ∙ ap (λ m. map.get m actor) (sym stands.2) ∙ plans.runs))

  -- where the machine comes up, nothing is half made and every blob is placed
  tidied : book.tracker.phase ≢ Up → phase_after book.tracker.phase began.command reply ≡ Up → IsTidied after
  tidied down up = by ends.goes
    where
      by : PhaseGoes (phase_after machine.phase began.command reply) → IsTidied after
      by (inl same) = absurd (down (sym whole.agrees.phase ∙ sym same
          ∙ ap (λ p. phase_after p began.command reply) whole.agrees.phase ∙ up))
      by (inr recovered) = record {
        tidy = recovered.settled.tidy;
        still = recovered.settled.still;
        placed = λ blob live. elim (recovered.placed blob live) [
          | inl named ↦ inl named
          | inr waits ↦ inr (subst (λ blobs. IsListed (listed book.bench.list blobs) blob) (sym recovered.lists)
              (relisted book.bench.list book.bench.list.next (book.bench.list.promised + 0) blob waits))
        ];
      }

  pub whole-replied : Steady after → Whole after
  whole-replied steady =
      let entry = Replied it.number reply in
      let may = subst (λ found. IsSomeAnd found (λ b. AllowsReply machine b b.verdict reply)) (sym plans.on.at)
      ends.may in
      let phase : machine'.phase ≡ phase_after book.tracker.phase began.command reply =
      phase-is ∙ ap (λ p. phase_after p began.command reply) whole.agrees.phase in
      whole-of after machine' (tried_in book) (machine_after-append book.ledger.entries entry)
      (tried-with book.seed book.ledger.entries (Some entry))
      (legal-append book.ledger.entries entry whole.legal may) steady (record {
        agrees = record {
          phase = phase;
          boot = whole.agrees.boot;
          level = whole.agrees.level;
          durable = whole.agrees.durable;
          pending = whole.agrees.pending;
        };
        worlds = whole.worlds;
        numbers = numbers-running book.docket (book.ledger.entries ++ entry ∷ []) machine' running'
            (numbers-quiet book.docket book.ledger.entries machine entry
            (quiet-replied it.number reply) machine' whole.numbers refl
            (λ n b at. whole.numbers.given n b (was_on n b at)));
        run = run-then;
        all = all-then;
        phase = subst (λ p. PhaseStands p after machine') phase
            (stands-then machine.phase refl
            (subst (λ p. PhaseStands p book machine) (sym whole.agrees.phase) whole.phase)
            ends.goes);
      })

pub replied-up : (book : Plain) (actor : Actor) (it : Running) (now : Task) (reply : Reply) (whole : Whole book)
    (plans : Plans book actor it now (ReplyNext reply)) (command : Command)
    → slice_get book.docket.commands it.number ≡ Some command → book.tracker.phase ≢ Up
    → phase_after book.tracker.phase command reply ≡ Up → IsTidied (replied_plain book actor it command reply)
replied-up book actor it now reply whole plans command is_given down up =
    let same : plans.on.began.command ≡ command = same_Some plans.on.began.command command
    (sym (whole.numbers.given it.number plans.on.began plans.on.at).given ∙ is_given) in
    subst (λ c. phase_after book.tracker.phase c reply ≡ Up → IsTidied (replied_plain book actor it c reply)) same
    (tidied book actor it now reply whole plans down) up
