-- A turn that begins a command keeps a Book whole.
use Rattle.std.proofs.Common.{◌≡◌, ◌≢◌, ℕ, ◌+◌, inl, inr, cond, List, [], ◌∷◌, ◌++◌, refl, sym, ap, ◌∙◌, subst}
use Rattle.std.proofs.Common.{arith}
use Rattle.std.proofs.lemmas.Option.{same_Some}
use Rattle.std.proofs.lemmas.List.Elements.{Contains-append_left, Contains-push}
use Rattle.std.specs.Prelude.{Bool, Option, Some, None, IsNone, IsSomeAnd, IfSome, Contains, slice_get, unwrap_or}
use Rattle.std.specs.Cmp.{nat_cmp_total}
use Rattle.std.specs.FinMap as map
use Rattle.std.specs.FinMap.{nat_cmp-IsAntisymmetric}
use Rattle.tree_model.specs.Disk.{view}
use Rattle.tree_model.proofs.Maps.{decide_key, get-insert_same, get-insert_other, tied, apart}
use Rattle.deferred_delete.specs.declared.items.Item.{Item}
use Rattle.journal_model.specs.declared.commands.Actor.{Actor}
use Rattle.journal_model.specs.declared.commands.Actor.TheVariants.{Boot}
use Rattle.journal_model.specs.declared.entries.Entry.{Entry}
use Rattle.journal_model.specs.declared.phase.Phase.{Phase}
use Rattle.journal_model.specs.declared.phase.Phase.TheVariants.{Up, Down, Halted}
use Rattle.journal_model.specs.Actor.{actor_cmp, actor_total, actor_exact}
use Rattle.journal_model.specs.Command.{actor_of}
use Rattle.journal_model.specs.Machine.{Machine, Running as BeganCommand, begun_by, numbers_begun, TakesTurn}
use Rattle.journal_model.proofs.Steps.{machine_after-append, legal-append, begun_by-append, numbers_begun-append}
use Rattle.keystore_model.proofs.Elements.{Contains-none}
use Rattle.docket.specs.Accounts.{Accounted}
use Rattle.docket.specs.Docket.{after_begin, begun_by as docket_begun}
use Rattle.docket.proofs.Accounts.{accounted-begun, first-fresh}
use Rattle.key_directory.specs.Vaults.{Attempts}
use Rattle.bench.specs.Known.{Knows}
use Rattle.vold_book.specs.declared.tasks.Running.{Running}
use Rattle.vold_book.specs.declared.tasks.Task.{Task}
use Rattle.vold_book.specs.declared.tasks.Task.TheVariants.{User as Using, Recovery as Recovers, Refusal, Fault}
use Rattle.vold_book.specs.Owed.{Owed}
use Rattle.vold_book.specs.Owing.{IsOwing, OwesOwn, HasTried}
use Rattle.vold_book.specs.State.{Docket, Plain, Ground, machine_of, tried_in, timeline, ground_of, vault_of}
use Rattle.vold_book.specs.Tasks.{TaskStands, RunsOn, HoldsOwn, ends_passed}
use Rattle.vold_book.specs.Turns.{begun_marks}
use Rattle.vold_book.specs.Whole.{WasGiven, Numbers, MarksTell, PhaseStands, AllRun, Whole}
use Rattle.vold_book.proofs.FirstTasks.{begun_entry, begun_machine, begun_command, begun_tried, more-tried}
use Rattle.vold_book.proofs.FirstTasks.{begun_ground, StandsFirst, begins-stands}
use Rattle.vold_book.proofs.Grounds.{stands-more, worlds-later}
use Rattle.vold_book.proofs.Moves.{Steady, whole-of, tried-with, at_actors}
use Rattle.vold_book.proofs.Numbers.{all_given-append}
use Rattle.vold_book.proofs.Plains.{Beginning, IsBeginning, begun_plain, begun_seen, work_of}

pub none_of : {A : Type 0} (found : Option A) → IsNone found → found ≡ None
none_of None none = refl
none_of (Some a) none = cc

-- what commands owe they owe still, whatever was tried
owing-more : (on : Ground) (tried : ℕ → Attempts) (user : ℕ) (item : Item) → IsOwing on user item
    → IsOwing (record on { vault = record on.vault { attempts = tried } }) user item
owing-more on tried user item owing = record {
  numbered = owing.numbered;
  given = owing.given;
  stands = elim owing.stands [
    | inl waits ↦ inl (record { synced = waits.synced; has = waits.has; unsynced = waits.unsynced })
    | inr ended ↦ inr (record { gone = ended.gone; taken = ended.taken })
  ];
  tagged = owing.tagged;
}

owes-more : (on : Ground) (tried : ℕ → Attempts) (actor : Actor) (owed : Owed) → OwesOwn on actor owed
    → OwesOwn (record on { vault = record on.vault { attempts = tried } }) actor owed
owes-more on tried actor owed owes item has =
    let own = owes item has in (own.0, own.1, owing-more on tried own.0 item own.2)

-- and came as far with it
tried-more : (on : Ground) (tried : ℕ → Attempts) (ends : Bool) (owed : Owed) → HasTried on ends owed
    → HasTried (record on { vault = record on.vault { attempts = tried } }) ends owed
tried-more on tried ends owed has = record {
  reached = has.reached;
  order = has.order;
  ended = λ all item is low. let ended = has.ended all item is low in
      record { gone = ended.gone; taken = ended.taken };
}

module _ (book : Plain) (actor : Actor) (begins : Beginning) (whole : Whole book)
    (idle : IsNone (map.get book.docket.running actor))
    (takes : TakesTurn book.tracker.phase actor) (is : IsBeginning book actor begins)
    (own : actor_of begins.command ≡ actor) where
  abbrev machine : Machine
  machine = machine_of book

  abbrev entry : Entry
  entry = begun_entry book actor begins

  abbrev machine' : Machine
  machine' = begun_machine book actor begins

  abbrev began : BeganCommand
  began = begun_command book actor begins

  abbrev tried' : ℕ → Attempts
  tried' = begun_tried book actor begins

  abbrev ground' : Task → Ground
  ground' task = begun_ground book actor begins task

  stands-first : StandsFirst book actor begins begins.task
  stands-first = begins-stands book actor begins whole takes own is

  abbrev mine : Running
  mine = work_of begins

  abbrev running' : map.FinMap actor_cmp Running
  running' = map.insert book.docket.running actor mine

  abbrev docket' : Docket
  docket' = after_begin book.docket actor begins.numbers mine

  here : map.get running' actor ≡ Some mine
  here = get-insert_same actor_total actor_exact book.docket.running actor mine

  there : (other : Actor) → other ≢ actor → map.get running' other ≡ map.get book.docket.running other
  there other differ = get-insert_other actor_total actor_exact book.docket.running actor mine other differ

  on_here : map.get machine'.running begins.number ≡ Some began
  on_here = get-insert_same nat_cmp_total nat_cmp-IsAntisymmetric machine.running begins.number began

  on_other : (n : ℕ) → n ≢ begins.number → map.get machine'.running n ≡ map.get machine.running n
  on_other n differ =
      get-insert_other nat_cmp_total nat_cmp-IsAntisymmetric machine.running begins.number began n differ

  no_work : map.get book.docket.running actor ≡ None
  no_work = none_of (map.get book.docket.running actor) idle

  fresh : ¬ (Contains (numbers_begun book.ledger.entries) begins.number)
  fresh =
      first-fresh actor_total actor_exact actor_of book.docket
      (numbers_begun book.ledger.entries) whole.numbers.accounted actor begins.number begins.numbers is.queued

  -- no command of the actor is on the machine
  nothing-on : (n : ℕ) (b : BeganCommand) → map.get machine.running n ≡ Some b → actor_of b.command ≢ actor
  nothing-on n b at same =
      subst (λ found. IsSomeAnd found (λ o. o.number ≡ n)) (ap (map.get book.docket.running) same ∙ no_work)
      (whole.all n b at)

  if-nothing-on : (n : ℕ) (found : Option BeganCommand) → map.get machine.running n ≡ found
      → IfSome found (λ b. actor_of b.command ≢ actor)
  if-nothing-on n None at = tt
  if-nothing-on n (Some b) at = nothing-on n b at

  -- what runs has another number
  not-fresh : (other : Actor) (o : Running) → map.get book.docket.running other ≡ Some o → o.number ≢ begins.number
  not-fresh other o at same =
      let run = whole.run other o at in
      fresh (subst (Contains (numbers_begun book.ledger.entries)) same
      (whole.numbers.given o.number run.began run.at).begun)

  abbrev begun_now : List ℕ
  begun_now = numbers_begun book.ledger.entries ++ begins.number ∷ []

  numbers-are : numbers_begun (book.ledger.entries ++ entry ∷ []) ≡ begun_now
  numbers-are = numbers_begun-append book.ledger.entries entry

  given-now : (n : ℕ) (b : BeganCommand) → map.get machine'.running n ≡ Some b
      → WasGiven docket' (book.ledger.entries ++ entry ∷ []) n b
  given-now n b at = elim (decide_key nat_cmp_total nat_cmp-IsAntisymmetric n begins.number) [
    | inl same ↦
        let own : b ≡ began = same_Some b began (sym at ∙ ap (map.get machine'.running) same ∙ on_here) in record {
          given = ap (slice_get book.docket.commands) same ∙ is.given ∙ ap Some (sym (ap (λ r. r.command) own));
          begun = subst (λ ns. Contains ns n) (sym numbers-are)
              (subst (Contains begun_now) (sym same)
              (Contains-push (numbers_begun book.ledger.entries) begins.number));
        }
    | inr differ ↦
        let was = whole.numbers.given n b (sym (on_other n differ) ∙ at) in record {
          given = was.given;
          begun = subst (λ ns. Contains ns n) (sym numbers-are)
              (Contains-append_left (numbers_begun book.ledger.entries) (begins.number ∷ []) n was.begun);
        }
  ]

  counts-now : (other : Actor) → docket_begun docket' other ≡ begun_by other (book.ledger.entries ++ entry ∷ [])
  counts-now = at_actors actor _
      (ap (λ found. unwrap_or found 0) (get-insert_same actor_total actor_exact book.docket.begun actor _)
      ∙ ap (λ n. n + 1) (whole.numbers.counts actor) ∙ sym (begun_by-append actor book.ledger.entries entry
      ∙ ap (λ t. cond t (begun_by actor book.ledger.entries + 1) (begun_by actor book.ledger.entries))
      (tied actor_total actor_exact actor actor refl)))
      (λ other differ. ap (λ found. unwrap_or found 0)
      (get-insert_other actor_total actor_exact book.docket.begun actor _ other differ) ∙ whole.numbers.counts other
      ∙ sym (begun_by-append other book.ledger.entries entry
      ∙ ap (λ t. cond t (begun_by other book.ledger.entries + 1) (begun_by other book.ledger.entries))
      (apart actor_total actor_exact other actor differ)))

  numbers-now : Numbers docket' (book.ledger.entries ++ entry ∷ []) machine'
  numbers-now = record {
    accounted = subst (λ ns. Accounted actor_of ns docket') (sym numbers-are)
        (accounted-begun actor_total actor_exact actor_of book.docket (numbers_begun book.ledger.entries)
        whole.numbers.accounted actor begins.number begins.numbers is.queued mine);
    as_given =
        all_given-append book.docket.commands book.ledger.entries entry whole.numbers.as_given (is.given, sym own);
    given = given-now;
    counts = counts-now;
    boots = whole.numbers.boots;
    few = whole.numbers.few;
  }

  -- what another command rests on then, and owes
  record StandsStill (task : Task) (other : Actor) (o : Running) (b : BeganCommand) : Type 0 where
    stands : TaskStands (ground' task) o.task b
    owes : OwesOwn (ground' task) other o.owed
    tried : HasTried (ground' task) (ends_passed b.command o.task) o.owed

  module _ (other : Actor) (differ : other ≢ actor) (o : Running) (was : map.get book.docket.running other ≡ Some o)
    where
      abbrev run : RunsOn (ground_of book) machine other o
      run = whole.run other o was

      -- it stands still where what begins leaves the ground
      still : (task : Task) → ground' task ≡ record (ground_of book) {
        vault = record (ground_of book).vault { attempts = tried' };
      } → StandsStill task other o run.began
      still task same = record {
        stands = subst (λ on. TaskStands on o.task run.began) (sym same)
            (stands-more (ground_of book) tried' (more-tried book actor begins) o.task run.began run.stands);
        owes = subst (λ on. OwesOwn on other o.owed) (sym same)
            (owes-more (ground_of book) tried' other o.owed run.owes);
        tried = subst (λ on. HasTried on (ends_passed run.began.command o.task) o.owed) (sym same)
            (tried-more (ground_of book) tried' (ends_passed run.began.command o.task) o.owed run.tried);
      }

      -- and a recovery begins where nobody runs
      ground-stays : (task : Task) → StandsFirst book actor begins task → StandsStill task other o run.began
      ground-stays (Using t) first = still (Using t) refl
      ground-stays (Recovers recovery) first =
          absurd (nobody book.tracker.phase (sym whole.agrees.phase ∙ first.stands.1.0) whole.phase takes)
        where
          nobody : (phase : Phase) → phase ≡ Down → PhaseStands phase book machine → TakesTurn phase actor → ⊥
          nobody Up down phase takes = cc
          nobody Down down phase takes = differ (phase.1 other o was ∙ sym takes)
          nobody Halted down phase takes = takes
      ground-stays (Refusal reply) first = still (Refusal reply) refl
      ground-stays (Fault device held) first = still (Fault device held) refl

  run-now : (other : Actor) → other ≢ actor → (o : Running) → map.get running' other ≡ Some o
      → RunsOn (ground' begins.task) machine' other o
  run-now other differ o at =
      let was : map.get book.docket.running other ≡ Some o = sym (there other differ) ∙ at in
      let run = whole.run other o was in
      let stays = ground-stays other differ o was begins.task stands-first in record {
        began = run.began;
        at = on_other o.number (not-fresh other o was) ∙ run.at;
        own = run.own;
        stands = stays.stands;
        holds = record { differ = run.holds.differ; own = run.holds.own };
        owes = stays.owes;
        tried = stays.tried;
      }

  all-now : AllRun machine' running'
  all-now n b at = elim (decide_key nat_cmp_total nat_cmp-IsAntisymmetric n begins.number) [
    | inl same ↦
        let is : b ≡ began = same_Some b began (sym at ∙ ap (map.get machine'.running) same ∙ on_here) in
        subst (λ a. IsSomeAnd (map.get running' a) (λ o. o.number ≡ n)) (sym (ap (λ r. actor_of r.command) is ∙ own))
        (subst (λ found. IsSomeAnd found (λ o. o.number ≡ n)) (sym here) (sym same))
    | inr differ ↦
        let was : map.get machine.running n ≡ Some b = sym (on_other n differ) ∙ at in
        subst (λ found. IsSomeAnd found (λ o. o.number ≡ n)) (sym (there (actor_of b.command) (nothing-on n b was)))
        (whole.all n b was)
  ]

  abbrev after_begins : Plain
  after_begins = begun_plain book actor begins

  stands-now : (phase : Phase) → machine.phase ≡ phase → TakesTurn phase actor → PhaseStands phase book machine
      → PhaseStands phase after_begins machine'
  stands-now Up is_phase takes stands = by begins.task stands-first
    where
      by : (task : Task) → StandsFirst book actor begins task
          → Knows (begun_seen task book.bench).places (view book.bench.disk)
          × MarksTell (begun_marks task book.marks) (begun_seen task book.bench).places
          (timeline book.bench.disk machine')
      by (Using t) first = stands
      by (Recovers recovery) first = absurd (up_down (sym is_phase ∙ first.stands.1.0))
        where
          up_down : Up ≡ Down → ⊥
          up_down e = cc
      by (Refusal reply) first = stands
      by (Fault device held) first = stands
  stands-now Down is_phase takes stands = (
    stands.0,
    at_actors actor (λ a. (o : Running) → map.get running' a ≡ Some o → a ≡ Boot) (λ o at. takes)
        (λ other differ o at. stands.1 other o (sym (there other differ) ∙ at)),
  )
  stands-now Halted is_phase takes stands = absurd takes

  -- so the Book is whole, where what doesn't speak of the machine stands
  pub whole-begun : Steady after_begins → Whole after_begins
  whole-begun steady =
      whole-of after_begins machine' tried' (machine_after-append book.ledger.entries entry)
      (tried-with book.seed book.ledger.entries (Some entry))
      (legal-append book.ledger.entries entry whole.legal (record {
        own = sym own;
        idle = λ n. if-nothing-on n (map.get machine.running n) refl;
        fresh = fresh;
        takes = subst (λ p. TakesTurn p actor) (sym whole.agrees.phase) takes;
      })) steady (record {
        agrees = record {
          phase = whole.agrees.phase;
          boot = whole.agrees.boot;
          level = whole.agrees.level;
          durable = whole.agrees.durable;
          pending = whole.agrees.pending;
        };
        worlds = worlds-later (vault_of (tried_in book) book.seed book.bench.store)
            (vault_of tried' book.seed book.bench.store) (timeline book.bench.disk machine)
            (record { level = omega arith; seed = refl; attempts = more-tried book actor begins })
            (λ blob shown entry live. live) whole.worlds;
        numbers = numbers-now;
        run = at_actors actor
            (λ a. (o : Running) → map.get running' a ≡ Some o → RunsOn (ground' begins.task) machine' a o)
            (λ o at. subst (RunsOn (ground' begins.task) machine' actor) (same_Some mine o (sym here ∙ at)) (record {
              began = began;
              at = on_here;
              own = own;
              stands = stands-first.stands;
              holds = subst (HoldsOwn (ground' begins.task) actor) (sym stands-first.empty) (record {
                differ = tt;
                own = λ blob has. absurd (Contains-none blob has);
              });
              owes = λ item has. absurd (Contains-none item has);
              tried = record {
                reached = omega arith;
                order = tt;
                ended = λ all item has low. absurd (Contains-none item has);
              };
            }))
            run-now;
        all = all-now;
        phase = stands-now book.tracker.phase whole.agrees.phase takes whole.phase;
      })
