-- The one theorem of turns: a call, made or failed, that leaves what it has to keeps a Book whole, for any task.
use Rattle.std.proofs.Common.{◌≡◌, ◌≢◌, ℕ, inl, inr, true, List, [], ◌∷◌, length, refl, sym, ap, ◌∙◌, subst, arith}
use Rattle.std.proofs.lemmas.Option.{none-some, same_Some}
use Rattle.std.specs.Prelude.{◌≤◌, Bool, Option, Some, None, is_some, IsSomeAnd, IfSome, Contains, slice_get}
use Rattle.std.specs.Cmp.{nat_cmp_total}
use Rattle.std.specs.FinMap as map
use Rattle.std.specs.FinMap.{nat_cmp-IsAntisymmetric}
use Rattle.tree_model.specs.Disk.{view}
use Rattle.tree_model.proofs.Parts.{fun_ext}
use Rattle.tree_model.proofs.Maps.{decide_key, get-insert_same, get-insert_other}
use Rattle.journal_model.specs.declared.commands.Actor.{Actor}
use Rattle.journal_model.specs.declared.commands.Actor.TheVariants.{Boot, User}
use Rattle.journal_model.specs.declared.entries.Entry.{Entry}
use Rattle.journal_model.specs.declared.phase.Phase.{Phase}
use Rattle.journal_model.specs.declared.phase.Phase.TheVariants.{Up, Down, Halted}
use Rattle.journal_model.specs.Actor.{actor_cmp, actor_total, actor_exact}
use Rattle.journal_model.specs.Command.{actor_of}
use Rattle.journal_model.specs.Machine.{Machine, Running as BeganCommand, IsLegal}
use Rattle.journal_model.specs.Endings.{is_ended}
use Rattle.journal_model.specs.Machine.{IsDurable, machine_after, numbers_begun, blobs_swept}
use Rattle.journal_model.proofs.Steps.{machine_after-append, legal-append}
use Rattle.journal_model.specs.declared.entries.Device.{Device}
use Rattle.journal_model.specs.Made.{boot_seed_of}
use Rattle.keystore_model.specs.declared.entry.StoreEntry.{StoreEntry}
use Rattle.keystore_model.specs.Store.{IsStore}
use Rattle.keystore_model.proofs.Elements.{Contains-none, Contains-cases}
use Rattle.deferred_delete.specs.Deferral.{IsNumbered}
use Rattle.blob_custody.specs.Custody.{IsClean}
use Rattle.user_world.specs.Timelines.{OwnWorldsStand}
use Rattle.user_world.proofs.Timelines.{line-images}
use Rattle.key_directory.specs.Opened.{AreCurrent}
use Rattle.key_directory.specs.Tried.{attempts_of}
use Rattle.key_directory.specs.Vaults.{Attempts, Extends, sealed, KeepsEntry}
use Rattle.key_directory.proofs.Tried.{tried}
use Rattle.tree_model.specs.declared.blobs.Blob.{Blob}
use Rattle.user_world.specs.declared.changes.LocalChange.{LocalChange}
use Rattle.step_core.specs.Table.{Users}
use Rattle.task_turns.specs.declared.calls.Call.{Call}
use Rattle.task_turns.specs.Turns.{AllOwned}
use Rattle.bench.specs.declared.made.Made.{Made}
use Rattle.bench.specs.Bench.{Plain as Seen, was_done}
use Rattle.bench.specs.Known.{Knows}
use Rattle.vold_book.specs.declared.tasks.Running.{Running}
use Rattle.vold_book.specs.declared.tasks.Task.{Task}
use Rattle.vold_book.specs.Endings.{LeavesNothing}
use Rattle.vold_book.specs.Entries.{entry_of, machine_with, tried_with, may_with, made_entry}
use Rattle.vold_book.specs.Installed.{RingStands}
use Rattle.vold_book.specs.Owed.{Owed}
use Rattle.vold_book.specs.Owing.{OwesOwn, HasTried}
use Rattle.vold_book.specs.Parts.{TrackerState, Agrees, with_entry, noted}
use Rattle.vold_book.specs.State.{Plain, Ground, machine_of, tried_in, timeline, ground_at, ground_of, vault_of}
use Rattle.vold_book.specs.Tasks.{TaskStands, RunsOn, HoldsOwn, ends_passed, held_in}
use Rattle.vold_book.specs.Whole.{WasGiven, Numbers, MarksTell, PhaseStands, IsCharged, AllRun, WasSwept, IsSmall}
use Rattle.vold_book.specs.Whole.{custody_of, Whole}
use Rattle.vold_book.proofs.Needed.{KeepsNeeded, held-needed}
use Rattle.vold_book.proofs.Numbers.{IsQuiet, numbers-quiet, numbers-running}

-- what stands of a Book on a machine, where so much was tried with secrets
pub record Core (book : Plain) (machine : Machine) (tried : ℕ → Attempts) : Type 0 where
  pub agrees : Agrees book.tracker machine book.bench.disk
  pub worlds : OwnWorldsStand (sealed (vault_of tried book.seed book.bench.store))
      (timeline book.bench.disk machine)
  pub numbers : Numbers book.docket book.ledger.entries machine
  pub run : (actor : Actor) (it : Running) → map.get book.docket.running actor ≡ Some it
      → RunsOn (ground_at tried book.seed book.bench machine) machine actor it
  pub all : AllRun machine book.docket.running
  pub phase : PhaseStands book.tracker.phase book machine

-- what else stands of it
pub record Steady (book : Plain) : Type 0 where
  pub short : length book.seed ≤ 64
  pub seeded : book.boot_seed ≡ boot_seed_of book.seed book.tracker.boot
  pub store : IsStore book.bench.store
  pub level : book.bench.store.level ≡ book.tracker.level
  pub current : AreCurrent (vault_of (tried_in book) book.seed book.bench.store)
  pub ring : RingStands (tried_in book) book.seed book.bench.keys (machine_of book)
  pub clean : IsClean (custody_of book)
  pub numbered : IsNumbered book.bench.list
  pub swept : (blob : Blob) → Contains (blobs_swept book.ledger.entries) blob → WasSwept book.bench.store blob
  pub ended : (user : ℕ) → is_ended book.ledger.entries user ≡ true → LeavesNothing book user
  pub small : IsSmall book
  pub charged : (device : Device) → IsCharged book device

pub whole-of : (book : Plain) (machine : Machine) (so_far : ℕ → Attempts) → machine_of book ≡ machine
    → tried_in book ≡ so_far → IsLegal book.ledger.entries → Steady book → Core book machine so_far → Whole book
whole-of book machine so_far is told legal steady core =
    let here : Core book (machine_of book) (tried_in book) =
    subst (λ m. Core book m (tried_in book)) (sym is) (subst (Core book machine) (sym told) core) in record {
      legal = legal;
      agrees = here.agrees;
      short = steady.short;
      seeded = steady.seeded;
      store = steady.store;
      level = steady.level;
      current = steady.current;
      images = line-images (sealed (vault_of (tried_in book) book.seed book.bench.store))
          (timeline book.bench.disk (machine_of book)) here.worlds;
      worlds = here.worlds;
      ring = steady.ring;
      numbers = here.numbers;
      run = here.run;
      all = here.all;
      phase = here.phase;
      clean = steady.clean;
      numbered = steady.numbered;
      swept = steady.swept;
      ended = steady.ended;
      small = steady.small;
      charged = steady.charged;
    }

module _ (entries : List Entry) where
  pub legal-with : (entry : Option Entry) → IsLegal entries → may_with entries (machine_after entries) entry
      → IsLegal (with_entry entries entry)
  legal-with None legal may = legal
  legal-with (Some entry) legal may = legal-append entries entry legal may

  pub machine-with : (entry : Option Entry)
      → machine_after (with_entry entries entry) ≡ machine_with entries (machine_after entries) entry
  machine-with None = refl
  machine-with (Some entry) = machine_after-append entries entry

-- what was tried with one more entry, or none
pub tried-with : (seed : List ℕ) (entries : List Entry) (entry : Option Entry)
    → attempts_of seed (with_entry entries entry)
    ≡ tried_with seed (machine_after entries) (attempts_of seed entries) entry
tried-with seed entries None = refl
tried-with seed entries (Some entry) = fun_ext _ _ (λ user. tried.entry seed user entries entry)

-- what was tried stays
pub same-tried : (attempts : Attempts) → Extends attempts attempts
same-tried attempts = record { additions = λ added has. has; secrets = λ secret has. has }

-- by then no less was tried
pub tried-more : (book : Plain) (entry : Option Entry) (user : ℕ)
    → Extends (tried_in book user) (tried_with book.seed (machine_of book) (tried_in book) entry user)
tried-more book None user = same-tried (tried_in book user)
tried-more book (Some entry) user = subst (λ all. Extends (tried_in book user) (all user))
    (tried-with book.seed book.ledger.entries (Some entry))
    (tried.extends book.seed user book.ledger.entries (entry ∷ []))

-- what holds of one actor and of all others holds of each
pub at_actors : (actor : Actor) (P : Actor → Type 0) → P actor → ((other : Actor) → other ≢ actor → P other)
    → (a : Actor) → P a
at_actors actor P here others a = elim (decide_key actor_total actor_exact a actor) [
  | inl same ↦ subst P (sym same) here
  | inr differ ↦ others a differ
]

-- two actors don't run the same number
pub runs_apart : (machine : Machine) (actor other : Actor) (it o : Running) (g h : _)
    → RunsOn g machine actor it → RunsOn h machine other o → other ≢ actor → o.number ≢ it.number
runs_apart machine actor other it o g h mine theirs differ same =
    let one : theirs.began ≡ mine.began =
    same_Some theirs.began mine.began (sym theirs.at ∙ ap (map.get machine.running) same ∙ mine.at) in
    differ (sym theirs.own ∙ ap (λ b. actor_of b.command) one ∙ mine.own)

-- what a call leaves: the devices with what is known of them, the tracker, and what the actor runs, with the call's
-- entry
pub record After : Type 0 where
  pub bench : Seen
  pub tracker : TrackerState
  pub task : Task
  pub entry : Option Entry

-- the machine then, what was tried by then, and the ground
abbrev pub machine_then : Plain → After → Machine
machine_then book after = machine_with book.ledger.entries (machine_of book) after.entry

abbrev pub tried_then : Plain → After → (ℕ → Attempts)
tried_then book after = tried_with book.seed (machine_of book) (tried_in book) after.entry

abbrev pub ground_then : Plain → After → Ground
ground_then book after = ground_at (tried_then book after) book.seed after.bench (machine_then book after)

-- an actor's command with its task, but for what it owes
pub record StandsOn (ground : Ground) (machine : Machine) (actor : Actor) (number : ℕ) (task : Task) : Type 0 where
  pub began : BeganCommand
  pub at : map.get machine.running number ≡ Some began
  pub own : actor_of began.command ≡ actor
  pub stands : TaskStands ground task began
  pub holds : HoldsOwn ground actor (held_in task)

-- what it has to leave, so that the Book is whole
pub record Moves (book : Plain) (actor : Actor) (number : ℕ) (after : After) : Type 0 where
  pub may : may_with book.ledger.entries (machine_of book) after.entry
  pub quiet : IfSome after.entry IsQuiet
  pub agrees : Agrees after.tracker (machine_then book after) after.bench.disk
  pub worlds : OwnWorldsStand (sealed (vault_of (tried_then book after) book.seed after.bench.store))
      (timeline after.bench.disk (machine_then book after))
  pub boot : (machine_then book after).boot ≡ (machine_of book).boot
  -- the actor's own command, and the others
  pub mine : StandsOn (ground_then book after) (machine_then book after) actor number after.task
  pub on_machine : (n : ℕ) → n ≢ number
      → map.get (machine_then book after).running n ≡ map.get (machine_of book).running n
  pub same_command : (began : BeganCommand) → map.get (machine_of book).running number ≡ Some began
      → mine.began.command ≡ began.command
  pub others : (other : Actor) (o : Running) → other ≢ actor → map.get book.docket.running other ≡ Some o
      → (began : BeganCommand) → actor_of began.command ≡ other → TaskStands (ground_of book) o.task began
      → TaskStands (ground_then book after) o.task began
  -- no entry is lost that is needed
  pub kept : KeepsNeeded book (ground_then book after).vault
  -- the phase, and what stands by it
  pub phase : after.tracker.phase ≡ book.tracker.phase
  pub up : book.tracker.phase ≡ Up → Knows after.bench.places (view after.bench.disk)
  pub durable : book.tracker.phase ≡ Down → IsDurable (machine_of book) None → IsDurable (machine_then book after) None

-- what a call leaves, with its change and the task then, by how it went and what it left of the devices
abbrev pub after_of : Plain → ℕ → Call → Option LocalChange → Task → Made → Seen → After
after_of book number call change then made bench = record {
  bench = bench;
  tracker = noted (was_done made) call (is_some change) book.tracker;
  task = then;
  entry = made_entry made (entry_of number call change);
}

-- what else it leaves: what the command owes, and who is marked
pub record Notes : Type 0 where
  pub owed : Owed
  pub marks : Users

-- the Book then
abbrev pub moved : Plain → Actor → ℕ → List Actor → Notes → After → Plain
moved book actor number callers notes after = record book {
  bench = after.bench;
  marks = notes.marks;
  ledger = record book.ledger { entries = with_entry book.ledger.entries after.entry; callers = callers };
  docket = record book.docket {
    running = map.insert book.docket.running actor
        (record { number = number; task = after.task; owed = notes.owed });
  };
  tracker = after.tracker;
}

-- what commands owe then is waiting, what they passed of it has ended still, and no user has a change that isn't
-- durable but those who are marked
pub record Notices (book : Plain) (actor : Actor) (notes : Notes) (after : After) : Type 0 where
  pub mine : OwesOwn (ground_then book after) actor notes.owed
  pub tried : (it : Running) → map.get book.docket.running actor ≡ Some it → (began : BeganCommand)
      → map.get (machine_of book).running it.number ≡ Some began
      → HasTried (ground_then book after) (ends_passed began.command after.task) notes.owed
  pub others : (other : Actor) (o : Running) → other ≢ actor → map.get book.docket.running other ≡ Some o
      → OwesOwn (ground_then book after) other o.owed
  pub others_tried : (other : Actor) (o : Running) → other ≢ actor → map.get book.docket.running other ≡ Some o
      → (ends : Bool) → HasTried (ground_of book) ends o.owed → HasTried (ground_then book after) ends o.owed
  pub marks : book.tracker.phase ≡ Up
      → MarksTell notes.marks after.bench.places (timeline after.bench.disk (machine_then book after))

-- an element of a list of one
at-one : (blobs : List Blob) (blob b : Blob) → Contains blobs blob → Contains (blob ∷ []) b → Contains blobs b
at-one blobs blob b is one = elim (Contains-cases blob [] b one) [
  | inl same ↦ subst (Contains blobs) same is
  | inr none ↦ absurd (Contains-none b none)
]

-- an actor's own blobs, which are the user's
pub owns-all : (entries : List StoreEntry) (actor : Actor) (user : ℕ) (held : List Blob) → actor ≡ User user
    → AllOwned entries user held → (blob : Blob) → Contains held blob
    → (u : ℕ) × (actor ≡ User u) × AllOwned entries u (blob ∷ [])
owns-all entries actor user held own owned blob is = (user, own, λ b one. owned b (at-one held blob b is one))

-- what a command holds it goes on holding where no entry is lost
pub holds-on : (before after : Ground) (actor : Actor) (held : List Blob)
    → ((blob : Blob) → Contains held blob → KeepsEntry before.vault after.vault blob)
    → HoldsOwn before actor held → HoldsOwn after actor held
holds-on before after actor held kept holds = record {
  differ = holds.differ;
  own = λ blob is.
      let own = holds.own blob is in (
        own.0,
        own.1,
        λ b in_one.
            let owned = own.2 b in_one in record {
              entry = owned.entry;
              live = kept b (at-one held blob b is in_one) owned.entry owned.live;
              tagged = owned.tagged;
            },
      );
}

module _ (book : Plain) (actor : Actor) (it : Running) (notes : Notes) (after : After)
    (whole : Whole book) (runs : map.get book.docket.running actor ≡ Some it)
    (moves : Moves book actor it.number after) where
  abbrev then : Machine
  then = machine_then book after

  abbrev it_then : Running
  it_then = record { number = it.number; task = after.task; owed = notes.owed }

  abbrev running_then : map.FinMap actor_cmp Running
  running_then = map.insert book.docket.running actor it_then

  here : map.get running_then actor ≡ Some it_then
  here = get-insert_same actor_total actor_exact book.docket.running actor it_then

  there : (other : Actor) → other ≢ actor → map.get running_then other ≡ map.get book.docket.running other
  there other differ = get-insert_other actor_total actor_exact book.docket.running actor it_then other differ

  mine_before : RunsOn (ground_of book) (machine_of book) actor it
  mine_before = whole.run actor it runs

  -- a command on the machine is one that was given, as before
  given-then : (n : ℕ) (began : BeganCommand) → map.get then.running n ≡ Some began
      → WasGiven book.docket book.ledger.entries n began
  given-then n began at = elim (decide_key nat_cmp_total nat_cmp-IsAntisymmetric n it.number) [
    | inl same ↦
        let own : began ≡ moves.mine.began =
        same_Some began moves.mine.began (sym at ∙ ap (map.get then.running) same ∙ moves.mine.at) in
        let was = whole.numbers.given it.number mine_before.began mine_before.at in record {
          given = ap (slice_get book.docket.commands) same ∙ was.given
              ∙ ap Some (sym (ap (λ b. b.command) own ∙ moves.same_command mine_before.began mine_before.at));
          begun = subst (Contains (numbers_begun book.ledger.entries)) (sym same) was.begun;
        }
    | inr differ ↦ whole.numbers.given n began (sym (moves.on_machine n differ) ∙ at)
  ]

  numbers-then : (entry : Option Entry) → after.entry ≡ entry → IfSome entry IsQuiet
      → Numbers book.docket (with_entry book.ledger.entries entry) then
  numbers-then None is quiet = record {
    accounted = whole.numbers.accounted;
    as_given = whole.numbers.as_given;
    given = given-then;
    counts = whole.numbers.counts;
    boots = let was = whole.numbers.boots in let same = moves.boot in omega (arith, was, same);
    few = whole.numbers.few;
  }
  numbers-then (Some entry) is quiet =
      numbers-quiet book.docket book.ledger.entries
      (machine_of book) entry quiet then whole.numbers moves.boot given-then

  mine-run : Notices book actor notes after → RunsOn (ground_then book after) then actor it_then
  mine-run notices = record {
    began = moves.mine.began;
    at = moves.mine.at;
    own = moves.mine.own;
    stands = moves.mine.stands;
    holds = moves.mine.holds;
    owes = notices.mine;
    tried = subst (λ c. HasTried (ground_then book after) (ends_passed c after.task) notes.owed)
        (sym (moves.same_command mine_before.began mine_before.at))
        (notices.tried it runs mine_before.began mine_before.at);
  }

  kept-run : Notices book actor notes after → (other : Actor) → other ≢ actor → (o : Running)
      → map.get running_then other ≡ Some o
      → RunsOn (ground_then book after) then other o
  kept-run notices other differ o at =
      let was : map.get book.docket.running other ≡ Some o = sym (there other differ) ∙ at in
      let run = whole.run other o was in
      let apart = runs_apart (machine_of book) actor other it o _ _ mine_before run differ in record {
        began = run.began;
        at = moves.on_machine o.number apart ∙ run.at;
        own = run.own;
        stands = moves.others other o differ was run.began run.own run.stands;
        holds = holds-on (ground_of book) (ground_then book after) other (held_in o.task)
            (λ blob holds. moves.kept blob (held-needed book other o was blob holds)) run.holds;
        owes = notices.others other o differ was;
        tried = notices.others_tried other o differ was (ends_passed run.began.command o.task) run.tried;
      }

  all-then : (n : ℕ) (began : BeganCommand) → map.get then.running n ≡ Some began
      → IsSomeAnd (map.get running_then (actor_of began.command)) (λ o. o.number ≡ n)
  all-then n began at = elim (decide_key nat_cmp_total nat_cmp-IsAntisymmetric n it.number) [
    | inl same ↦
        let own : began ≡ moves.mine.began =
        same_Some began moves.mine.began (sym at ∙ ap (map.get then.running) same ∙ moves.mine.at) in
        subst (λ a. IsSomeAnd (map.get running_then a) (λ o. o.number ≡ n))
        (sym (ap (λ b. actor_of b.command) own ∙ moves.mine.own))
        (subst (λ found. IsSomeAnd found (λ o. o.number ≡ n)) (sym here) (sym same))
    | inr differ ↦ at_actors actor
        (λ a. actor_of began.command ≡ a → IsSomeAnd (map.get running_then a) (λ o. o.number ≡ n))
        (λ own. absurd
        (differ (sym (alone (subst (λ a. IsSomeAnd (map.get book.docket.running a) (λ o. o.number ≡ n)) own
        (whole.all n began (sym (moves.on_machine n differ) ∙ at)))))))
        (λ other apart own. subst (λ found. IsSomeAnd found (λ o. o.number ≡ n)) (sym (there other apart))
        (subst (λ a. IsSomeAnd (map.get book.docket.running a) (λ o. o.number ≡ n)) own
        (whole.all n began (sym (moves.on_machine n differ) ∙ at))))
        (actor_of began.command) refl
  ]
    where
      alone : IsSomeAnd (map.get book.docket.running actor) (λ o. o.number ≡ n) → it.number ≡ n
      alone h = subst (λ found. IsSomeAnd found (λ o. o.number ≡ n)) runs h

  stands-then : (callers : List Actor) → Notices book actor notes after → (phase : Phase)
      → book.tracker.phase ≡ phase → PhaseStands phase book (machine_of book)
      → PhaseStands phase (moved book actor it.number callers notes after) then
  stands-then callers notices Up is stands = (moves.up is, notices.marks is)
  stands-then callers notices Down is stands = (
    moves.durable is stands.0,
    at_actors actor (λ a. (o : Running) → map.get running_then a ≡ Some o → a ≡ Boot)
        (λ o at. stands.1 actor it runs) (λ other differ o at. stands.1 other o (sym (there other differ) ∙ at)),
  )
  stands-then callers notices Halted is stands =
      absurd (none-some it (sym (map.get-empty actor_cmp actor) ∙ ap (λ m. map.get m actor) (sym stands.2) ∙ runs))

  -- so the Book is whole, where what doesn't speak of the machine stands
  pub whole-moved : (callers : List Actor) → Notices book actor notes after
      → Steady (moved book actor it.number callers notes after)
      → Whole (moved book actor it.number callers notes after)
  whole-moved callers notices steady =
      whole-of (moved book actor it.number callers notes after) then (tried_then book after)
      (machine-with book.ledger.entries after.entry) (tried-with book.seed book.ledger.entries after.entry)
      (legal-with book.ledger.entries after.entry whole.legal moves.may) steady (record {
        agrees = moves.agrees;
        worlds = moves.worlds;
        numbers = numbers-running book.docket (with_entry book.ledger.entries after.entry) then running_then
            (numbers-then after.entry refl moves.quiet);
        run = at_actors actor _
            (λ o at. subst (RunsOn (ground_then book after) then actor)
            (same_Some it_then o (sym here ∙ at)) (mine-run notices)) (kept-run notices);
        all = all-then;
        phase = subst (λ p. PhaseStands p (moved book actor it.number callers notes after) then) (sym moves.phase)
            (stands-then callers notices book.tracker.phase refl whole.phase);
      })
