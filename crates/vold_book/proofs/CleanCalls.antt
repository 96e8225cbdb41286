-- Each call of a task, done or failed, keeps a Book's blobs in order.
use Rattle.std.proofs.Common.{◌≡◌, true, false, List, [], ◌∷◌, ◌++◌, refl, sym, ap, ◌∙◌, subst}
use Rattle.std.specs.Prelude.{ℕ, Bool, Option, Some, is_some, Ok}
use Rattle.std.specs.FinMap as map
use Rattle.tree_model.specs.declared.blobs.Blob.{Blob}
use Rattle.tree_model.specs.declared.files.FileName.{FileName}
use Rattle.tree_model.specs.declared.sites.LocalOp.{LocalOp}
use Rattle.tree_model.specs.declared.sites.LocalOp.TheVariants.{MakeDir, Write, RenameFile}
use Rattle.tree_model.specs.declared.sites.LocalOp.TheVariants.{RenameDir, RemoveFile, RemoveDir}
use Rattle.tree_model.specs.declared.sites.Site.{Site}
use Rattle.tree_model.specs.declared.sites.Site.TheVariants.{De, Ce, Temp}
use Rattle.tree_model.specs.Disk.{view}
use Rattle.tree_model.specs.Parts.{Part}
use Rattle.tree_model.specs.Tree.{if_there}
use Rattle.deferred_delete.specs.declared.items.Item.{Item}
use Rattle.journal_model.specs.declared.commands.Actor.{Actor}
use Rattle.journal_model.specs.declared.phase.Phase.TheVariants.{Down}
use Rattle.journal_model.specs.Machine.{is_up, Running as Began}
use Rattle.keystore_model.specs.declared.entry.StoreEntry.{StoreEntry}
use Rattle.keystore_model.specs.Store.{Differ, entry_of}
use Rattle.keystore_model.proofs.Stores.{not-given}
use Rattle.seal_model.specs.Sealed.{sealed_text}
use Rattle.blob_custody.specs.Custody.{IsClean}
use Rattle.blob_custody.specs.Steps.{LetsGo, Renames}
use Rattle.blob_custody.specs.Operations.{IsQuiet}
use Rattle.blob_custody.proofs.Renamings.{quiet-operation}
use Rattle.key_directory.specs.Vaults.{sealed}
use Rattle.user_world.specs.declared.changes.LocalChange.{LocalChange}
use Rattle.user_world.specs.OwnWorlds.{own_view}
use Rattle.user_world.specs.Timelines.{Timeline, own_of}
use Rattle.user_world.proofs.Timelines.{view-shown}
use Rattle.step_core.specs.Table.{Users}
use Rattle.task_turns.specs.declared.calls.Answer.{Answer}
use Rattle.task_turns.specs.declared.calls.Answer.TheVariants.{Done, Sealed}
use Rattle.task_turns.specs.declared.calls.Call.{Call}
use Rattle.task_turns.specs.declared.calls.Call.TheVariants.{Op, Sync, List as ListCall, Read}
use Rattle.task_turns.specs.declared.calls.Call.TheVariants.{Generate, Encrypt, Decrypt, Entries, Add, Remove}
use Rattle.task_turns.specs.declared.calls.Call.TheVariants.{Delete}
use Rattle.task_turns.specs.declared.next.Next.{Next}
use Rattle.task_turns.specs.declared.next.Next.TheVariants.{Call as CallNext}
use Rattle.task_turns.specs.Names.{Brings}
use Rattle.task_turns.specs.Turns.{seen_of, Scene, CallStands}
use Rattle.bench.specs.declared.made.Made.{Made}
use Rattle.bench.specs.declared.made.Made.TheVariants.{Heard, Failed}
use Rattle.bench.specs.Bench.{Plain as Seen, Does, IsFailedOp, IsFailed, IsMade, was_done, listed, dropped}
use Rattle.bench.specs.Known.{Knows}
use Rattle.bench.specs.Seen.{AnswersWhole}
use Rattle.user_tasks.specs.declared.tasks.UserTask.{UserTask}
use Rattle.user_tasks.specs.Tasks.{tasks, user_of, rest_of}
use Rattle.vold_book.specs.declared.recovery.Recovery.{Recovery}
use Rattle.vold_book.specs.declared.tasks.Running.{Running}
use Rattle.vold_book.specs.declared.tasks.Task.{Task}
use Rattle.vold_book.specs.declared.tasks.Task.TheVariants.{User as Using, Recovery as Recovers, Refusal, Fault}
use Rattle.vold_book.specs.Recovery.{RecoveryCalls}
use Rattle.vold_book.specs.State.{Plain, Ground, machine_of, timeline, ground_of, tried_in, vault_of}
use Rattle.vold_book.specs.Tasks.{held_in, TaskStands, TaskShows, scene_of, task_heard, TaskAfter}
use Rattle.vold_book.specs.Tasks.{Plans, TaskFailed, is_untold, due_to}
use Rattle.vold_book.specs.Turns.{Making, after_call}
use Rattle.vold_book.specs.Whole.{Whole, held_of, all_held, custody_of}
use Rattle.vold_book.proofs.DroppedBlobs.{renames-dropped, drops-differ}
use Rattle.vold_book.proofs.DueItems.{due-listed}
use Rattle.vold_book.proofs.HeardCalls.{found-own}
use Rattle.vold_book.proofs.HeldBlobs.{same-insert, clean-held, clean-ready}
use Rattle.vold_book.proofs.NamesLive.{renames-gained, keeps-all}
use Rattle.vold_book.proofs.StepsMade.{step-fits}
use Rattle.vold_book.proofs.UserRuns.{known-up}
use Rattle.vold_book.proofs.Tracked.{noted-stays}
use Rattle.vold_book.proofs.Worked.{stands-now, held-now}
use Rattle.vold_book.proofs.Custodies.{sensed, CleanSensed, CleanAt, clean-still, clean-operated, clean-renamed}
use Rattle.vold_book.proofs.Custodies.{clean-synced, clean-deleted}
use Rattle.blob_custody.proofs.Steps.{lets-none}
use Rattle.vold_book.proofs.Custodies.{clean-entered}
use Rattle.vold_book.proofs.CleanListing.{clean-found}

-- what a task's operation brings
module _ (ground : Ground) (began : Began) (due : Option Item) (change : Option LocalChange) where
  task-brings : (task : Task) (user : ℕ) (op : LocalOp) (names : Option Blob)
      → TaskShows ground began due task (CallNext (Op user op names) change) → (view : Part) × Brings view op names
  task-brings (Using task) user op names shows =
      (own_view (own_of (user_of task) ground.line), shows.stands.brings.brings)
  task-brings (Recovers recovery) user op names shows = (own_view (own_of user ground.line), shows.1.brings)
  task-brings (Refusal reply) user op names shows = cc
  task-brings (Fault device held) user op names shows = cc

  -- of a delete that failed the task goes on holding what it held
  untold-holds : (call : Call) (task : Task) → is_untold call ≡ true
      → TaskShows ground began due task (CallNext call change)
      → held_in (task_heard call Done task) ≡ held_in task
  untold-holds (Delete item false) (Using task) is shows = shows.stands.held
  untold-holds call (Recovers recovery) is shows = refl
  untold-holds call (Refusal reply) is shows = refl
  untold-holds call (Fault device held) is shows = refl
  untold-holds call (Using task) is shows = cc

-- what is sealed under the entry of a blob
sealed-under : (found : Option StoreEntry) (entry : StoreEntry) (nonce key : List ℕ) → found ≡ Some entry
    → if_there found [] (λ e. sealed_text e.key nonce key) ≡ sealed_text entry.key nonce key
sealed-under found entry nonce key is = ap (λ f. if_there f [] (λ (e : StoreEntry). sealed_text e.key nonce key)) is

-- files are written in the temporary directory alone
written-quiet : (view : Part) (site : Site) (file : FileName) (bytes other : List ℕ) (names : Option Blob)
    → Brings view (Write site file bytes) names → IsQuiet (Write site file other)
written-quiet view De file bytes other names brings = absurd brings
written-quiet view (Ce slot) file bytes other names brings = absurd brings
written-quiet view Temp file bytes other names brings = record { device = refl; slots = λ slot. refl }

module _ (book : Plain) (whole : Whole book) (actor : Actor) (it then : Running)
    (runs : map.get book.docket.running actor ≡ Some it) where
  abbrev Clean : Seen → Type 0
  Clean bench = CleanAt book whole actor it then runs bench

  -- all but what custody sees of a bench changed
  clean-rests : (bench : Seen) → held_of then ≡ held_of it → sensed bench ≡ sensed book.bench → Clean bench
  clean-rests bench same is =
      subst (CleanSensed book whole actor it then runs) (sym is) (clean-still book whole actor it then runs same)

  -- a failed operation, whose task goes on holding what it held
  failed-op : (bench : Seen) (view : Part) (user : ℕ) (op : LocalOp) (names : Option Blob)
      → held_of then ≡ held_of it → Brings view op names → IsFailedOp book.bench bench user op → Clean bench
  failed-op bench view user (MakeDir site) names same brings failed = clean-rests bench same (ap sensed failed)
  failed-op bench view user (Write site file bytes) names same brings failed =
      clean-renamed book whole actor it then runs bench user (Write site file failed.0)
      (quiet-operation book.bench.disk user (Write site file failed.0)
      (written-quiet view site file bytes failed.0 names brings)) same (ap sensed failed.1)
  failed-op bench view user (RenameFile site from to) names same brings failed =
      clean-rests bench same (ap sensed failed)
  failed-op bench view user (RenameDir from to) names same brings failed = clean-rests bench same (ap sensed failed)
  failed-op bench view user (RemoveFile site file) names same brings failed = clean-rests bench same (ap sensed failed)
  failed-op bench view user (RemoveDir site) names same brings failed = clean-rests bench same (ap sensed failed)

  -- a call that failed
  clean-failed : (bench : Seen) (call : Call) → held_of then ≡ held_of it
      → ((user : ℕ) (op : LocalOp) (names : Option Blob) → call ≡ Op user op names
      → (view : Part) × Brings view op names)
      → IsFailed book.bench bench call → Clean bench
  clean-failed bench (Op user op names) same brings failed =
      let mine = brings user op names refl in failed-op bench mine.0 user op names same mine.1 failed
  clean-failed bench Sync same brings failed = clean-rests bench same (ap sensed failed)
  clean-failed bench ListCall same brings failed = clean-rests bench same (ap sensed failed)
  clean-failed bench (Read place) same brings failed = clean-rests bench same (ap sensed failed)
  clean-failed bench (Generate tag app_id) same brings failed = clean-rests bench same (ap sensed failed)
  clean-failed bench (Encrypt blob app_id nonce key) same brings failed = clean-rests bench same (ap sensed failed)
  clean-failed bench (Decrypt blob app_id text) same brings failed = clean-rests bench same (ap sensed failed)
  clean-failed bench Entries same brings failed = clean-rests bench same (ap sensed failed)
  clean-failed bench (Add user class key) same brings failed = clean-rests bench same (ap sensed failed)
  clean-failed bench (Remove user class) same brings failed = clean-rests bench same (ap sensed failed)
  clean-failed bench (Delete item tells) same brings failed = clean-rests bench same (ap sensed failed)

  -- a user's call that was done
  module _ (task : UserTask) (began : Began) (held : (rest_of task).held ≡ held_of it)
      (known : Knows book.bench.places (view book.bench.disk)) where
    abbrev scene : Scene
    scene = scene_of (user_of task) (ground_of book) began (due_to book it)

    abbrev line : Timeline
    line = timeline book.bench.disk (machine_of book)

    -- what the task holds then
    abbrev HeldAfter : Answer → Type 0
    HeldAfter answer = held_of then ≡ (rest_of (tasks.after task answer)).held

    user-done : (bench : Seen) (call : Call) (change : Option LocalChange) (answer : Answer)
        → CallStands (seen_of tasks task) scene call change → Does book.bench bench call answer
        → AnswersWhole (Ok (Heard answer)) → HeldAfter answer → Clean bench
    user-done bench (Op user op names) change answer stands does long after =
        let fits = step-fits (sealed (vault_of (tried_in book) book.seed book.bench.store)) (user_of task) line change
        whole.worlds op stands.step in
        clean-operated book whole actor it then runs bench user op stands.gains (dropped book.bench.places user op)
        (subst (λ u. Renames book.bench.disk u op stands.gains (dropped book.bench.places u op)) (sym stands.mine)
        (renames-dropped book whole known (user_of task) op stands.gains fits stands.gained))
        (subst (λ u. Differ (dropped book.bench.places u op)) (sym stands.mine)
        (drops-differ book whole known (user_of task) op fits))
        (subst (λ blobs. LetsGo blobs stands.gains (held_of then)) held
        (subst (LetsGo (rest_of task).held stands.gains) (sym (subst HeldAfter does.0 after)) stands.lets_go))
        (ap sensed does.1)
    user-done bench Sync change answer stands does long after =
        clean-synced book whole actor it then runs bench
        (subst HeldAfter does.0 after ∙ stands.held ∙ held) (ap sensed does.1)
    user-done bench ListCall change answer stands does long after = absurd stands
    user-done bench (Read place) change answer stands does long after =
        let shows = stands.each does.0
        (found-own (own_view scene.share.own) (view book.bench.disk) (user_of task) place
        (view-shown (user_of task) _ _ whole.worlds.shows) stands.mine ∙ does.1) in
        clean-rests bench (subst HeldAfter does.2 after ∙ shows.held ∙ held) (ap sensed does.3)
    user-done bench (Generate tag app_id) change answer stands does long after =
        let fresh = not-given book.bench.store does.0 whole.store does.2.fresh in
        let shows = stands.each does.0 does.2.key (subst (λ a. AnswersWhole (Ok (Heard a))) does.1 long) fresh in
        clean-entered book whole actor it then runs bench tag app_id does.0 does.2
        (subst HeldAfter does.1 after ∙ shows.held ∙ ap (λ blobs. blobs ++ does.0 ∷ []) held) does.3
    user-done bench (Encrypt blob app_id nonce key) change answer stands does long after =
        let shows = stands.1 in
        clean-rests bench (subst HeldAfter (does.0 ∙ ap Sealed (sealed-under (entry_of book.bench.store.entries blob)
        shows.under.entry nonce key shows.under.live)) after ∙ shows.held ∙ held)
        (ap sensed does.1)
    user-done bench (Decrypt blob app_id text) change answer stands does long after =
        clean-rests bench (subst HeldAfter does.0 after ∙ stands.held ∙ held) (ap sensed does.1)
    user-done bench Entries change answer stands does long after = absurd stands
    user-done bench (Add user class key) change answer stands does long after =
        clean-rests bench (subst HeldAfter does.0 after ∙ stands.held ∙ held) (ap sensed does.1)
    user-done bench (Remove user class) change answer stands does long after =
        clean-rests bench (subst HeldAfter does.0 after ∙ stands.held ∙ held) (ap sensed does.1)
    user-done bench (Delete item tells) change answer stands does long after =
        clean-deleted book whole actor it then runs bench item
        (due-listed book.bench.list whole.numbered it.owed item stands.is_due).listed
        (subst HeldAfter does.0 after ∙ stands.held ∙ held) (ap sensed does.1)

  -- a recovery's, which holds nothing
  recovery-done : (recovery : Recovery) → held_of it ≡ [] → held_of then ≡ held_of it → book.tracker.phase ≡ Down
      → (bench : Seen) (call : Call) (answer : Answer) → RecoveryCalls (ground_of book) recovery call
      → Does book.bench bench call answer → Clean bench
  recovery-done recovery none same down bench (Op user op names) answer calls does =
      clean-operated book whole actor it then runs bench user op [] (dropped book.bench.places user op)
      (subst (Renames book.bench.disk user op []) (sym calls.lists)
      (renames-gained (sealed (vault_of (tried_in book) book.seed book.bench.store))
      (timeline book.bench.disk (machine_of book)) user whole.worlds op [] [] calls.gained
      (keeps-all book whole user op calls.keeps)))
      (subst Differ (sym calls.lists) tt)
      (lets-none (held_of it) (held_of then) same) (ap sensed does.1)
  recovery-done recovery none same down bench Sync answer calls does =
      clean-synced book whole actor it then runs bench same (ap sensed does.1)
  recovery-done recovery none same down bench ListCall answer calls does =
      clean-rests bench same (ap sensed does.2)
  recovery-done recovery none same down bench (Read place) answer calls does =
      clean-rests bench same (ap sensed does.3)
  recovery-done recovery none same down bench (Generate tag app_id) answer calls does = absurd calls
  recovery-done recovery none same down bench (Encrypt blob app_id nonce key) answer calls does = absurd calls
  recovery-done recovery none same down bench (Decrypt blob app_id text) answer calls does = absurd calls
  recovery-done recovery none same down bench (Add user class key) answer calls does = absurd calls
  recovery-done recovery none same down bench (Remove user class) answer calls does = absurd calls
  recovery-done recovery none same down bench (Delete item tells) answer calls does = absurd calls
  recovery-done recovery none same down bench Entries answer calls does =
      subst (CleanSensed book whole actor it then runs) (sym (ap sensed does.1.2))
      (clean-held (record (custody_of book) { list = listed book.bench.list does.1.0 })
      (all_held (map.insert book.docket.running actor then))
      (clean-found book whole does.1.0 down calls.settled calls.unlisted does.1.1)
      (same-insert book.docket.running actor it then runs same))

module _ (book : Plain) (actor : Actor) (it : Running) (making : Making) (bench : Seen) (whole : Whole book)
    (plans : Plans book actor it making.task (CallNext making.call making.change)) where
  abbrev it_then : Running
  it_then = record { number = it.number; task = making.then; owed = making.owed }

  abbrev CleanThen : Type 0
  CleanThen = CleanAt book whole actor it it_then plans.runs bench

  abbrev next : Next
  next = CallNext making.call making.change

  heard : (answer : Answer) → Does book.bench bench making.call answer → AnswersWhole (Ok (Heard answer))
      → making.then ≡ task_heard making.call answer making.task → CleanThen
  heard answer does long =
      by making.task (stands-now book actor it making.task next plans) (held-now book actor it making.task next plans)
      plans.shows
    where
      by : (task : Task) → TaskStands (ground_of book) task plans.on.began → held_in task ≡ held_in it.task
          → TaskShows (ground_of book) plans.on.began (due_to book it) task next
          → making.then ≡ task_heard making.call answer task → CleanThen
      by (Using task) stands held shows is =
          user-done book whole actor it it_then plans.runs task plans.on.began held
          (known-up book whole actor it plans.runs (user_of task) (sym plans.on.own ∙ stands.of_user)) bench
          making.call making.change answer shows.stands does long (ap held_in is)
      by (Recovers recovery) stands held shows is =
          recovery-done book whole actor it it_then plans.runs recovery (sym held) (ap held_in is ∙ held)
          (sym whole.agrees.phase ∙ stands.1.0) bench making.call answer shows.1 does
      by (Refusal reply) stands held shows is = cc
      by (Fault device held) stands same shows is = cc

  made-clean : (made : Made) → IsMade book.bench bench making.call (Ok made)
      → TaskAfter making.call made making.task making.then → AnswersWhole (Ok made) → CleanThen
  made-clean (Heard answer) done after long = heard answer done long after
  made-clean (Failed device) failed after long =
      clean-failed book whole actor it it_then plans.runs bench making.call
      (holds-still (is_untold making.call) refl after ∙ held-now book actor it making.task next plans)
      (λ user op names is. task-brings (ground_of book) plans.on.began (due_to book it) making.change making.task user
      op names
      (subst (λ call. TaskShows (ground_of book) plans.on.began (due_to book it) making.task
      (CallNext call making.change)) is plans.shows))
      failed.1
    where
      holds-still : (untold : Bool) → is_untold making.call ≡ untold
          → TaskFailed untold making.call device making.task making.then → held_in making.then ≡ held_in making.task
      holds-still true is goes = ap held_in goes
          ∙ untold-holds (ground_of book) plans.on.began (due_to book it) making.change making.call making.task is
          plans.shows
      holds-still false is tells = ap held_in tells.is ∙ tells.all

  -- each call keeps the blobs in order
  pub clean-called : (made : Made) (marks : Users) → IsMade book.bench bench making.call (Ok made)
      → TaskAfter making.call made making.task making.then → AnswersWhole (Ok made)
      → IsClean (custody_of (after_call book actor it.number making made marks bench))
  clean-called made marks is after long =
      clean-ready _ _ (made-clean made is after long)
      (λ up. sym (ap is_up (noted-stays (was_done made) making.call (is_some making.change) book.tracker).phase) ∙ up)
