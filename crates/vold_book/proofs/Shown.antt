-- What the plan of each kind of task says of its turns: only a fault tells of a failure, fewer turns are left, and no
-- more directories, entries and listed blobs come than were said to.
use Rattle.std.proofs.Common.{◌≡◌, ◌+◌, ◌<◌, ◌≤◌, ℕ, Bool, true, false, cond, List, [], ◌∷◌, ◌++◌, length}
use Rattle.std.proofs.Common.{length-append}
use Rattle.std.proofs.Common.{refl, sym, ap, ◌∙◌, subst, arith}
use Rattle.std.specs.Prelude.{◌↔◌, option_to_list, Option, Some, None, is_some, Ok}
use Rattle.std.specs.FinMap as map
use Rattle.tree_model.specs.declared.blobs.Blob.{Blob}
use Rattle.tree_model.specs.declared.places.Place.{Place}
use Rattle.tree_model.specs.declared.sites.LocalOp.{LocalOp}
use Rattle.tree_model.specs.declared.sites.LocalOp.TheVariants.{MakeDir, Write, RenameFile}
use Rattle.tree_model.specs.declared.sites.LocalOp.TheVariants.{RenameDir, RemoveFile, RemoveDir}
use Rattle.tree_model.specs.Order.{place_total}
use Rattle.tree_model.specs.Sites.{place_of}
use Rattle.tree_model.specs.Tree.{if_there}
use Rattle.seal_model.specs.Sealed.{sealed_text}
use Rattle.journal_model.specs.declared.commands.Actor.{Actor}
use Rattle.journal_model.specs.declared.commands.Reply.{Reply}
use Rattle.journal_model.specs.declared.entries.Device.{Device}
use Rattle.journal_model.specs.declared.entries.Device.TheVariants.{Tree as TreeDevice, Store as StoreDevice}
use Rattle.journal_model.specs.declared.entries.Device.TheVariants.{Ring as RingDevice}
use Rattle.journal_model.specs.Machine.{Running as Began, kind_of_reply, Outcome}
use Rattle.journal_model.specs.Machine.{Refusal as RefusalKind, Fault as FaultKind}
use Rattle.keystore_model.proofs.Stores.{not-given}
use Rattle.tree_model.specs.Disk.{view}
use Rattle.user_world.specs.declared.changes.LocalChange.{LocalChange}
use Rattle.user_world.specs.OwnWorlds.{own_view, own_record}
use Rattle.user_world.specs.Turns.{adds_local, takes_local}
use Rattle.step_core.specs.declared.jobs.Job.{Job}
use Rattle.step_core.specs.Table.{NamedPlaces}
use Rattle.task_turns.specs.declared.calls.Answer.{Answer}
use Rattle.task_turns.specs.declared.calls.Answer.TheVariants.{Blob as IsBlob, Sealed, Done}
use Rattle.task_turns.specs.declared.calls.Call.{Call}
use Rattle.task_turns.specs.declared.calls.Call.TheVariants.{Op as OpCall, Sync, List as ListCall, Read, Delete}
use Rattle.task_turns.specs.declared.calls.Call.TheVariants.{Generate, Encrypt, Decrypt, Entries, Add, Remove}
use Rattle.task_turns.specs.declared.next.Next.TheVariants.{Call as CallNext, Reply as ReplyNext}
use Rattle.key_directory.specs.Vaults.{sealed}
use Rattle.task_turns.specs.Turns.{seen_of, Scene, Cost, cost_of, no_cost, CallStands, drops_most}
use Rattle.bench.specs.declared.made.Made.{Made}
use Rattle.bench.specs.declared.made.Made.TheVariants.{Heard, Failed}
use Rattle.bench.specs.Bench.{Plain as Seen, Does, IsMade, device_of, was_done, places_after, dropped}
use Rattle.user_tasks.specs.declared.tasks.UserTask.{UserTask}
use Rattle.user_tasks.specs.Tasks.{tasks, user_of, rest_of}
use Rattle.vold_book.specs.declared.recovery.Recovery.{Recovery}
use Rattle.vold_book.specs.declared.recovery.Recovery.TheVariants.{Listing, Sweeping, Reading, Settled, Listed}
use Rattle.vold_book.specs.declared.tasks.Held.{Held}
use Rattle.vold_book.specs.declared.tasks.Running.{Running}
use Rattle.vold_book.specs.declared.tasks.Task.{Task}
use Rattle.vold_book.specs.declared.tasks.Task.TheVariants.{User as Using, Recovery as Recovers, Refusal, Fault}
use Rattle.vold_book.specs.Recovery.{max_places, recovery_left, recovery_after, with_read}
use Rattle.vold_book.specs.Recovery.{RecoveryCalls}
use Rattle.vold_book.specs.State.{Plain, Ground, ground_of, machine_of, tried_in, vault_of, timeline}
use Rattle.vold_book.specs.Tasks.{TaskStands, TaskShows, TaskAfter, Worked, Plans, lists_with, fault_of}
use Rattle.vold_book.proofs.Worked.{after-jobs, stands-now}
use Rattle.vold_book.specs.Tasks.{scene_of, task_heard, TaskFailed, due_to, is_untold}
use Rattle.vold_book.specs.Turns.{Making, IsFault}
use Rattle.vold_book.proofs.HeardCalls.{found-own}
use Rattle.user_world.proofs.Timelines.{view-shown}
use Rattle.vold_book.specs.Whole.{Whole, turns_of_task, makes_in, draws_in, lists_in, due_in, same_device}
use Rattle.deferred_delete.specs.declared.items.Item.{Item}
use Rattle.bench.specs.Known.{Knows}
use Rattle.journal_model.specs.declared.commands.Actor.TheVariants.{User}
use Rattle.journal_model.specs.Command.{actor_of}
use Rattle.vold_book.proofs.DropsFew.{drops-few}
use Rattle.vold_book.specs.Owed.{drops_of}
use Rattle.vold_book.proofs.UserRuns.{known-up}
use Rattle.user_world.specs.Timelines.{own_of}
use Rattle.vold_book.proofs.StepsMade.{step-fits}

-- a blob that is heard has its 32 bytes
abbrev pub HearsWhole : Made → Type 0
HearsWhole made = (blob : Blob) → made ≡ Heard (IsBlob blob) → length blob ≡ 32

-- what a call cost, but for what it listed
abbrev pub cost_made : Call → Made → Cost
cost_made call (Heard answer) = cost_of None call
cost_made call (Failed device) = no_cost

-- how many blobs it dropped, and found at most
abbrev pub drops_made : NamedPlaces → Call → Made → ℕ
drops_made places call (Heard answer) = length (drops_of places call)
drops_made places call (Failed device) = 0

abbrev pub finds_done : Call → ℕ
finds_done Entries = max_places
finds_done call = 0

abbrev pub finds_made : Call → Made → ℕ
finds_made call (Heard answer) = finds_done call
finds_made call (Failed device) = 0

-- a failure that is due once a call was made
abbrev pub due_made : Device → Made → ℕ
due_made device (Heard answer) = 0
due_made device (Failed failed) = same_device device failed

-- no more is left after a job
pub record WorkFalls (places : NamedPlaces) (task now : Task) : Type 0 where
  pub turns : turns_of_task places now ≤ turns_of_task places task
  pub makes : makes_in now ≤ makes_in task
  pub draws : draws_in now ≤ draws_in task
  pub lists : lists_in now ≤ lists_in task

-- a call leaves fewer turns, each directory that it removed and each delete counting for one, and each blob that it
-- dropped for one that is still to come; and less to come
pub record CallFalls (before after : NamedPlaces) (call : Call) (made : Made) (task then : Task) : Type 0 where
  pub turns : turns_of_task after then + (cost_made call made).makes + drops_made before call made
      < turns_of_task before task + (cost_made call made).takes + (cost_of None call).deletes
  pub makes : makes_in then + (cost_made call made).makes ≤ makes_in task
  pub draws : draws_in then + (cost_made call made).draws ≤ draws_in task
  pub lists : lists_in then + drops_made before call made + finds_made call made ≤ lists_in task

work-none : (places : NamedPlaces) (task : Task) → WorkFalls places task task
work-none places task = record { turns = omega arith; makes = omega arith; draws = omega arith; lists = omega arith }

pub work-falls : (ground : Ground) (began : Began) (due : Option Item) (places : NamedPlaces) (task now : Task)
    (jobs : List Job) → Worked ground began due task now jobs → WorkFalls places task now
work-falls ground began due places task now jobs = after-jobs ground began due (WorkFalls places) (work-none places)
    (λ task job now shows later. record {
      turns = omega (arith, shows.leads.falls, later.turns);
      makes = omega (arith, shows.leads.makes, later.makes);
      draws = omega (arith, shows.leads.draws, later.draws);
      lists = omega (arith, shows.leads.falls, later.lists);
    }) jobs task now

-- what is left of a user's task after a call that was done, which dropped so many blobs
record UserFalls (task then : UserTask) (cost : Cost) (drops : ℕ) : Type 0 where
  turns : (rest_of then).left + cost.makes + drops < (rest_of task).left + cost.takes + cost.deletes
  makes : (rest_of then).makes + cost.makes ≤ (rest_of task).makes
  draws : (rest_of then).draws + cost.draws ≤ (rest_of task).draws

module _ (book : Plain) (book_whole : Whole book) (after : Seen) (task : UserTask) (began : Began)
    (due : Option Item) (change : Option LocalChange) (answer : Answer) where
  abbrev scene : Scene
  scene = scene_of (user_of task) (ground_of book) began due

  abbrev FallsBy : Call → Type 0
  FallsBy call = UserFalls task (tasks.after task answer) (cost_of None call)
      (length (drops_of book.bench.places call))

  user-falls : Knows book.bench.places (view book.bench.disk) → HearsWhole (Heard answer) → (call : Call)
      → CallStands (seen_of tasks task) scene call change → Does book.bench after call answer → FallsBy call
  user-falls known whole (OpCall owner op names) stands does =
      let fits = step-fits (sealed (vault_of (tried_in book) book.seed book.bench.store)) (user_of task)
      (timeline book.bench.disk (machine_of book)) change book_whole.worlds op stands.step in
      let few = subst (λ u. length (dropped book.bench.places u op)
      ≤ drops_most op (own_record (own_of (user_of task) (timeline book.bench.disk (machine_of book)))))
      (sym stands.mine) (drops-few book book_whole known (user_of task) op fits) in
      let falls = stands.leads.falls in
      subst (λ a. UserFalls task (tasks.after task a) (cost_of None (OpCall owner op names))
      (length (dropped book.bench.places owner op))) (sym does.0) (record {
        turns = omega (arith, falls, few);
        makes = stands.leads.makes;
        draws = stands.leads.draws;
      })
  user-falls known whole Sync stands does =
      subst (λ a. UserFalls task (tasks.after task a) no_cost 0) (sym does.0) (record {
        turns = (let falls = stands.leads.falls in omega (arith, falls));
        makes = stands.leads.makes;
        draws = stands.leads.draws;
      })
  user-falls known whole ListCall stands does = absurd stands
  user-falls known whole (Read place) stands does =
      let shows = stands.each does.0 (found-own (own_view scene.share.own) (view book.bench.disk) (user_of task) place
      (view-shown (user_of task) _ _ book_whole.worlds.shows) stands.mine ∙ does.1) in
      subst (λ a. UserFalls task (tasks.after task a) no_cost 0) (sym does.2) (record {
        turns = (let falls = shows.leads.falls in omega (arith, falls));
        makes = shows.leads.makes;
        draws = shows.leads.draws;
      })
  user-falls known whole (Generate tag app_id) stands does =
      let none = not-given book.bench.store does.0 book_whole.store does.2.fresh in
      let shows = stands.each does.0 does.2.key (whole does.0 (ap Heard does.1)) none in
      subst (λ a. UserFalls task (tasks.after task a) (cost_of None (Generate tag app_id)) 0) (sym does.1) (record {
        turns = (let falls = shows.leads.falls in omega (arith, falls));
        makes = shows.leads.makes;
        draws = shows.leads.draws;
      })
  user-falls known whole (Encrypt blob app_id nonce key) stands does =
      let under = stands.1.under in
      let heard : answer ≡ Sealed (sealed_text under.entry.key nonce key) = does.0
      ∙ ap (λ entry. Sealed (if_there entry [] (λ e. sealed_text e.key nonce key))) under.live in
      subst (λ a. UserFalls task (tasks.after task a) no_cost 0) (sym heard) (record {
        turns = (let falls = stands.1.leads.falls in omega (arith, falls));
        makes = stands.1.leads.makes;
        draws = stands.1.leads.draws;
      })
  user-falls known whole (Decrypt blob app_id text) stands does =
      subst (λ a. UserFalls task (tasks.after task a) no_cost 0) (sym does.0) (record {
        turns = (let falls = stands.leads.falls in omega (arith, falls));
        makes = stands.leads.makes;
        draws = stands.leads.draws;
      })
  user-falls known whole (Add owner class key) stands does =
      subst (λ a. UserFalls task (tasks.after task a) no_cost 0) (sym does.0) (record {
        turns = (let falls = stands.leads.falls in omega (arith, falls));
        makes = stands.leads.makes;
        draws = stands.leads.draws;
      })
  user-falls known whole (Remove owner class) stands does =
      subst (λ a. UserFalls task (tasks.after task a) no_cost 0) (sym does.0) (record {
        turns = (let falls = stands.leads.falls in omega (arith, falls));
        makes = stands.leads.makes;
        draws = stands.leads.draws;
      })
  user-falls known whole (Delete item tells) stands does =
      subst (λ a. UserFalls task (tasks.after task a) (cost_of None (Delete item tells)) 0) (sym does.0) (record {
        turns = (let falls = stands.leads.falls in omega (arith, falls));
        makes = stands.leads.makes;
        draws = stands.leads.draws;
      })
  user-falls known whole Entries stands does = absurd stands

-- an operation of a recovery makes no directory, since it makes nothing that its turns don't count
makes-none : (places : NamedPlaces) (recovery : Recovery) (owner : ℕ) (op : LocalOp) (names : Option Blob)
    → recovery_left (places_after places owner op names) recovery + adds_local op
    < recovery_left places recovery + takes_local op
    → adds_local op ≡ 0
makes-none places recovery owner (Write site file bytes) names falls = refl
makes-none places recovery owner (RenameFile site from to) names falls = refl
makes-none places recovery owner (RenameDir from to) names falls = refl
makes-none places recovery owner (RemoveFile site file) names falls = refl
makes-none places recovery owner (RemoveDir site) names falls = refl
makes-none places recovery owner (MakeDir site) names falls = absurd (by recovery falls)
  where
    place : Place
    place = place_of owner site

    more : map.len places ≤ map.len (map.insert places place None)
    more =
        subst (λ n. map.len places ≤ n) (sym (map.len-insert place_total places place None))
        (either (is_some (map.get places place)))
      where
        either : (there : Bool) → map.len places ≤ cond there (map.len places) (map.len places + 1)
        either true = omega arith
        either false = omega arith

    by : (r : Recovery) → recovery_left (places_after places owner (MakeDir site) names) r + 1
        < recovery_left places r + 0 → ⊥
    by Listing falls = omega (arith, falls)
    by Sweeping falls = omega (arith, falls)
    by (Reading count) falls = omega (arith, falls, more)
    by Settled falls = omega (arith, falls)
    by Listed falls = omega (arith, falls)

-- what a recovery may list while it has a call to make, and once a call was done
lists-before : (places : NamedPlaces) (recovery : Recovery) → 1 < recovery_left places recovery
    → lists_in (Recovers recovery) ≡ max_places
lists-before places Listing lasts = refl
lists-before places Sweeping lasts = refl
lists-before places (Reading count) lasts = refl
lists-before places Settled lasts = refl
lists-before places Listed lasts = absurd (omega (arith, lasts))

lists-few : (recovery : Recovery) → lists_in (Recovers recovery) ≤ max_places
lists-few Listing = omega arith
lists-few Sweeping = omega arith
lists-few (Reading count) = omega arith
lists-few Settled = omega arith
lists-few Listed = omega arith

module _ (before after : NamedPlaces) (recovery : Recovery) (answer : Answer)
    (lasts : 1 < recovery_left before recovery) where
  -- a call that was done on these places, costs no entry and makes no directory
  comes-falls : (call : Call) (places : NamedPlaces) → after ≡ places
      → recovery_left places (recovery_after call recovery) + (cost_of None call).makes
      < recovery_left before recovery + (cost_of None call).takes
      → (cost_of None call).makes ≡ 0 → (cost_of None call).draws ≡ 0 → length (drops_of before call) ≡ 0
      → lists_in (Recovers (recovery_after call recovery)) + finds_done call ≤ max_places
      → CallFalls before after call (Heard answer) (Recovers recovery) (Recovers (recovery_after call recovery))
  comes-falls call places is falls makes draws none lists =
      let fewer = subst (λ ps. recovery_left ps (recovery_after call recovery) + (cost_of None call).makes
      < recovery_left before recovery + (cost_of None call).takes) (sym is) falls in record {
        turns = omega (arith, fewer, none);
        makes = omega (arith, makes);
        draws = omega (arith, draws);
        lists = let most = lists-before before recovery lasts in omega (arith, lists, most, none);
      }

module _ (book : Plain) (after : Seen) (recovery : Recovery) (answer : Answer)
    (lasts : 1 < recovery_left book.bench.places recovery) where
  recovery-falls : (call : Call) → RecoveryCalls (ground_of book) recovery call → Does book.bench after call answer
      → CallFalls book.bench.places after.places call (Heard answer) (Recovers recovery)
      (Recovers (recovery_after call recovery))
  recovery-falls (OpCall owner op names) shows does =
      comes-falls book.bench.places after.places recovery answer lasts (OpCall owner op names)
      (places_after book.bench.places owner op names) (ap (λ b. b.places) does.1) shows.comes.falls
      (makes-none book.bench.places recovery owner op names shows.comes.falls) refl (ap length shows.lists)
      (let few = lists-few recovery in omega (arith, few))
  recovery-falls Sync shows does =
      comes-falls book.bench.places after.places recovery answer lasts Sync book.bench.places
      (ap (λ b. b.places) does.1) shows.falls refl refl refl (omega arith)
  recovery-falls ListCall shows does =
      comes-falls book.bench.places after.places recovery answer lasts ListCall after.places refl
      (shows after.places does.1).falls refl refl refl (omega arith)
  recovery-falls (Read place) shows does =
      comes-falls book.bench.places after.places recovery answer lasts (Read place)
      (with_read (ground_of book) place).places (ap (λ b. b.places) does.3) shows.1.falls refl refl refl
      (let few = lists-few (recovery_after (Read place) recovery) in omega (arith, few))
  recovery-falls (Generate tag app_id) shows does = absurd shows
  recovery-falls (Encrypt blob app_id nonce key) shows does = absurd shows
  recovery-falls (Decrypt blob app_id text) shows does = absurd shows
  recovery-falls (Add user class key) shows does = absurd shows
  recovery-falls (Remove user class) shows does = absurd shows
  recovery-falls (Delete item tells) shows does = absurd shows
  recovery-falls Entries shows does =
      comes-falls book.bench.places after.places recovery answer lasts Entries book.bench.places
      (ap (λ b. b.places) does.1.2) (shows.comes does.1.0 does.1.1).falls refl refl refl (omega arith)

-- a call that failed leaves one turn, in which this is told
failed-falls : (before after : NamedPlaces) (call : Call) (device : Device) (held : Held) (task : Task)
    → 1 < turns_of_task before task + (cost_of None call).deletes → 2 ≤ lists_in task
    → CallFalls before after call (Failed device) task (Fault device held)
failed-falls before after call device held task lasts lists = record {
  turns = omega (arith, lasts);
  makes = omega arith;
  draws = omega arith;
  lists = omega (arith, lists);
}

-- an operation that takes a directory deletes no entry
takes-one : (call : Call) → (cost_of None call).takes + (cost_of None call).deletes ≤ 1
takes-one (OpCall user op names) = by op
  where
    by : (op : LocalOp) → takes_local op + 0 ≤ 1
    by (MakeDir site) = omega arith
    by (Write site file bytes) = omega arith
    by (RenameFile site from to) = omega arith
    by (RenameDir from to) = omega arith
    by (RemoveFile site file) = omega arith
    by (RemoveDir site) = omega arith
takes-one Sync = omega arith
takes-one ListCall = omega arith
takes-one (Read place) = omega arith
takes-one (Generate tag app_id) = omega arith
takes-one (Encrypt blob app_id nonce key) = omega arith
takes-one (Decrypt blob app_id text) = omega arith
takes-one Entries = omega arith
takes-one (Delete item tells) = omega arith
takes-one (Add user class key) = omega arith
takes-one (Remove user class) = omega arith

module _ (book : Plain) (began : Began) (due : Option Item) (call : Call) (change : Option LocalChange) where
  -- a task that makes a call has a turn more, and may list what it holds
  pub call-lasts : (task : Task) → TaskShows (ground_of book) began due task (CallNext call change)
      → (1 < turns_of_task book.bench.places task + (cost_of None call).deletes) × (2 ≤ lists_in task)
  call-lasts (Using task) shows = (shows.lasts, omega arith)
  call-lasts (Recovers recovery) shows =
      let lasts = shows.2 in
      let most = lists-before book.bench.places recovery shows.2 in (omega (arith, lasts), omega (arith, most))
  call-lasts (Refusal reply) shows = cc
  call-lasts (Fault device held) shows = cc

  module _ (after : Seen) (book_whole : Whole book)
      (known : (task : UserTask) → actor_of began.command ≡ User (user_of task)
      → Knows book.bench.places (view book.bench.disk)) where
    heard-falls : (answer : Answer) (task then : Task) → HearsWhole (Heard answer)
        → TaskStands (ground_of book) task began
        → TaskShows (ground_of book) began due task (CallNext call change) → Does book.bench after call answer
        → then ≡ task_heard call answer task
        → CallFalls book.bench.places after.places call (Heard answer) task then
    heard-falls answer (Using task) then whole stands shows does is =
        let falls = user-falls book book_whole after task began due change answer (known task stands.of_user) whole
        call
        shows.stands does in
        let turns = falls.turns in
        let one = takes-one call in
        let none = finds-none (scene_of (user_of task) (ground_of book) began due) task call shows.stands in
        subst (CallFalls book.bench.places after.places call (Heard answer) (Using task)) (sym is) (record {
          turns = turns;
          makes = falls.makes;
          draws = falls.draws;
          lists = omega (arith, none, turns, one);
        })
      where
        finds-none : (scene : Scene) (task : UserTask) (c : Call) → CallStands (seen_of tasks task) scene c change
            → finds_done c ≡ 0
        finds-none scene task Entries stands = absurd stands
        finds-none scene task c stands = refl
    heard-falls answer (Recovers recovery) then whole stands shows does is =
        subst (CallFalls book.bench.places after.places call (Heard answer) (Recovers recovery)) (sym is)
        (recovery-falls book after recovery answer shows.2 call shows.1 does)
    heard-falls answer (Refusal reply) then whole stands shows does is = cc
    heard-falls answer (Fault device held) then whole stands shows does is = cc

    -- of a delete that failed a task that isn't told of it goes on
    untold-falls : (device : Device) (task then : Task) (untold : Bool) → is_untold call ≡ untold
        → TaskShows (ground_of book) began due task (CallNext call change)
        → TaskFailed untold call device task then
        → CallFalls book.bench.places after.places call (Failed device) task then
    untold-falls device task then false untold shows is =
        let lasts = call-lasts task shows in
        subst (CallFalls book.bench.places after.places call (Failed device) task) (sym is.is)
        (failed-falls book.bench.places after.places call device is.blobs task lasts.0 lasts.1)
    untold-falls device task then true untold shows is =
        subst (CallFalls book.bench.places after.places call (Failed device) task) (sym is) (by call task untold shows)
      where
        by : (c : Call) (task : Task) → is_untold c ≡ true
            → TaskShows (ground_of book) began due task (CallNext c change)
            → CallFalls book.bench.places after.places c (Failed device) task (task_heard c Done task)
        by (Delete item false) (Using task) untold shows =
            let leads = shows.stands.goes_on refl in
            let falls = leads.falls in
            let makes = leads.makes in
            let draws = leads.draws in record {
              turns = omega (arith, falls);
              makes = omega (arith, makes);
              draws = omega (arith, draws);
              lists = omega (arith, falls);
            }
        by (Delete item false) (Recovers recovery) untold shows = absurd shows.1
        by c (Refusal reply) untold shows = cc
        by c (Fault device held) untold shows = cc
        by c task untold shows = cc

    -- fewer turns are left after a call, and less is to come
    pub task-falls : (made : Made) (task then : Task) → HearsWhole made → TaskStands (ground_of book) task began
        → TaskShows (ground_of book) began due task (CallNext call change) → IsMade book.bench after call (Ok made)
        → TaskAfter call made task then → CallFalls book.bench.places after.places call made task then
    task-falls (Heard answer) task then whole stands shows is_made is =
        heard-falls answer task then whole stands shows is_made is
    task-falls (Failed device) task then whole stands shows is_made is =
        untold-falls device task then (is_untold call) refl shows is

  -- that a device failed is due at most where it failed
  pub due-after : (made : Made) (task then : Task) (device : Device)
      → TaskShows (ground_of book) began due task (CallNext call change) → TaskAfter call made task then
      → due_in device then ≤ due_made device made
  due-after (Heard answer) (Using task) then device shows is = let e = ap (due_in device) is in omega (arith, e)
  due-after (Heard answer) (Recovers recovery) then device shows is =
      let e = ap (due_in device) is in omega (arith, e)
  due-after (Heard answer) (Refusal reply) then device shows is = cc
  due-after (Heard answer) (Fault failed held) then device shows is = cc
  due-after (Failed failed) task then device shows is = by (is_untold call) refl task shows is
    where
      by : (untold : Bool) → is_untold call ≡ untold → (task : Task)
          → TaskShows (ground_of book) began due task (CallNext call change) → TaskFailed untold call failed task then
          → due_in device then ≤ same_device device failed
      by false untold task shows is = let e = ap (due_in device) is.is in omega (arith, e)
      by true untold (Using task) shows is = let e = ap (due_in device) is in omega (arith, e)
      by true untold (Recovers recovery) shows is = let e = ap (due_in device) is in omega (arith, e)
      by true untold (Refusal reply) shows is = cc
      by true untold (Fault other held) shows is = cc

-- a call that the actor's command planned
module _ (book : Plain) (actor : Actor) (it : Running) (making : Making)
    (plans : Plans book actor it making.task (CallNext making.call making.change)) where
  abbrev planned_began : Began
  planned_began = plans.on.began

  module _ (made : Made) (then : TaskAfter making.call made making.task making.then) where
    -- that its device failed is due at most where it failed
    pub call-due : (device : Device) → due_in device making.then ≤ due_made device made
    call-due device = due-after book planned_began (due_to book it) making.call making.change made making.task
        making.then device plans.shows then

    module _ (after : Seen) (is_made : IsMade book.bench after making.call (Ok made)) where
      pub call-falls : Whole book → HearsWhole made
          → CallFalls book.bench.places after.places making.call made it.task making.then
      call-falls book_whole whole =
          let work = work-falls (ground_of book) planned_began (due_to book it) book.bench.places it.task making.task
          plans.jobs plans.worked in
          let call = task-falls book planned_began (due_to book it) making.call making.change after book_whole
          (λ task of_user. known-up book book_whole actor it plans.runs (user_of task) (sym plans.on.own ∙ of_user))
          made
          making.task making.then whole
          (stands-now book actor it making.task (CallNext making.call making.change) plans) plans.shows is_made then in
          let work_turns = work.turns in
          let work_makes = work.makes in
          let work_draws = work.draws in
          let work_lists = work.lists in
          let turns = call.turns in
          let makes = call.makes in
          let draws = call.draws in
          let lists = call.lists in record {
            turns = omega (arith, work_turns, turns);
            makes = omega (arith, work_makes, makes);
            draws = omega (arith, work_draws, draws);
            lists = omega (arith, work_lists, lists);
          }

  -- its failure is told where it is one that is told
  pub call-told : (made : Made) → TaskAfter making.call made making.task making.then → (after : Seen)
      → IsMade book.bench after making.call (Ok made)
      → ((was_done made ≡ false) × (is_untold making.call ≡ false)) ↔ IsFault (device_of making.call) making.then
  call-told (Heard answer) then after is_made = (
    λ both. absurd (apart both.0),
    λ fault. absurd (by making.task plans.shows then fault.is),
  )
    where
      apart : true ≡ false → ⊥
      apart e = cc

      by : (task : Task)
          → TaskShows (ground_of book) planned_began (due_to book it) task (CallNext making.call making.change)
          → making.then ≡ task_heard making.call answer task
          → {held : Held} → making.then ≡ Fault (device_of making.call) held → ⊥
      by (Using task) shows is {held} e = cc
      by (Recovers recovery) shows is {held} e = cc
      by (Refusal reply) shows is {held} e = cc
      by (Fault device blobs) shows is {held} e = cc
  call-told (Failed device) then after is_made = by (is_untold making.call) then
    where
      heard : (task : Task)
          → TaskShows (ground_of book) planned_began (due_to book it) task (CallNext making.call making.change)
          → making.then ≡ task_heard making.call Done task
          → {held : Held} → making.then ≡ Fault (device_of making.call) held → ⊥
      heard (Using task) shows is {held} e = cc
      heard (Recovers recovery) shows is {held} e = cc
      heard (Refusal reply) shows is {held} e = cc
      heard (Fault failed blobs) shows is {held} e = cc

      by : (untold : Bool) → TaskFailed untold making.call device making.task making.then
          → ((false ≡ false) × (untold ≡ false)) ↔ IsFault (device_of making.call) making.then
      by false tells = (
        λ both. record { held = tells.blobs; is = tells.is ∙ ap (λ d. Fault d tells.blobs) is_made.0 },
        λ fault. (refl, refl),
      )
      by true goes = (λ both. absurd (apart both.1), λ fault. absurd (heard making.task plans.shows goes fault.is))
        where
          apart : true ≡ false → ⊥
          apart e = cc

-- that a device failed is told only where it was due
fault-device : (device failed : Device) → fault_of failed ≡ fault_of device → failed ≡ device
fault-device TreeDevice TreeDevice same = refl
fault-device TreeDevice StoreDevice same = cc
fault-device TreeDevice RingDevice same = cc
fault-device StoreDevice TreeDevice same = cc
fault-device StoreDevice StoreDevice same = refl
fault-device StoreDevice RingDevice same = cc
fault-device RingDevice TreeDevice same = cc
fault-device RingDevice StoreDevice same = cc
fault-device RingDevice RingDevice same = refl

fault-kind : (device : Device) → kind_of_reply (fault_of device) ≡ FaultKind
fault-kind TreeDevice = refl
fault-kind StoreDevice = refl
fault-kind RingDevice = refl

pub next_reply : (reply other : Reply) → ReplyNext reply ≡ ReplyNext other → reply ≡ other
next_reply reply other same = cc

module _ (ground : Ground) (began : Began) (due : Option Item) (reply : Reply) (device : Device) where
  task-told : (task : Task) → TaskStands ground task began → TaskShows ground began due task (ReplyNext reply)
      → reply ≡ fault_of device → IsFault device task
  task-told (Using task) stands shows is =
      absurd (outcome_fault (sym shows.outcome ∙ ap kind_of_reply is ∙ fault-kind device))
    where
      outcome_fault : Outcome ≡ FaultKind → ⊥
      outcome_fault e = cc
  task-told (Recovers recovery) stands shows is =
      absurd (outcome_fault (ap kind_of_reply (sym shows.ended ∙ is) ∙ fault-kind device))
    where
      outcome_fault : Outcome ≡ FaultKind → ⊥
      outcome_fault e = cc
  task-told (Refusal refusal) stands shows is =
      absurd (refusal_fault (sym stands.1 ∙ ap kind_of_reply (sym (next_reply reply refusal shows) ∙ is)
      ∙ fault-kind device))
    where
      refusal_fault : RefusalKind ≡ FaultKind → ⊥
      refusal_fault e = cc
  task-told (Fault failed held) stands shows is = record {
    held = held;
    is = ap (λ d. Fault d held)
        (fault-device device failed (sym (next_reply reply (fault_of failed) shows) ∙ is));
  }

  -- after a job it is a user's task still
  still-user : (task now : Task) (jobs : List Job) → Worked ground began due task now jobs → (user : UserTask)
      → task ≡ Using user → (then : UserTask) × (now ≡ Using then)
  still-user task now jobs = after-jobs ground began due
      (λ task now. (user : UserTask) → task ≡ Using user → (then : UserTask) × (now ≡ Using then))
      (λ task user is. (user, is)) (λ task job now shows later user is. later _ refl) jobs task now

  work-told : (task now : Task) (jobs : List Job) → Worked ground began due task now jobs
      → TaskStands ground task began → TaskShows ground began due now (ReplyNext reply)
      → reply ≡ fault_of device → IsFault device task
  work-told task now [] worked stands shows is =
      task-told task stands (subst (λ t. TaskShows ground began due t (ReplyNext reply)) worked shows) is
  work-told (Using task) now (job ∷ jobs) worked stands shows is =
      let then = still-user (Using task) now (job ∷ jobs) worked task refl in
      let told = subst (λ t. TaskShows ground began due t (ReplyNext reply)) then.1 shows in
      absurd (outcome_fault (sym told.outcome ∙ ap kind_of_reply is ∙ fault-kind device))
    where
      outcome_fault : Outcome ≡ FaultKind → ⊥
      outcome_fault e = cc
  work-told (Recovers recovery) now (job ∷ jobs) worked stands shows is = absurd worked
  work-told (Refusal refusal) now (job ∷ jobs) worked stands shows is = absurd worked
  work-told (Fault failed held) now (job ∷ jobs) worked stands shows is = absurd worked

task-lasts : (ground : Ground) (began : Began) (due : Option Item) (reply : Reply) (places : NamedPlaces)
    (task : Task) → TaskShows ground began due task (ReplyNext reply) → 0 < turns_of_task places task
task-lasts ground began due reply places (Using task) shows = shows.lasts
task-lasts ground began due reply places (Recovers recovery) shows = by recovery
  where
    by : (r : Recovery) → 0 < recovery_left places r
    by Listing = omega arith
    by Sweeping = omega arith
    by (Reading count) = omega arith
    by Settled = omega arith
    by Listed = omega arith
task-lasts ground began due reply places (Refusal refusal) shows = omega arith
task-lasts ground began due reply places (Fault device held) shows = omega arith

-- a task lists no more with its reply than was said
pub lists-told : (task : Task) → length (lists_with task) ≤ lists_in task
lists-told (Using task) = omega arith
lists-told (Recovers recovery) = omega arith
lists-told (Refusal reply) = omega arith
lists-told (Fault device held) = both held.first held.second
  where
    one : (held : Option Blob) → length (option_to_list held) ≤ 1
    one None = omega arith
    one (Some blob) = omega arith

    both : (first second : Option Blob) → length (option_to_list first ++ option_to_list second) ≤ 2
    both first second =
        let a = one first in
        let b = one second in
        omega (arith, a, b, length-append (option_to_list first) (option_to_list second))

-- a reply that the actor's command planned
module _ (book : Plain) (actor : Actor) (it : Running) (now : Task) (reply : Reply)
    (plans : Plans book actor it now (ReplyNext reply)) where
  pub reply-told : (device : Device) → reply ≡ fault_of device → IsFault device it.task
  reply-told device is =
      work-told (ground_of book) plans.on.began (due_to book it) reply device it.task now plans.jobs plans.worked
      plans.on.stands plans.shows is

  -- and a task that replies had a turn left
  pub reply-lasts : 0 < turns_of_task book.bench.places it.task
  reply-lasts =
      let work = work-falls (ground_of book) plans.on.began (due_to book it) book.bench.places it.task now plans.jobs
      plans.worked in
      let turns = work.turns in
      let lasts = task-lasts (ground_of book) plans.on.began (due_to book it) reply book.bench.places now
      plans.shows in
      omega (arith, turns, lasts)
