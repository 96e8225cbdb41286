-- A turn that begins a command or gives a reply, and each of a Book's other calls, keeps its blobs in order.
use Rattle.std.proofs.Common.{◌≡◌, ◌≢◌, ℕ, inl, inr, true, false, List, [], length, refl, sym, ap, ◌∙◌, subst}
use Rattle.std.proofs.lemmas.Option.{same_Some}
use Rattle.std.specs.Prelude.{◌+◌, Option, Some, None, Contains, slice_get}
use Rattle.std.specs.FinMap as map
use Rattle.tree_model.specs.declared.blobs.Blob.{Blob}
use Rattle.tree_model.specs.declared.ops.Cut.{Cut}
use Rattle.tree_model.specs.Disk.{stopped}
use Rattle.journal_model.specs.declared.commands.Actor.{Actor}
use Rattle.journal_model.specs.declared.commands.Command.{Command}
use Rattle.journal_model.specs.declared.commands.Reply.{Reply}
use Rattle.journal_model.specs.declared.commands.Reply.TheVariants.{TreeFault, StoreFault, RingFault}
use Rattle.journal_model.specs.declared.entries.Device.TheVariants.{Tree, Store, Ring}
use Rattle.journal_model.specs.declared.phase.Phase.TheVariants.{Down}
use Rattle.journal_model.specs.Command.{actor_of}
use Rattle.journal_model.specs.Machine.{Running as Began, is_up, phase_after, kind_of_reply}
use Rattle.journal_model.specs.Machine.{Outcome, Refusal as RefusalKind, Fault as FaultKind}
use Rattle.journal_model.specs.Refusals.{due}
use Rattle.journal_model.proofs.ByCommand.{phase-stays, user-stays}
use Rattle.keystore_model.specs.Store.{IsLive}
use Rattle.keystore_model.proofs.Elements.{Contains-none}
use Rattle.blob_custody.specs.Custody.{Custody, IsListed, IsClean}
use Rattle.blob_custody.specs.Steps.{made_ready, after_stop as stopped_custody}
use Rattle.blob_custody.proofs.Steps.{clean-reply}
use Rattle.blob_custody.proofs.Recoveries.{clean-readiness, clean-stop}
use Rattle.deferred_delete.specs.declared.items.Item.{Item}
use Rattle.bench.specs.Bench.{Plain as Seen, listed}
use Rattle.step_core.specs.declared.jobs.Job.{Job}
use Rattle.task_turns.specs.declared.next.Next.TheVariants.{Reply as ReplyNext}
use Rattle.user_tasks.specs.Tasks.{rest_of}
use Rattle.vold_book.specs.declared.opened.Opened.{Opened}
use Rattle.vold_book.specs.declared.tasks.Running.{Running}
use Rattle.vold_book.specs.declared.tasks.Task.{Task}
use Rattle.vold_book.specs.declared.tasks.Task.TheVariants.{User as Using, Recovery as Recovers, Refusal, Fault}
use Rattle.vold_book.specs.State.{Plain, Ground, ground_of}
use Rattle.vold_book.specs.Recovery.{RecoveryEnds}
use Rattle.vold_book.specs.Stops.{after_stop, after_restart}
use Rattle.vold_book.specs.Tasks.{held_in, lists_with, TaskStands, TaskShows, Worked, Plans, due_to}
use Rattle.vold_book.specs.Turns.{with_command, new_book, unlisted}
use Rattle.vold_book.specs.Whole.{Whole, held_of, all_held, custody_of}
use Rattle.vold_book.proofs.Plains.{replied_plain}
use Rattle.vold_book.proofs.HeldBlobs.{none-held, else-held, remove-from, lets-all}
use Rattle.vold_book.proofs.HeldBlobs.{clean-held, clean-ready}
use Rattle.vold_book.proofs.Custodies.{relisted, clean-listed, holds-alone}
use Rattle.vold_book.proofs.CleanListing.{down-holds}
use Rattle.vold_book.proofs.Shown.{next_reply}
use Rattle.vold_book.proofs.Worked.{after-jobs, stands-now, held-now}

-- a test has one answer
unlike : false ≡ true → ⊥
unlike e = cc

-- a command that is told its reply lists what it holds
lists-worked : (ground : Ground) (began : Began) (due : Option Item) (task now : Task) (jobs : List Job)
    → Worked ground began due task now jobs → lists_with now ≡ lists_with task
lists-worked ground began due task now jobs =
    after-jobs ground began due (λ task now. lists_with now ≡ lists_with task) (λ task. refl)
    (λ task job now shows later. later) jobs task now

lists-held : (ground : Ground) (began : Began) (due : Option Item) (now : Task) (reply : Reply)
    → TaskShows ground began due now (ReplyNext reply) → held_in now ≡ lists_with now
lists-held ground began due (Using task) reply shows = shows.held
lists-held ground began due (Recovers recovery) reply shows = refl
lists-held ground began due (Refusal refusal) reply shows = refl
lists-held ground began due (Fault device held) reply shows = refl

-- a refusal and a fault tell of no success
refused : RefusalKind ≡ Outcome → ⊥
refused e = cc

failed : FaultKind ≡ Outcome → ⊥
failed e = cc

module _ (book : Plain) (actor : Actor) (it : Running) (now : Task) (command : Command) (reply : Reply)
    (whole : Whole book) (plans : Plans book actor it now (ReplyNext reply)) where
  abbrev began : Began
  began = plans.on.began

  lists-now : lists_with now ≡ lists_with it.task
  lists-now = lists-worked (ground_of book) began (due_to book it) it.task now plans.jobs plans.worked

  -- it holds what it lists
  holds-listed : held_of it ≡ lists_with it.task
  holds-listed = sym (held-now book actor it now (ReplyNext reply) plans)
      ∙ lists-held (ground_of book) began (due_to book it) now reply plans.shows ∙ lists-now

  -- the custody then, where a recovery is due as before
  abbrev let_go : Custody
  let_go = record (custody_of book) {
    list = listed book.bench.list (lists_with it.task);
    held = all_held (map.remove book.docket.running actor);
  }

  clean-let_go : IsClean let_go
  clean-let_go = subst (λ blobs. IsClean (record (custody_of book) {
    list = listed book.bench.list blobs;
    held = all_held (map.remove book.docket.running actor);
  })) holds-listed
      (clean-reply (record (custody_of book) {
        list = record book.bench.list { promised = book.bench.list.promised + length (held_of it) };
      }) (held_of it) (all_held (map.remove book.docket.running actor))
      (clean-listed (custody_of book) book.bench.list.next (book.bench.list.promised + length (held_of it))
      whole.clean)
      (lets-all book.docket.running actor it plans.runs (holds-alone book whole actor it plans.runs))
      plans.on.holds.differ)

  -- a recovery that ends: every blob is placed, and nothing else runs
  recovered : book.tracker.phase ≡ Down → [] ≡ lists_with it.task → RecoveryEnds (ground_of book) reply
      → IsClean (record let_go { ready = true })
  recovered down lists ends =
      clean-held (made_ready let_go) (all_held (map.remove book.docket.running actor))
      (clean-readiness let_go clean-let_go (λ blob live. elim (ends.placed blob live) [
        | inl named ↦ inl named
        | inr waits ↦ inr (subst (λ blobs. IsListed (listed book.bench.list blobs) blob) lists
            (relisted book.bench.list book.bench.list.next (book.bench.list.promised + 0) blob waits))
      ]))
      (λ blob. (
        λ none. absurd (Contains-none blob none),
        λ has. absurd (down-holds book whole down blob
            (else-held book.docket.running actor blob (remove-from book.docket.running actor blob has))),
      ))

  -- the command is the one of its number
  module _ (given : slice_get book.docket.commands it.number ≡ Some command) where
    same-command : began.command ≡ command
    same-command = same_Some began.command command
        (sym (whole.numbers.given it.number began plans.on.at).given ∙ given)

    stays-ready : phase_after book.tracker.phase command reply ≡ book.tracker.phase
        → IsClean (record let_go { ready = is_up (phase_after book.tracker.phase command reply) })
    stays-ready stays = clean-ready let_go _ clean-let_go (λ up. sym (ap is_up stays) ∙ up)

    fails-ready : kind_of_reply reply ≢ Outcome
        → IsClean (record let_go { ready = is_up (phase_after book.tracker.phase command reply) })
    fails-ready fails = stays-ready (phase-stays book.tracker.phase command reply fails)

    -- a reply keeps the blobs in order
    pub clean-replied : IsClean (custody_of (replied_plain book actor it command reply))
    clean-replied = by now (stands-now book actor it now (ReplyNext reply) plans) lists-now plans.shows
      where
        by : (task : Task) → TaskStands (ground_of book) task began → lists_with task ≡ lists_with it.task
            → TaskShows (ground_of book) began (due_to book it) task (ReplyNext reply)
            → IsClean (record let_go { ready = is_up (phase_after book.tracker.phase command reply) })
        by (Using user) stands lists shows = stays-ready (user-stays book.tracker.phase (rest_of user).user command
            reply (sym (ap actor_of same-command) ∙ stands.of_user))
        by (Recovers recovery) stands lists shows =
            clean-ready (record let_go { ready = true }) _
            (recovered (sym whole.agrees.phase ∙ stands.1.0) lists shows) (λ up. refl)
        by (Refusal refusal) stands lists shows = fails-ready (λ success. refused
            (sym stands.1 ∙ ap kind_of_reply (sym (next_reply reply refusal shows)) ∙ success))
        by (Fault Tree held) stands lists shows =
            fails-ready (λ success. failed (ap kind_of_reply (sym (next_reply reply TreeFault shows)) ∙ success))
        by (Fault Store held) stands lists shows =
            fails-ready (λ success. failed (ap kind_of_reply (sym (next_reply reply StoreFault shows)) ∙ success))
        by (Fault Ring held) stands lists shows =
            fails-ready (λ success. failed (ap kind_of_reply (sym (next_reply reply RingFault shows)) ∙ success))

-- a stop, whatever it leaves of the tree
pub clean-stopped : (book : Plain) (bench : Seen) (cut : Cut) (kept : ℕ)
    → bench ≡ record book.bench {
      disk = stopped book.bench.disk cut.keep cut.fills;
      keys = [];
      list = unlisted book.bench.list;
    } → IsClean (custody_of (after_stop book bench cut kept))
clean-stopped book bench cut kept is =
    subst (λ b. IsClean (custody_of (after_stop book b cut kept))) (sym is)
    (clean-held (stopped_custody (custody_of book) (stopped book.bench.disk cut.keep cut.fills).stable None)
    (all_held map.empty) (clean-stop (custody_of book) (stopped book.bench.disk cut.keep cut.fills).stable None)
    (λ blob. (λ none. absurd (Contains-none blob none), λ has. absurd (none-held blob has))))

-- a Book as it is opened, over an empty keystore
pub clean-opened : (bench : Seen) (opened : Opened) (seed : List ℕ) → bench.store.entries ≡ []
    → bench.list.items ≡ [] → IsClean (custody_of (new_book bench opened seed))
clean-opened bench opened seed none_live none_listed = record {
  placed = λ ready blob live. absurd (dead blob (subst (λ entries. IsLive entries blob) none_live live));
  once = λ item other has. absurd (unlisted_item item has);
  live = λ item has. absurd (unlisted_item item has);
  unnamed = λ item has. absurd (unlisted_item item has);
  free = λ item has. absurd (unlisted_item item has);
  gone = λ none item has. absurd (unlisted_item item has);
  held_live = λ blob has. absurd (none-held blob has);
  held_gone = λ blob has. absurd (none-held blob has);
}
  where
    dead : (blob : Blob) → IsLive [] blob → ⊥
    dead blob live = cc

    unlisted_item : (item : Item) → Contains bench.list.items item → ⊥
    unlisted_item item has = Contains-none item (subst (λ items. Contains items item) none_listed has)

-- a command that is given out changes nothing of it
pub clean-given : (book : Plain) (command : Command) → Whole book → IsClean (custody_of (with_command book command))
clean-given book command whole = whole.clean

-- and the machine that starts again is down
pub clean-restarted : (book : Plain) (bench : Seen) (level : ℕ) → Whole book → bench ≡ book.bench
    → IsClean (custody_of (after_restart book bench level))
clean-restarted book bench level whole is =
    subst (λ b. IsClean (custody_of (after_restart book b level))) (sym is)
    (clean-ready (custody_of book) false whole.clean (λ up. absurd (unlike up)))
