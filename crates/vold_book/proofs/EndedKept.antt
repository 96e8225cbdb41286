-- Of a user whose keys were ended a call leaves nothing either.
use Rattle.std.proofs.Common.{◌≡◌, ◌≢◌, ◌⊎◌, ℕ, inl, inr, true, false, List, [], ◌∷◌, refl, sym, ap, ◌∙◌}
use Rattle.std.proofs.Common.{subst, arith}
use Rattle.std.proofs.lemmas.Bool.Decides.{nat_tests}
use Rattle.std.proofs.lemmas.Option.{none-some}
use Rattle.std.specs.Cmp.{nat_cmp_total}
use Rattle.std.specs.Prelude.{◌==◌, Option, Some, None, Ok, IfSome, Contains}
use Rattle.std.specs.FinMap as map
use Rattle.std.specs.FinMap.{nat_cmp-IsAntisymmetric}
use Rattle.tree_model.specs.declared.ops.Fill.{Fill}
use Rattle.tree_model.specs.declared.places.Class.{Class}
use Rattle.tree_model.specs.declared.sites.LocalOp.{LocalOp}
use Rattle.tree_model.specs.declared.sites.LocalOp.TheVariants.{MakeDir, Write, RenameFile}
use Rattle.tree_model.specs.declared.sites.LocalOp.TheVariants.{RenameDir, RemoveFile, RemoveDir}
use Rattle.tree_model.specs.declared.sites.Site.{Site}
use Rattle.tree_model.specs.Disk.{Disk, view, with_op, filled, synced}
use Rattle.tree_model.specs.Parts.{part_of, Part, set, after_local, filled_local}
use Rattle.tree_model.specs.Sites.{op_of, same_site}
use Rattle.tree_model.specs.Tree.{Tree, after_op}
use Rattle.tree_model.proofs.Parts.{part-own_filled, part-other_filled}
use Rattle.key_ring.specs.Ring.{key_of}
use Rattle.journal_model.specs.declared.commands.Actor.{Actor}
use Rattle.journal_model.specs.declared.commands.Actor.TheVariants.{User as UserActor}
use Rattle.journal_model.specs.declared.entries.Entry.{Entry}
use Rattle.journal_model.specs.declared.entries.Entry.TheVariants.{Began}
use Rattle.journal_model.specs.declared.entries.Entry.TheVariants.{Replied}
use Rattle.journal_model.specs.declared.phase.Phase.TheVariants.{Up, Down}
use Rattle.journal_model.specs.Endings.{is_ended, ended_after}
use Rattle.keystore_model.specs.declared.entry.StoreEntry.{StoreEntry}
use Rattle.keystore_model.specs.Store.{entry_of as entry_in}
use Rattle.blob_custody.specs.Custody.{IsLeft, IsListed}
use Rattle.blob_custody.proofs.Left.{left-op, left-settled, view-left, all-left}
use Rattle.task_turns.specs.declared.calls.Answer.{Answer}
use Rattle.task_turns.specs.declared.calls.Call.{Call}
use Rattle.task_turns.specs.declared.calls.Call.TheVariants.{Op as OpCall, Sync, List as ListCall, Read, Delete}
use Rattle.task_turns.specs.declared.calls.Call.TheVariants.{Generate, Encrypt, Decrypt, Entries, Add, Remove}
use Rattle.task_turns.specs.declared.next.Next.TheVariants.{Call as CallNext}
use Rattle.bench.specs.declared.made.Made.{Made}
use Rattle.bench.specs.declared.made.Made.TheVariants.{Heard, Failed}
use Rattle.bench.specs.Bench.{Plain as Seen, Does, IsFailed, IsFailedOp, IsMade}
use Rattle.bench.proofs.Failures.{failed-leaves}
use Rattle.vold_book.specs.declared.recovery.Recovery.{Recovery}
use Rattle.vold_book.specs.declared.tasks.Running.{Running}
use Rattle.vold_book.specs.declared.tasks.Task.{Task}
use Rattle.vold_book.specs.declared.tasks.Task.TheVariants.{User as Using, Recovery as Recovers, Refusal, Fault}
use Rattle.vold_book.specs.Endings.{LeavesNothing, WasRefused}
use Rattle.vold_book.specs.Entries.{entry_of, made_entry}
use Rattle.vold_book.specs.Parts.{with_entry}
use Rattle.vold_book.specs.Recovery.{RecoveryCalls}
use Rattle.vold_book.specs.State.{Plain, ground_of, Ground, machine_of}
use Rattle.vold_book.specs.Tasks.{TaskStands, TaskShows, Worked, due_to, scene_of}
use Rattle.vold_book.specs.Turns.{IsNoted, after_call, entries_of}
use Rattle.vold_book.specs.Whole.{Whole}
use Rattle.vold_book.proofs.Charged.{noted-entry}
use Rattle.vold_book.proofs.EndedSteps.{ended-append}
use Rattle.vold_book.proofs.Isolated.{entry-in, call-isolates}
use Rattle.vold_book.proofs.KeptStore.{made-store}
use Rattle.vold_book.proofs.Carried.{carried}
use Rattle.vold_book.proofs.MadeCalls.{MadeCall}
use Rattle.vold_book.proofs.Worked.{stands-now}
use Rattle.journal_model.specs.Machine.{Running as BeganCommand, Machine}
use Rattle.std.proofs.Common.{Bool}
use Rattle.tree_model.specs.declared.ops.Fill.TheVariants.{Same, Bytes}
use Rattle.task_turns.specs.Turns.{CallStands, seen_of}
use Rattle.deferred_delete.specs.declared.items.Item.{Item}
use Rattle.step_core.specs.declared.jobs.Job.{Job}
use Rattle.vold_book.proofs.Moves.{Notes}
use Rattle.journal_model.specs.declared.commands.Reply.{Reply}
use Rattle.journal_model.specs.Actor.{actor_exact, actor_total}
use Rattle.tree_model.proofs.Maps.{decide_key, get-insert_other}
use Rattle.blob_custody.proofs.Lists.{filter-there, filter-keeps}
use Rattle.user_tasks.specs.Tasks.{user_of, tasks}
use Rattle.std.proofs.Common.{cond}

-- in no tree that a stop can leave anything stands of the user
abbrev pub IsVacant : Disk → ℕ → Type 0
IsVacant disk user = (left : Tree) (site : Site) → IsLeft disk left → part_of left user site ≡ None

-- the operation is on another user's places, or removes a directory
data IsSparing (user owner : ℕ) : LocalOp → Type 0 where
  OfOther : {op : LocalOp} → user ≢ owner → IsSparing user owner op
  Removal : {site : Site} → IsSparing user owner (RemoveDir site)

-- the part without a directory has none where it had none
removed-none : (part : Part) (gone site : Site) → part site ≡ None → set part gone None site ≡ None
removed-none part gone site none = by (same_site site gone)
  where
    by : (same : Bool) → cond same None (part site) ≡ None
    by true = refl
    by false = none

module _ (disk : Disk) (user : ℕ) (vacant : IsVacant disk user) where
  vacant-op : (owner : ℕ) (op : LocalOp) → IsSparing user owner op → IsVacant (with_op disk (op_of owner op)) user
  vacant-op owner op sparing left site is = elim (left-op disk (op_of owner op) left is) [
    | inl was ↦ vacant left site was
    | inr new ↦ subst (λ tree. part_of tree user site ≡ None) (sym new.1.1.1)
        (after new.0 new.1.0 (vacant new.0 site (all-left disk new.0 new.1.1.0)) (decide_key nat_cmp_total
        nat_cmp-IsAntisymmetric user owner))
  ]
    where
      removed : (tree : Tree) (fill : Fill) (op : LocalOp) → IsSparing user owner op → user ≡ owner
          → part_of tree user site ≡ None
          → part_of (after_op tree (filled fill (op_of owner op))) user site ≡ None
      removed tree fill op (OfOther differ) same none = absurd (differ same)
      removed tree fill (RemoveDir gone) Removal same none =
          ap (λ u. part_of (after_op tree (filled fill (op_of owner (RemoveDir gone)))) u site) same
          ∙ ap (λ part. part site) (part-own_filled tree owner fill (RemoveDir gone))
          ∙ less fill
        where
          less : (fill : Fill) → after_local (part_of tree owner) (filled_local fill (RemoveDir gone)) site ≡ None
          less Same = removed-none (part_of tree owner) gone site (ap (λ u. part_of tree u site) (sym same) ∙ none)
          less (Bytes bytes) =
              removed-none (part_of tree owner) gone site (ap (λ u. part_of tree u site) (sym same) ∙ none)

      after : (tree : Tree) (fill : Fill) → part_of tree user site ≡ None → (user ≡ owner) ⊎ (user ≢ owner)
          → part_of (after_op tree (filled fill (op_of owner op))) user site ≡ None
      after tree fill none (inl same) = removed tree fill op sparing same none
      after tree fill none (inr differ) =
          ap (λ part. part site) (part-other_filled tree owner user fill op differ) ∙ none

  vacant-synced : IsVacant (synced disk) user
  vacant-synced left site is = ap (λ tree. part_of tree user site) (left-settled (synced disk) refl left is)
      ∙ vacant (view disk) site (view-left disk)

-- a call on the places of another user, or one that removes a directory
abbrev IsSparingCall : ℕ → Call → Type 0
IsSparingCall user (OpCall owner op names) = IsSparing user owner op
IsSparingCall user call = Unit {0}

module _ (before after : Seen) (user : ℕ) (vacant : IsVacant before.disk user) where
  same-vacant : after.disk ≡ before.disk → IsVacant after.disk user
  same-vacant same = subst (λ disk. IsVacant disk user) (sym same) vacant

  done-vacant : (call : Call) (answer : Answer) → IsSparingCall user call → Does before after call answer
      → IsVacant after.disk user
  done-vacant (OpCall owner op names) answer sparing does = subst (λ b. IsVacant b.disk user) (sym does.1)
      (vacant-op before.disk user vacant owner op sparing)
  done-vacant Sync answer sparing does =
      subst (λ b. IsVacant b.disk user) (sym does.1) (vacant-synced before.disk user vacant)
  done-vacant ListCall answer sparing does = same-vacant (ap (λ b. b.disk) does.2)
  done-vacant (Read place) answer sparing does = same-vacant (ap (λ b. b.disk) does.3)
  done-vacant (Generate tag app_id) answer sparing does = same-vacant (ap (λ b. b.disk) does.3)
  done-vacant (Encrypt blob app_id nonce key) answer sparing does = same-vacant (ap (λ b. b.disk) does.1)
  done-vacant (Decrypt blob app_id text) answer sparing does = same-vacant (ap (λ b. b.disk) does.1)
  done-vacant Entries answer sparing does = same-vacant (ap (λ b. b.disk) does.1.2)
  done-vacant (Delete item tells) answer sparing does = same-vacant (ap (λ b. b.disk) does.1)
  done-vacant (Add owner class key) answer sparing does = same-vacant (ap (λ b. b.disk) does.1)
  done-vacant (Remove owner class) answer sparing does = same-vacant (ap (λ b. b.disk) does.1)

  failed-op : (owner : ℕ) (op : LocalOp) → IsSparing user owner op → IsFailedOp before after owner op
      → IsVacant after.disk user
  failed-op owner (Write site file bytes) (OfOther differ) failed = subst (λ b. IsVacant b.disk user) (sym failed.1)
      (vacant-op before.disk user vacant owner (Write site file failed.0) (OfOther differ))
  failed-op owner (MakeDir site) sparing failed = same-vacant (ap (λ b. b.disk) failed)
  failed-op owner (RenameFile site from to) sparing failed = same-vacant (ap (λ b. b.disk) failed)
  failed-op owner (RenameDir from to) sparing failed = same-vacant (ap (λ b. b.disk) failed)
  failed-op owner (RemoveFile site file) sparing failed = same-vacant (ap (λ b. b.disk) failed)
  failed-op owner (RemoveDir site) sparing failed = same-vacant (ap (λ b. b.disk) failed)

  failed-vacant : (call : Call) → IsSparingCall user call → IsFailed before after call → IsVacant after.disk user
  failed-vacant (OpCall owner op names) sparing failed = failed-op owner op sparing failed
  failed-vacant Sync sparing failed = same-vacant (ap (λ b. b.disk) failed)
  failed-vacant ListCall sparing failed = same-vacant (ap (λ b. b.disk) failed)
  failed-vacant (Read place) sparing failed = same-vacant (ap (λ b. b.disk) failed)
  failed-vacant (Generate tag app_id) sparing failed = same-vacant (ap (λ b. b.disk) failed)
  failed-vacant (Encrypt blob app_id nonce key) sparing failed = same-vacant (ap (λ b. b.disk) failed)
  failed-vacant (Decrypt blob app_id text) sparing failed = same-vacant (ap (λ b. b.disk) failed)
  failed-vacant Entries sparing failed = same-vacant (ap (λ b. b.disk) failed)
  failed-vacant (Delete item tells) sparing failed = same-vacant (ap (λ b. b.disk) failed)
  failed-vacant (Add owner class key) sparing failed = same-vacant (ap (λ b. b.disk) failed)
  failed-vacant (Remove owner class) sparing failed = same-vacant (ap (λ b. b.disk) failed)

  made-vacant : (call : Call) (made : Made) → IsSparingCall user call → IsMade before after call (Ok made)
      → IsVacant after.disk user
  made-vacant call (Heard answer) sparing is_made = done-vacant call answer sparing is_made
  made-vacant call (Failed device) sparing is_made = failed-vacant call sparing is_made.1

-- a recovery's call leaves the ring
recovery-keys : (before after : Seen) (ground : Ground) (recovery : Recovery) (call : Call) (made : Made)
    → RecoveryCalls ground recovery call → IsMade before after call (Ok made) → after.keys ≡ before.keys
recovery-keys before after ground recovery call (Failed device) shows is_made =
    ap (λ b. b.keys) (failed-leaves before after call is_made.1)
recovery-keys before after ground recovery (OpCall owner op names) (Heard answer) shows does = ap (λ b. b.keys) does.1
recovery-keys before after ground recovery Sync (Heard answer) shows does = ap (λ b. b.keys) does.1
recovery-keys before after ground recovery ListCall (Heard answer) shows does = ap (λ b. b.keys) does.2
recovery-keys before after ground recovery (Read place) (Heard answer) shows does = ap (λ b. b.keys) does.3
recovery-keys before after ground recovery Entries (Heard answer) shows does = ap (λ b. b.keys) does.1.2
recovery-keys before after ground recovery call (Heard answer) shows does = absurd shows

-- an entry of a call neither ends a user's keys nor begins a command
quiet-ended : (user number : ℕ) (machine : Machine) (ended : Bool) (entry : Entry) → IsNoted number entry
    → ended_after user machine ended entry ≡ ended
quiet-ended user number machine ended (Began begun actor command) noted = absurd noted
quiet-ended user number machine ended (Replied replied reply) noted = absurd noted
quiet-ended user number machine ended entry noted = refl

-- what was refused makes no call
refused-stays : (ground : Ground) (began : BeganCommand) (due : Option Item) (task now : Task) (jobs : List Job)
    (reply : Reply) → task ≡ Refusal reply → Worked ground began due task now jobs → now ≡ Refusal reply
refused-stays ground began due (Refusal other) now [] reply is worked = worked ∙ is
refused-stays ground began due (Refusal other) now (job ∷ jobs) reply is worked = absurd worked
refused-stays ground began due (Using task) now jobs reply is worked = cc
refused-stays ground began due (Recovers recovery) now jobs reply is worked = cc
refused-stays ground began due (Fault device held) now jobs reply is worked = cc

module _ (book : Plain) (whole : Whole book) (actor : Actor) (it : Running) (done : MadeCall book actor it) where
  abbrev entry : Option Entry
  entry = made_entry done.made (entry_of it.number done.making.call done.making.change)

  ended-before : (user : ℕ) → is_ended (with_entry book.ledger.entries entry) user ≡ true
      → is_ended book.ledger.entries user ≡ true
  ended-before user ended = by entry (noted-entry done.made it.number done.making.call done.making.change) ended
    where
      by : (entry : Option Entry) → IfSome entry (IsNoted it.number)
          → is_ended (with_entry book.ledger.entries entry) user ≡ true → is_ended book.ledger.entries user ≡ true
      by None noted ended = ended
      by (Some entry) noted ended = sym (quiet-ended user it.number (machine_of book)
          (is_ended book.ledger.entries user) entry noted) ∙ sym (ended-append user book.ledger.entries entry) ∙ ended

  module _ (user : ℕ) (nothing : LeavesNothing book user) where
    -- the call isn't the user's own
    others-call : actor ≢ UserActor user
    others-call own = by done.making.task (refused-stays (ground_of book) done.plans.on.began (due_to book it) it.task
        done.making.task done.plans.jobs refused.reply refused.is done.plans.worked) done.plans.shows
      where
        refused : WasRefused it
        refused = nothing.idle it (ap (map.get book.docket.running) (sym own) ∙ done.plans.runs)

        by : (task : Task) → task ≡ Refusal refused.reply
            → TaskShows (ground_of book) done.plans.on.began (due_to book it) task
            (CallNext done.making.call done.making.change) → ⊥
        by (Refusal reply) is shows = cc
        by (Using task) is shows = cc
        by (Recovers recovery) is shows = cc
        by (Fault device held) is shows = cc

    -- what the call leaves of the user's: by who makes it
    record Leaves : Type 0 where
      sparing : IsSparingCall user done.making.call
      keys : (class : Class) → key_of done.bench.keys user class ≡ None
      entries : book.tracker.phase ≡ Up
          → entries_of user done.bench.store.entries ≡ entries_of user book.bench.store.entries

    leaves : Leaves
    leaves = by done.making.task
        (stands-now book actor it done.making.task (CallNext done.making.call done.making.change) done.plans)
        done.plans.shows
      where
        by : (task : Task) → TaskStands (ground_of book) task done.plans.on.began
            → TaskShows (ground_of book) done.plans.on.began (due_to book it) task
            (CallNext done.making.call done.making.change) → Leaves
        by (Using task) stands shows =
            let spare = call-isolates book whole actor (user_of task) user of-owner differ it done.making.task
            done.making.call done.making.change done.made done.bench done.plans done.is_made in record {
              sparing = sparing done.making.call shows.stands;
              keys = λ class. ap (λ keys. keys class) spare.keys ∙ nothing.keyless class;
              entries = λ up. spare.entries;
            }
          where
            of-owner : actor ≡ UserActor (user_of task)
            of-owner = sym done.plans.on.own ∙ stands.of_user

            differ : user ≢ user_of task
            differ same = others-call (of-owner ∙ ap UserActor (sym same))

            sparing : (call : Call) → CallStands (seen_of tasks task) (scene_of (user_of task) (ground_of book)
                done.plans.on.began (due_to book it)) call done.making.change → IsSparingCall user call
            sparing (OpCall owner op names) stands = OfOther (λ same. differ (same ∙ stands.mine))
            sparing Sync stands = tt
            sparing ListCall stands = tt
            sparing (Read place) stands = tt
            sparing (Generate tag app_id) stands = tt
            sparing (Encrypt blob app_id nonce key) stands = tt
            sparing (Decrypt blob app_id text) stands = tt
            sparing Entries stands = tt
            sparing (Delete item tells) stands = tt
            sparing (Add owner class key) stands = tt
            sparing (Remove owner class) stands = tt
        by (Recovers recovery) stands shows = record {
          sparing = sparing done.making.call shows.1;
          keys = λ class. ap (λ keys. key_of keys user class) (recovery-keys book.bench done.bench (ground_of book)
              recovery done.making.call done.made shows.1 done.is_made) ∙ nothing.keyless class;
          entries = λ up. absurd (apart (sym stands.1.0 ∙ whole.agrees.phase ∙ up));
        }
          where
            apart : Down ≡ Up → ⊥
            apart e = cc

            sparing : (call : Call) → RecoveryCalls (ground_of book) recovery call → IsSparingCall user call
            sparing (OpCall owner op names) shows =
                subst (IsSparing user owner) (sym shows.removes) (Removal {site = shows.site})
            sparing Sync shows = tt
            sparing ListCall shows = tt
            sparing (Read place) shows = tt
            sparing (Generate tag app_id) shows = tt
            sparing (Encrypt blob app_id nonce key) shows = tt
            sparing (Decrypt blob app_id text) shows = tt
            sparing Entries shows = tt
            sparing (Delete item tells) shows = tt
            sparing (Add owner class key) shows = tt
            sparing (Remove owner class) shows = tt
        by (Refusal reply) stands shows = cc
        by (Fault device held) stands shows = cc

    -- a blob that was listed is listed still, or has no entry
    still-listed : (entry : StoreEntry) → Contains done.bench.store.entries entry
        → IsListed book.bench.list entry.blob → IsListed done.bench.list entry.blob
    still-listed entry has listed = elim ((carried book whole it.number done.making.change done.making.then done.bench
        done.making.call done.made done.fits done.is_made).items listed.item listed.has) [
          | inl still ↦ record { item = still.now; has = still.has; is = still.blob ∙ listed.is }
          | inr ended ↦ absurd (none-some entry (sym ended.gone
              ∙ ap (entry_in done.bench.store.entries) listed.is
              ∙ entry-in done.bench.store.entries entry (made-store book.bench done.bench whole.store
              done.making.call done.made done.is_made).whole.differ has))
        ]

    pub called-nothing : (notes : Notes) → LeavesNothing
        (after_call book actor it.number (record done.making { owed = notes.owed }) done.made notes.marks done.bench)
        user
    called-nothing notes = record {
      vacant = made-vacant book.bench done.bench user nothing.vacant done.making.call done.made leaves.sparing
          done.is_made;
      keyless = leaves.keys;
      listed = λ up entry has of.
          let was = sym done.moves.phase ∙ up in
          still-listed entry has (nothing.listed was entry (was-there was entry has of) of);
      idle = λ o at. nothing.idle o (sym (get-insert_other actor_total actor_exact book.docket.running actor
          _ (UserActor user) (λ same. others-call (sym same))) ∙ at);
    }
      where
        was-there : book.tracker.phase ≡ Up → (entry : StoreEntry) → Contains done.bench.store.entries entry
            → entry.tag.user ≡ user → Contains book.bench.store.entries entry
        was-there up entry has of = filter-there (λ (e : StoreEntry). e.tag.user == user) book.bench.store.entries
            entry (subst (λ entries. Contains entries entry) (leaves.entries up)
            (filter-keeps (λ (e : StoreEntry). e.tag.user == user) done.bench.store.entries entry (is-user of) has))
          where
            is-user : entry.tag.user ≡ user → (entry.tag.user == user) ≡ true
            is-user same = grind (arith, nat_tests, same)

  pub called-ended : (notes : Notes) (user : ℕ)
      → is_ended (with_entry book.ledger.entries entry) user ≡ true → LeavesNothing
      (after_call book actor it.number (record done.making { owed = notes.owed }) done.made notes.marks done.bench)
      user
  called-ended notes user ended = called-nothing user (whole.ended user (ended-before user ended)) notes
