-- What a planned delete deletes: the first of what its command listed that is due.
use Rattle.std.proofs.Common.{◌≡◌, ◌⊎◌, ℕ, Bool, true, false, List, [], ◌∷◌, length}
use Rattle.std.proofs.Common.{cond, refl, sym, ap, ◌∙◌, subst}
use Rattle.std.proofs.Common.{arith, inl, inr}
use Rattle.std.specs.Prelude.{◌↔◌, Option, Some, slice_get}
use Rattle.tree_model.specs.declared.blobs.Blob.{Blob}
use Rattle.deferred_delete.specs.declared.items.Item.{Item}
use Rattle.journal_model.specs.declared.commands.Actor.{Actor}
use Rattle.journal_model.specs.declared.commands.Actor.TheVariants.{User as UserActor}
use Rattle.journal_model.specs.Machine.{Running as Began}
use Rattle.user_world.specs.declared.changes.LocalChange.{LocalChange}
use Rattle.task_turns.specs.declared.calls.Call.{Call}
use Rattle.task_turns.specs.declared.calls.Call.TheVariants.{Op, Sync, List as ListCall, Read, Generate, Encrypt}
use Rattle.task_turns.specs.declared.calls.Call.TheVariants.{Decrypt, Entries, Add, Remove, Delete}
use Rattle.task_turns.specs.declared.next.Next.TheVariants.{Call as CallNext}
use Rattle.task_turns.specs.Turns.{tells_deletes}
use Rattle.bench.specs.declared.made.Made.{Made}
use Rattle.bench.specs.declared.made.Made.TheVariants.{Heard, Failed}
use Rattle.bench.specs.Bench.{was_done}
use Rattle.blob_custody.proofs.Listed.{one_number}
use Rattle.vold_book.specs.declared.tasks.Running.{Running}
use Rattle.vold_book.specs.declared.tasks.Task.{Task}
use Rattle.vold_book.specs.declared.tasks.Task.TheVariants.{User as Using, Recovery as Recovers, Refusal, Fault}
use Rattle.vold_book.specs.Owed.{Owed, with_more, more_owed, owed_after, drops_of}
use Rattle.vold_book.specs.Owing.{IsOwing, IsWaiting, IsEnded}
use Rattle.vold_book.specs.State.{Plain, ground_of, machine_of}
use Rattle.vold_book.specs.Tasks.{RunsOn, TaskShows, Plans, due_to, is_untold}
use Rattle.vold_book.specs.Turns.{Making, IsTelling, TriesNext, deleted_by}
use Rattle.vold_book.specs.Whole.{Whole, count_from}
use Rattle.vold_book.proofs.DueItems.{IsDue, due-listed}
use Rattle.vold_book.proofs.Falls.{OwesFewer}
use Rattle.vold_book.proofs.OwedFewer.{TriesOwn, owes-after}
use Rattle.vold_book.proofs.Shown.{drops_made}

-- what is due is of the blob that the command listed it for
pub due-blob : (book : Plain) → Whole book → (actor : Actor) (it : Running)
    → RunsOn (ground_of book) (machine_of book) actor it → {item : Item}
    → (due : IsDue book.bench.list it.owed.from it.owed.items item) → item.blob ≡ due.own.blob
due-blob book whole actor it on {item} due = by owes.2.stands
  where
    owes : (user : ℕ) × (actor ≡ UserActor user) × IsOwing (ground_of book) user due.own
    owes = on.owes due.own due.among

    by : IsWaiting (ground_of book) owes.0 due.own ⊎ IsEnded (ground_of book) due.own → item.blob ≡ due.own.blob
    by (inl waits) = ap (λ (one : Item). one.blob) (one_number book.bench.list.items whole.numbered.rising item
        (record due.own { synced = waits.synced }) due.listed waits.has due.same)
    by (inr ended) = absurd (ended.taken item due.listed due.same)

-- what a planned delete shows: it is of what is due, and the command tells or not where it fails
pub record Deleting (book : Plain) (it : Running) (began : Began) (item : Item) (tells : Bool) : Type 0 where
  pub is_due : due_to book it ≡ Some item
  pub telling : tells ≡ tells_deletes began.command

pub is-deleting : (book : Plain) (it : Running) (began : Began) (now : Task) (item : Item) (tells : Bool)
    (change : Option LocalChange)
    → TaskShows (ground_of book) began (due_to book it) now (CallNext (Delete item tells) change)
    → Deleting book it began item tells
is-deleting book it began (Using task) item tells change shows =
    record { is_due = shows.stands.is_due; telling = shows.stands.telling }
is-deleting book it began (Recovers recovery) item tells change shows = absurd shows.1
is-deleting book it began (Refusal reply) item tells change shows = cc
is-deleting book it began (Fault device held) item tells change shows = cc

pub from-more : (done : Bool) (next : ℕ) (drops : List Blob) (owed : Owed)
    → (with_more done (more_owed owed next drops) owed).from ≡ owed.from
from-more true next [] owed = refl
from-more true next (blob ∷ blobs) owed = refl
from-more false next [] owed = refl
from-more false next (blob ∷ blobs) owed = refl

module _ (book : Plain) (whole : Whole book) (actor : Actor) (it : Running) (making : Making)
    (plans : Plans book actor it making.task (CallNext making.call making.change)) where
  abbrev Shows : Call → Type 0
  Shows call = TaskShows (ground_of book) plans.on.began (due_to book it) making.task (CallNext call making.change)

  deleting : (item : Item) (tells : Bool) → Shows (Delete item tells) → Deleting book it plans.on.began item tells
  deleting item tells shows = is-deleting book it plans.on.began making.task item tells making.change shows

  -- that it failed is told but where it is a delete of a command that doesn't tell it
  pub tells-by : IsTelling (slice_get book.docket.commands it.number) (deleted_by making.call)
      ↔ (is_untold making.call ≡ false)
  tells-by = by making.call plans.shows
    where
      given : slice_get book.docket.commands it.number ≡ Some plans.on.began.command
      given = (whole.numbers.given it.number plans.on.began plans.on.at).given

      told : (item : Item) (tells : Bool) → tells ≡ tells_deletes plans.on.began.command
          → (tells_deletes plans.on.began.command ≡ true) ↔ (is_untold (Delete item tells) ≡ false)
      told item true telling = (λ is. refl, λ untold. sym telling)
      told item false telling = (λ is. apart (telling ∙ is), λ untold. apart (sym untold))
        where
          apart : {A : Type 0} → false ≡ true → A
          apart e = cc

      by : (call : Call) → Shows call → IsTelling (slice_get book.docket.commands it.number) (deleted_by call)
          ↔ (is_untold call ≡ false)
      by (Delete item tells) shows = subst (λ command. IsTelling command (Some item)
          ↔ (is_untold (Delete item tells) ≡ false)) (sym given)
          (told item tells (deleting item tells shows).telling)
      by (Op user op names) shows = (λ is. refl, λ untold. tt)
      by Sync shows = (λ is. refl, λ untold. tt)
      by ListCall shows = (λ is. refl, λ untold. tt)
      by (Read place) shows = (λ is. refl, λ untold. tt)
      by (Generate tag app_id) shows = (λ is. refl, λ untold. tt)
      by (Encrypt blob app_id nonce key) shows = (λ is. refl, λ untold. tt)
      by (Decrypt blob app_id text) shows = (λ is. refl, λ untold. tt)
      by Entries shows = (λ is. refl, λ untold. tt)
      by (Add user class key) shows = (λ is. refl, λ untold. tt)
      by (Remove user class) shows = (λ is. refl, λ untold. tt)

  module _ (made : Made) (is_owed : making.owed
      ≡ owed_after book.bench.places book.bench.list.next making.call (was_done made) it.owed) where
    -- what is deleted is the first that is due, and isn't tried again
    pub tries-next : TriesNext book.bench.list it.owed making.owed (deleted_by making.call)
    tries-next = subst (λ owed. TriesNext book.bench.list it.owed owed (deleted_by making.call)) (sym is_owed)
        (by making.call plans.shows)
      where
        Next : Call → Type 0
        Next call = TriesNext book.bench.list it.owed
            (owed_after book.bench.places book.bench.list.next call (was_done made) it.owed) (deleted_by call)

        same : (drops : List Blob)
            → (with_more (was_done made) (more_owed it.owed book.bench.list.next drops) it.owed).from ≡ it.owed.from
        same drops = from-more (was_done made) book.bench.list.next drops it.owed

        by : (call : Call) → Shows call → Next call
        by (Delete item tells) shows = record { due = (deleting item tells shows).is_due; passed = refl }
        by (Op user op names) shows = same (drops_of book.bench.places (Op user op names))
        by Sync shows = same []
        by ListCall shows = same []
        by (Read place) shows = same []
        by (Generate tag app_id) shows = same []
        by (Encrypt blob app_id nonce key) shows = same []
        by (Decrypt blob app_id text) shows = same []
        by Entries shows = same []
        by (Add user class key) shows = same []
        by (Remove user class) shows = same []

    -- no more is owed than was, but for what was dropped, and a delete is one less
    pub owes-fewer : OwesFewer book whole actor it plans.runs making made
    owes-fewer =
        let after = owes-after book.bench.places book.bench.list.next making.call (was_done made) it.owed
        (tries making.call plans.shows) in
        let now = ap (λ (owed : Owed). count_from owed.from owed.items) is_owed in
        let drops = dropped made in
        omega (arith, after, now, drops)
      where
        tries : (call : Call) → Shows call → TriesOwn call it.owed
        tries (Delete item tells) shows =
            let due = due-listed book.bench.list whole.numbered it.owed item (deleting item tells shows).is_due in
            (due.own, due.among, due.same, due.reached)
        tries call shows = tt

        dropped : (made : Made) → length (cond (was_done made) (drops_of book.bench.places making.call) [])
            ≡ drops_made book.bench.places making.call made
        dropped (Heard answer) = refl
        dropped (Failed device) = refl
