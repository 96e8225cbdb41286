-- What a call of its own leaves of the items that a command passed: they are in order, and each has ended where a
-- delete that failed would be told.
use Rattle.std.proofs.Common.{◌≡◌, ◌⊎◌, ◌<◌, ◌≤◌, ℕ, ◌+◌, inl, inr, Bool, true, false, List, [], ◌∷◌, ◌++◌}
use Rattle.std.proofs.Common.{length, refl, sym, ap, ◌∙◌, subst, arith}
use Rattle.std.proofs.lemmas.Bool.{cases_lt}
use Rattle.std.proofs.lemmas.List.Elements.{Contains-append_left, Contains-append_cases, Contains-append_right}
use Rattle.std.specs.Prelude.{Contains, Ok}
use Rattle.tree_model.specs.declared.blobs.Blob.{Blob}
use Rattle.deferred_delete.specs.declared.items.Item.{Item}
use Rattle.deferred_delete.specs.Deferral.{Deferral, pushed}
use Rattle.journal_model.specs.declared.commands.Actor.{Actor}
use Rattle.journal_model.specs.declared.commands.Actor.TheVariants.{User as UserActor}
use Rattle.journal_model.specs.declared.commands.Command.{Command}
use Rattle.keystore_model.specs.Store.{entry_of, without}
use Rattle.keystore_model.proofs.Elements.{Contains-none, Contains-first, Contains-rest, Contains-cases}
use Rattle.keystore_model.proofs.Stores.{entry-without_same}
use Rattle.blob_custody.proofs.Listed.{one_number, taken-apart}
use Rattle.blob_custody.specs.Steps.{pushed_all}
use Rattle.step_core.specs.Table.{NamedPlaces}
use Rattle.task_turns.specs.declared.calls.Answer.{Answer}
use Rattle.task_turns.specs.declared.calls.Answer.TheVariants.{Done}
use Rattle.task_turns.specs.declared.calls.Call.{Call}
use Rattle.task_turns.specs.declared.calls.Call.TheVariants.{Delete, Op}
use Rattle.task_turns.specs.declared.next.Next.TheVariants.{Call as CallNext}
use Rattle.task_turns.specs.Turns.{tells_deletes}
use Rattle.bench.specs.declared.made.Made.{Made}
use Rattle.bench.specs.declared.made.Made.TheVariants.{Heard, Failed}
use Rattle.bench.specs.Bench.{Fits, IsMade, Plain as Seen, dropped, was_done}
use Rattle.vold_book.specs.declared.tasks.Running.{Running}
use Rattle.vold_book.specs.declared.tasks.Task.{Task}
use Rattle.vold_book.specs.declared.tasks.Task.TheVariants.{User as Using, Recovery as Recovers, Refusal, Fault}
use Rattle.vold_book.specs.Owed.{Owed, items_from, with_more, more_owed, after_try, drops_of, owed_after}
use Rattle.vold_book.specs.Owing.{ComesLater, InOrder, IsOwing, IsWaiting, IsEnded, HasTried}
use Rattle.vold_book.specs.State.{Plain, Ground, ground_of}
use Rattle.vold_book.specs.Tasks.{TaskAfter, TaskFailed, TaskShows, ends_passed, is_untold, task_heard, due_to}
use Rattle.vold_book.specs.Whole.{Whole}
use Rattle.vold_book.proofs.Carried.{Carries, carried, ended-on, tried-on, pushed-behind, pushed-next}
use Rattle.vold_book.proofs.DueItems.{IsDue, due-listed, none-before, none-synced}
use Rattle.vold_book.proofs.MadeCalls.{MadeCall, left_by}
use Rattle.vold_book.proofs.Moves.{ground_then}
use Rattle.vold_book.proofs.Numbering.{listed-below, numbered-made}
use Rattle.vold_book.proofs.Tried.{Deleting, due-blob, from-more, is-deleting}
use Rattle.vold_book.proofs.Worked.{on-now}

-- what a command owes after a call lists more it owed before, or the call listed it and was done
more-from : (next : ℕ) (done : Bool) (drops : List Blob) (owed : Owed) (item : Item)
    → Contains (with_more done (more_owed owed next drops) owed).items item
    → Contains owed.items item ⊎ ((done ≡ true) × Contains (items_from next drops) item)
more-from next true [] owed item has = inl has
more-from next true (blob ∷ blobs) owed item has =
    elim (Contains-append_cases owed.items (items_from next (blob ∷ blobs)) item has)
    as (λ _. Contains owed.items item ⊎ ((true ≡ true) × Contains (items_from next (blob ∷ blobs)) item)) [
      | inl was ↦ inl was
      | inr new ↦ inr (refl, new)
    ]
more-from next false [] owed item has = inl has
more-from next false (blob ∷ blobs) owed item has = inl has

-- a delete that was tried changes no item
tried-items : (call : Call) (owed : Owed) → (after_try call owed).items ≡ owed.items
tried-items (Delete item tells) owed = refl
tried-items call owed = refl

pub owed-from : (places : NamedPlaces) (next : ℕ) (call : Call) (done : Bool) (owed : Owed) (item : Item)
    → Contains (owed_after places next call done owed).items item
    → Contains owed.items item ⊎ ((done ≡ true) × Contains (items_from next (drops_of places call)) item)
owed-from places next call done owed item has = more-from next done (drops_of places call) owed item
    (subst (λ items. Contains items item)
    (tried-items call (with_more done (more_owed owed next (drops_of places call)) owed)) has)

-- and what it owed it owes still
more-still : (next : ℕ) (done : Bool) (drops : List Blob) (owed : Owed) (item : Item) → Contains owed.items item
    → Contains (with_more done (more_owed owed next drops) owed).items item
more-still next true [] owed item has = has
more-still next true (blob ∷ blobs) owed item has =
    Contains-append_left owed.items (items_from next (blob ∷ blobs)) item has
more-still next false [] owed item has = has
more-still next false (blob ∷ blobs) owed item has = has

pub owed-still : (places : NamedPlaces) (next : ℕ) (call : Call) (done : Bool) (owed : Owed) (item : Item)
    → Contains owed.items item → Contains (owed_after places next call done owed).items item
owed-still places next call done owed item has = subst (λ items. Contains items item)
    (sym (tried-items call (with_more done (more_owed owed next (drops_of places call)) owed)))
    (more-still next done (drops_of places call) owed item has)

-- an item of blobs that are listed from a number on is one of theirs, is among the items of the list then, and has a
-- number below the next one
pub record IsNew (list : Deferral) (blobs : List Blob) (item : Item) : Type 0 where
  pub blob : Contains blobs item.blob
  pub unsynced : item.synced ≡ false
  pub has : Contains (pushed_all list blobs false).items item
  pub below : item.number < (pushed_all list blobs false).next

pub new-item : (list : Deferral) (blobs : List Blob) (item : Item) → Contains (items_from list.next blobs) item
    → IsNew list blobs item
new-item list [] item has = absurd (Contains-none item has)
new-item list (blob ∷ blobs) item has =
    elim (Contains-cases first (items_from (list.next + 1) blobs) item has) [
      | inl same ↦ subst (IsNew list (blob ∷ blobs)) same (record {
        blob = Contains-first blob blobs;
        unsynced = refl;
        has = pushed-behind (pushed list blob false) blobs false first
            (Contains-append_right list.items (first ∷ []) first (Contains-first first []));
        below = let next = pushed-next list (blob ∷ blobs) false in omega (arith, next);
      })
      | inr later ↦ let new = new-item (pushed list blob false) blobs item later in record {
        blob = Contains-rest blob blobs item.blob new.blob;
        unsynced = new.unsynced;
        has = new.has;
        below = new.below;
      }
    ]
  where
    first : Item
    first = record { number = list.next; blob = blob; synced = false }

-- the numbers of blobs that are listed from a number on are no lower
pub from-next : (next : ℕ) (blobs : List Blob) (item : Item) → Contains (items_from next blobs) item
    → next ≤ item.number
from-next next [] item has = absurd (Contains-none item has)
from-next next (blob ∷ blobs) item has =
    let first : Item = record { number = next; blob = blob; synced = false } in
    elim (Contains-cases first (items_from (next + 1) blobs) item has) [
      | inl same ↦ let number = ap (λ (i : Item). i.number) same in omega (arith, number)
      | inr later ↦ let above = from-next (next + 1) blobs item later in omega (arith, above)
    ]

-- items that aren't synced, of blobs that are listed from a number on, come behind items of lower numbers
module _ (list : Deferral) where
  abbrev IsUnsynced : Item → Type 0
  IsUnsynced item = ¬ (Contains list.items (record item { synced = true }))

  new-later : (early late : Item) → early.number < late.number → IsUnsynced late → ComesLater list early late
  new-later early late higher unsynced = record { higher = higher; synced = λ now. absurd (unsynced now) }

  new-order : (next : ℕ) (blobs : List Blob)
      → ((item : Item) → Contains (items_from next blobs) item → IsUnsynced item)
      → InOrder list (items_from next blobs)
  new-order next [] unsynced = tt
  new-order next (blob ∷ blobs) unsynced = (
    λ later has. new-later first later (let above = from-next (next + 1) blobs later has in omega (arith, above))
        (unsynced later (Contains-rest first rest later has)),
    new-order (next + 1) blobs (λ item has. unsynced item (Contains-rest first rest item has)),
  )
    where
      first : Item
      first = record { number = next; blob = blob; synced = false }

      rest : List Item
      rest = items_from (next + 1) blobs

  pub order-more : (next : ℕ) (blobs : List Blob)
      → ((item : Item) → Contains (items_from next blobs) item → IsUnsynced item)
      → (items : List Item) → ((item : Item) → Contains items item → item.number < next) → InOrder list items
      → InOrder list (items ++ items_from next blobs)
  order-more next blobs unsynced [] below order = new-order next blobs unsynced
  order-more next blobs unsynced (item ∷ items) below order = (
    λ later has. elim (Contains-append_cases items (items_from next blobs) later has) [
      | inl was ↦ order.0 later was
      | inr new ↦
          let above = from-next next blobs later new in
          let low = below item (Contains-first item items) in
          new-later item later (omega (arith, above, low)) (unsynced later new)
    ],
    order-more next blobs unsynced items (λ later has. below later (Contains-rest item items later has)) order.1,
  )

  -- of two items in order the one with the higher number comes later
  pub in-order : (items : List Item) → InOrder list items → (early late : Item) → Contains items early
      → Contains items late → early.number < late.number → ComesLater list early late
  in-order [] order early late has also higher = absurd (Contains-none early has)
  in-order (item ∷ items) order early late has also higher =
      elim (Contains-cases item items early has) [
        | inl same ↦ elim (Contains-cases item items late also) [
          | inl again ↦
              let one = ap (λ (i : Item). i.number) same in
              let two = ap (λ (i : Item). i.number) again in absurd (omega (arith, one, two, higher))
          | inr later ↦ subst (λ i. ComesLater list i late) same (order.0 late later)
        ]
        | inr later ↦ elim (Contains-cases item items late also) [
          | inl again ↦
              let above = (order.0 early later).higher in
              let two = ap (λ (i : Item). i.number) again in absurd (omega (arith, above, two, higher))
          | inr both ↦ in-order items order.1 early late later both higher
        ]
      ]

-- a task goes on after a call that was done, or of which nobody is told that it failed
pub record WentOn (command : Command) (call : Call) (made : Made) (task : Task) : Type 0 where
  pub before : ends_passed command task ≡ true
  pub did : (was_done made ≡ true) ⊎ (is_untold call ≡ true)

pub went-on : (command : Command) (call : Call) (made : Made) (task then : Task) → TaskAfter call made task then
    → ends_passed command then ≡ true → WentOn command call made task
went-on command call made task then after goes = by made after
  where
    heard : (answer : Answer) → then ≡ task_heard call answer task → ends_passed command task ≡ true
    heard answer is = of task (sym (ap (ends_passed command) is) ∙ goes)
      where
        of : (task : Task) → ends_passed command (task_heard call answer task) ≡ true
            → ends_passed command task ≡ true
        of (Using user) on = on
        of (Recovers recovery) on = cc
        of (Refusal reply) on = cc
        of (Fault device held) on = cc

    by : (made : Made) → TaskAfter call made task then → WentOn command call made task
    by (Heard answer) is = record { before = heard answer is; did = inl refl }
    by (Failed device) fails = elim (is_untold call) as (λ untold. is_untold call ≡ untold
        → TaskFailed untold call device task then → WentOn command call (Failed device) task) [
          | true ↦ λ untold is. record { before = heard Done is; did = inr untold }
          | false ↦ λ untold told. absurd (stops (sym (ap (ends_passed command) told.is) ∙ goes))
        ] refl fails
      where
        stops : false ≡ true → ⊥
        stops e = cc

-- and where it goes on, a failed delete would have been told
telling-all : (command : Command) (task : Task) → ends_passed command task ≡ true → tells_deletes command ≡ true
telling-all command (Using user) ends = ends
telling-all command (Recovers recovery) ends = cc
telling-all command (Refusal reply) ends = cc
telling-all command (Fault device held) ends = cc

module _ (book : Plain) (whole : Whole book) (actor : Actor) (it : Running) (done : MadeCall book actor it) where
  abbrev ground : Ground
  ground = ground_of book

  abbrev then : Ground
  then = ground_then book (left_by book actor it done)

  abbrev command : Command
  command = done.plans.on.began.command

  abbrev before : Bool
  before = ends_passed command done.making.task

  abbrev next : ℕ
  next = book.bench.list.next

  abbrev did : Bool
  did = was_done done.made

  carries : Carries ground then
  carries = carried book whole it.number done.making.change done.making.then done.bench done.making.call done.made
      done.fits done.is_made

  was : HasTried ground before it.owed
  was = (on-now book actor it done.making.task (CallNext done.making.call done.making.change) done.plans).tried

  still : HasTried then before it.owed
  still = tried-on ground then actor before it.owed carries done.plans.on.owes was

  below : (item : Item) → Contains it.owed.items item → item.number < next
  below item has = (done.plans.on.owes item has).2.numbered

  -- what a call lists isn't synced
  new-unsynced : (call : Call) (made : Made) → Fits book.bench call → IsMade book.bench done.bench call (Ok made)
      → was_done made ≡ true → (item : Item) → Contains (items_from next (drops_of book.bench.places call)) item
      → IsUnsynced done.bench.list item
  new-unsynced (Op user op names) (Heard answer) fits does done_it item has now =
      let drops = dropped book.bench.places user op in
      let list = ap (λ (b : Seen). b.list) does.1 in
      let new = new-item (record book.bench.list { promised = book.bench.list.promised + length drops }) drops item
      has in
      let one = one_number done.bench.list.items
      (numbered-made book.bench done.bench whole.numbered (Op user op names) (Heard answer) fits does).rising
      (record item { synced = true }) item now (subst (λ l. Contains l.items item) (sym list) new.has) refl in
      apart (ap (λ (i : Item). i.synced) one ∙ new.unsynced)
    where
      apart : true ≡ false → ⊥
      apart e = cc
  new-unsynced call (Heard answer) fits does done_it item has now = absurd (Contains-none item has)
  new-unsynced call (Failed device) fits does done_it item has now = cc

  -- how far the command came with what the call listed besides
  order-now : (drops : List Blob) (done : Bool)
      → (done ≡ true → (item : Item) → Contains (items_from next drops) item → IsUnsynced then.list item)
      → InOrder then.list (with_more done (more_owed it.owed next drops) it.owed).items
  order-now [] true unsynced = still.order
  order-now [] false unsynced = still.order
  order-now (blob ∷ blobs) true unsynced =
      order-more then.list next (blob ∷ blobs) (unsynced refl) it.owed.items below still.order
  order-now (blob ∷ blobs) false unsynced = still.order

  more-tried : (drops : List Blob)
      → (did ≡ true → (item : Item) → Contains (items_from next drops) item → IsUnsynced then.list item)
      → HasTried then before (with_more did (more_owed it.owed next drops) it.owed)
  more-tried drops unsynced =
      let same = from-more did next drops it.owed in record {
        reached = let reached = still.reached in omega (arith, same, reached);
        order = order-now drops did unsynced;
        ended = λ all item has low. elim (more-from next did drops it.owed item has) [
          | inl old ↦ still.ended all item old (omega (arith, low, same))
          | inr new ↦
              let above = from-next next drops item new.1 in
              let reached = was.reached in absurd (omega (arith, low, same, above, reached))
        ];
      }

  -- a delete
  module _ (item : Item) (tells : Bool) (fits : Fits book.bench (Delete item tells))
      (is_made : IsMade book.bench done.bench (Delete item tells) (Ok done.made))
      (shows : TaskShows ground done.plans.on.began (due_to book it) done.making.task
      (CallNext (Delete item tells) done.making.change)) where
    deleting : Deleting book it done.plans.on.began item tells
    deleting = is-deleting book it done.plans.on.began done.making.task item tells done.making.change shows

    due : IsDue book.bench.list it.owed.from it.owed.items item
    due = due-listed book.bench.list whole.numbered it.owed item deleting.is_due

    -- an item that is passed over has ended
    skipped-ended : (other : Item) → Contains it.owed.items other → it.owed.from ≤ other.number
        → other.number < item.number → IsEnded then other
    skipped-ended other has reached low = by owing.2.stands
      where
        owing : (user : ℕ) × (actor ≡ UserActor user) × IsOwing ground user other
        owing = done.plans.on.owes other has

        later : ComesLater book.bench.list other due.own
        later = in-order book.bench.list it.owed.items was.order other due.own has due.among
            (let same = due.same in omega (arith, same, low))

        own_synced : Contains book.bench.list.items (record due.own { synced = true })
        own_synced = subst (Contains book.bench.list.items) (λ i. record {
          number = due.same i;
          blob = due-blob book whole actor it done.plans.on due i;
          synced = due.synced i;
        }) due.listed

        waiting : (synced : Bool) → Contains book.bench.list.items (record other { synced = synced }) → ⊥
        waiting true there = none-synced book.bench.list whole.numbered other.number
            (none-before book.bench.list whole.numbered it.owed.from it.owed.items item was.order deleting.is_due other
            has reached low) (record other { synced = true }) there refl refl
        waiting false there = later.synced own_synced there

        by : IsWaiting ground owing.0 other ⊎ IsEnded ground other → IsEnded then other
        by (inl waits) = absurd (waiting waits.synced waits.has)
        by (inr ended) = ended-on ground then other carries owing.2.numbered owing.2.given ended

    -- one whose entry was deleted has
    deleted-ended : (made : Made) → IsMade book.bench done.bench (Delete item tells) (Ok made) → was_done made ≡ true
        → (other : Item) → Contains it.owed.items other → other.number ≡ item.number → IsEnded then other
    deleted-ended (Heard answer) does done_it other has same = by owing.2.stands
      where
        owing : (user : ℕ) × (actor ≡ UserActor user) × IsOwing ground user other
        owing = done.plans.on.owes other has

        by : IsWaiting ground owing.0 other ⊎ IsEnded ground other → IsEnded then other
        by (inl waits) =
            let one = one_number book.bench.list.items whole.numbered.rising (record other { synced = waits.synced })
            item waits.has fits.0 same in record {
              gone = ap (λ (b : Seen). entry_of b.store.entries other.blob) does.1
                  ∙ ap (entry_of (without book.bench.store.entries item.blob)) (ap (λ (i : Item). i.blob) one)
                  ∙ entry-without_same book.bench.store.entries item.blob;
              taken = λ left there is. taken-apart book.bench.list.items item.number left
                  (subst (λ (b : Seen). Contains b.list.items left) does.1 there) (is ∙ same);
            }
        by (inr ended) = absurd (ended.taken item fits.0 (sym same))
    deleted-ended (Failed device) fails done_it other has same = cc

    -- where the command goes on and would tell that a delete failed, this one was done
    was-deleted : WentOn command (Delete item tells) done.made done.making.task → did ≡ true
    was-deleted went = elim went.did [
      | inl done_it ↦ done_it
      | inr untold ↦ absurd (told tells (deleting.telling ∙ telling-all command done.making.task went.before) untold)
    ]
      where
        told : (tells : Bool) → tells ≡ true → is_untold (Delete item tells) ≡ true → ⊥
        told true is untold = cc
        told false is untold = cc

    passed-ended : WentOn command (Delete item tells) done.made done.making.task → (other : Item)
        → Contains it.owed.items other → other.number < item.number + 1 → IsEnded then other
    passed-ended went other has low = elim (cases_lt other.number it.owed.from) [
      | inl passed ↦ still.ended went.before other has passed
      | inr reached ↦ elim (cases_lt other.number item.number) [
        | inl lower ↦ skipped-ended other has reached lower
        | inr least ↦
            deleted-ended done.made is_made (was-deleted went) other has (omega (arith, low, least))
      ]
    ]

    delete-tried : TaskAfter (Delete item tells) done.made done.making.task done.making.then
        → HasTried then (ends_passed command done.making.then)
        (owed_after book.bench.places next (Delete item tells) did it.owed)
    delete-tried after =
        let more = more-tried [] (λ done_it other has. absurd (Contains-none other has)) in record {
          reached =
              let given = listed-below book.bench.list item whole.numbered fits.0 in
              let grows = carries.next in omega (arith, given, grows);
          order = more.order;
          ended = λ ends other has low.
              let went = went-on command (Delete item tells) done.made done.making.task done.making.then after ends in
              elim (more-from next did [] it.owed other has) [
                | inl old ↦ passed-ended went other old low
                | inr new ↦ absurd (Contains-none other new.1)
              ];
        }

  -- where it goes on, it went on before
  went-tried : (call : Call) (owed : Owed) → TaskAfter call done.made done.making.task done.making.then
      → HasTried then before owed → HasTried then (ends_passed command done.making.then) owed
  went-tried call owed after tried = record {
    reached = tried.reached;
    order = tried.order;
    ended = λ ends.
        tried.ended (went-on command call done.made done.making.task done.making.then after ends).before;
  }

  pub own-tried : HasTried then (ends_passed command done.making.then)
      (owed_after book.bench.places next done.making.call did it.owed)
  own-tried = by done.making.call done.fits done.is_made done.plans.shows done.after
    where
      by : (call : Call) → Fits book.bench call → IsMade book.bench done.bench call (Ok done.made)
          → TaskShows ground done.plans.on.began (due_to book it) done.making.task (CallNext call done.making.change)
          → TaskAfter call done.made done.making.task done.making.then
          → HasTried then (ends_passed command done.making.then) (owed_after book.bench.places next call did it.owed)
      by (Delete item tells) fits is_made shows after = delete-tried item tells fits is_made shows after
      by call fits is_made shows after = went-tried call
          (with_more did (more_owed it.owed next (drops_of book.bench.places call)) it.owed) after
          (more-tried (drops_of book.bench.places call) (new-unsynced call done.made fits is_made))
