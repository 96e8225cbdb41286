-- What a call leaves of the list, of the keystore's entries, and of whether changes are durable, as far as what
-- commands owe rests on it.
use Rattle.std.proofs.Common.{◌≡◌, ◌≢◌, ◌⊎◌, ◌<◌, ◌≤◌, ℕ, ◌+◌, inl, inr, Bool, true, false}
use Rattle.std.proofs.Common.{List, [], ◌∷◌, ◌++◌, length, refl}
use Rattle.std.proofs.Common.{sym, ap, ◌∙◌, subst, arith, length-append, drop}
use Rattle.std.proofs.lemmas.Bool.{cases_eq}
use Rattle.std.proofs.lemmas.List.{append-nil, drop-append-le}
use Rattle.std.proofs.lemmas.List.Elements.{Contains-append_left, Contains-push_cases}
use Rattle.std.proofs.lemmas.Option.{none-some}
use Rattle.std.specs.Prelude.{Option, Some, None, Ok, Contains}
use Rattle.tree_model.specs.declared.blobs.Blob.{Blob}
use Rattle.tree_model.specs.declared.sites.LocalOp.{LocalOp}
use Rattle.deferred_delete.specs.declared.items.Item.{Item}
use Rattle.deferred_delete.specs.Deferral.{Deferral, pushed, noted, now_synced, taken}
use Rattle.journal_model.specs.declared.commands.Actor.{Actor}
use Rattle.journal_model.specs.declared.entries.Change.{Change}
use Rattle.journal_model.specs.Machine.{NoChangeOf}
use Rattle.keystore_model.specs.declared.entry.StoreEntry.{StoreEntry}
use Rattle.keystore_model.specs.declared.entry.Tag.{Tag}
use Rattle.keystore_model.specs.Store.{IsGenerated, entry_of, without, deleted}
use Rattle.keystore_model.proofs.Elements.{Contains-first, Contains-rest}
use Rattle.keystore_model.proofs.Stores.{decide-bytes, entry-push_other, entry-without_same, entry-without_other}
use Rattle.blob_custody.specs.Steps.{pushed_all}
use Rattle.blob_custody.proofs.Listed.{one_number, taken-keeps, taken-there, taken-apart}
use Rattle.blob_custody.proofs.Lists.{map-has, map-from}
use Rattle.user_world.specs.declared.changes.LocalChange.{LocalChange}
use Rattle.user_world.specs.Changes.{change_of, if_noted}
use Rattle.user_world.specs.Timelines.{world_of}
use Rattle.user_world.specs.Worlds.{changes_of}
use Rattle.task_turns.specs.declared.calls.Answer.{Answer}
use Rattle.task_turns.specs.declared.calls.Call.{Call}
use Rattle.task_turns.specs.declared.calls.Call.TheVariants.{Op as OpCall, Sync, Generate, Encrypt, Decrypt}
use Rattle.task_turns.specs.declared.calls.Call.TheVariants.{List as ListCall, Read, Entries, Add, Remove, Delete}
use Rattle.bench.specs.declared.made.Made.{Made}
use Rattle.bench.specs.declared.made.Made.TheVariants.{Heard, Failed}
use Rattle.bench.specs.Bench.{Plain as Seen, Fits, Does, IsMade, listed_as, dropped}
use Rattle.bench.proofs.Failures.{failed-leaves}
use Rattle.vold_book.specs.declared.tasks.Task.{Task}
use Rattle.vold_book.specs.Entries.{changed_entry, machine_with}
use Rattle.vold_book.specs.Owed.{Owed}
use Rattle.vold_book.specs.Owing.{IsEnded, IsOwing, OwesOwn, ComesLater, InOrder, HasTried}
use Rattle.vold_book.specs.State.{Plain, Ground, AllDurable, machine_of, ground_of}
use Rattle.vold_book.specs.Whole.{Whole}
use Rattle.vold_book.proofs.Moves.{After, after_of, machine_then, ground_then}

-- an item is listed still, and not synced only where it wasn't, and where no change came to be durable
pub record IsStill (before after : Ground) (item : Item) : Type 0 where
  pub now : Item
  pub has : Contains after.list.items now
  pub number : now.number ≡ item.number
  pub blob : now.blob ≡ item.blob
  pub unsynced : now.synced ≡ false
      → (item.synced ≡ false) × ((user : ℕ) → ¬ (AllDurable before.line user) → ¬ (AllDurable after.line user))

-- an item with a number that was given before was listed as it is; and each item is synced
abbrev pub KeepsSynced : Deferral → Deferral → Type 0
KeepsSynced before after = (now : Item) → Contains after.items now → now.number < before.next
    → Contains before.items now

abbrev pub AllSynced : Deferral → Type 0
AllSynced list = (now : Item) → Contains list.items now → now.synced ≡ true

-- each item is listed still, or its blob has no entry any more; and no blob that was given once gets an entry
pub record Carries (before after : Ground) : Type 0 where
  pub next : before.list.next ≤ after.list.next
  pub given : (blob : Blob) → Contains before.given blob → Contains after.given blob
  pub swept : (blob : Blob) → Contains before.given blob → entry_of before.vault.entries blob ≡ None
      → entry_of after.vault.entries blob ≡ None
  pub tagged : (blob : Blob) (entry : StoreEntry) → Contains before.given blob
      → entry_of after.vault.entries blob ≡ Some entry
      → entry_of before.vault.entries blob ≡ Some entry
  pub items : (item : Item) → Contains before.list.items item → IsStill before after item ⊎ IsEnded after item
  -- an item with a number that was given before was listed before
  pub old : (now : Item) → Contains after.list.items now → now.number < before.list.next
      → (was : Item) × Contains before.list.items was × (was.number ≡ now.number)
  -- and as it is, unless a sync came
  pub alike : KeepsSynced before.list after.list ⊎ AllSynced after.list

-- of an item that a command listed
pub ended-on : (before after : Ground) (item : Item) → Carries before after → item.number < before.list.next
    → Contains before.given item.blob → IsEnded before item → IsEnded after item
ended-on before after item carries numbered given ended = record {
  gone = carries.swept item.blob given ended.gone;
  taken = λ other has same.
      let was = carries.old other has (omega (arith, numbered, same)) in ended.taken was.0 was.1 (was.2 ∙ same);
}

pub owing-on : (before after : Ground) (user : ℕ) (item : Item) → Carries before after → IsOwing before user item
    → IsOwing after user item
owing-on before after user item carries owing = record {
  numbered = let n = owing.numbered in let m = carries.next in omega (arith, n, m);
  given = carries.given item.blob owing.given;
  stands = elim owing.stands [
    | inl waits ↦ elim (carries.items (record item { synced = waits.synced }) waits.has) [
      | inl still ↦ inl (record {
        synced = still.now.synced;
        has = subst (Contains after.list.items)
            (λ i. record { number = still.number i; blob = still.blob i; synced = still.now.synced }) still.has;
        unsynced = λ off. let was = still.unsynced off in was.1 user (waits.unsynced was.0);
      })
      | inr ended ↦ inr (record { gone = ended.gone; taken = ended.taken })
    ]
    | inr ended ↦ inr (ended-on before after item carries owing.numbered owing.given ended)
  ];
  tagged = λ entry live. owing.tagged entry (carries.tagged item.blob entry owing.given live);
}

-- what a command listed stays in order, and what it passed has ended still
later-on : (before after : Ground) (early late : Item) → Carries before after → early.number < before.list.next
    → late.number < before.list.next → ComesLater before.list early late → ComesLater after.list early late
later-on before after early late carries early_below late_below comes = record {
  higher = comes.higher;
  synced = λ now has. elim carries.alike [
    | inl same ↦ comes.synced (same (record late { synced = true }) now late_below)
        (same (record early { synced = false }) has early_below)
    | inr all ↦ apart (all (record early { synced = false }) has)
  ];
}
  where
    apart : false ≡ true → ⊥
    apart e = cc

order-on : (before after : Ground) → Carries before after → (items : List Item)
    → ((item : Item) → Contains items item → item.number < before.list.next)
    → InOrder before.list items → InOrder after.list items
order-on before after carries [] below order = tt
order-on before after carries (item ∷ items) below order = (
  λ later has. later-on before after item later carries (below item (Contains-first item items))
      (below later (Contains-rest item items later has)) (order.0 later has),
  order-on before after carries items (λ later has. below later (Contains-rest item items later has)) order.1,
)

pub tried-on : (before after : Ground) (actor : Actor) (ends : Bool) (owed : Owed) → Carries before after
    → OwesOwn before actor owed → HasTried before ends owed → HasTried after ends owed
tried-on before after actor ends owed carries owes tried = record {
  reached = let reached = tried.reached in let next = carries.next in omega (arith, reached, next);
  order = order-on before after carries owed.items (λ item has. (owes item has).2.numbered) tried.order;
  ended = λ all item has low.
      let own = (owes item has).2 in
      ended-on before after item carries own.numbered own.given (tried.ended all item has low);
}

-- changes with more behind them have one of a user's where they had one, or where these have
pub front : (user : ℕ) (changes more : List Change) → NoChangeOf user (changes ++ more) → NoChangeOf user changes
front user [] more none = tt
front user (change ∷ changes) more none = (none.0, front user changes more none.1)

pub back : (user : ℕ) (changes more : List Change) → NoChangeOf user (changes ++ more) → NoChangeOf user more
back user [] more none = none
back user (change ∷ changes) more none = back user changes more none.1

pub joined : (user : ℕ) (changes more : List Change) → NoChangeOf user changes → NoChangeOf user more
    → NoChangeOf user (changes ++ more)
joined user [] more none no_more = no_more
joined user (change ∷ changes) more none no_more = (none.0, joined user changes more none.1 no_more)

-- items that are pushed come behind those that are there, with rising numbers
pub pushed-behind : (list : Deferral) (blobs : List Blob) (synced : Bool) (item : Item) → Contains list.items item
    → Contains (pushed_all list blobs synced).items item
pushed-behind list [] synced item has = has
pushed-behind list (blob ∷ blobs) synced item has = pushed-behind (pushed list blob synced) blobs synced item
    (Contains-append_left list.items (record { number = list.next; blob = blob; synced = synced } ∷ []) item has)

-- an item of the list then was there, or has a number that wasn't given before
pub pushed-old : (list : Deferral) (blobs : List Blob) (synced : Bool) (item : Item)
    → Contains (pushed_all list blobs synced).items item → Contains list.items item ⊎ (list.next ≤ item.number)
pushed-old list [] synced item has = inl has
pushed-old list (blob ∷ blobs) synced item has = elim (pushed-old (pushed list blob synced) blobs synced item has)
    as (λ _. Contains list.items item ⊎ (list.next ≤ item.number)) [
      | inl was ↦ elim (Contains-push_cases list.items (record {
        number = list.next;
        blob = blob;
        synced = synced;
      }) item was) [
        | inl before ↦ inl before
        | inr same ↦ inr (let n = ap (λ (i : Item). i.number) same in omega (arith, n))
      ]
      | inr later ↦ inr (omega (arith, later))
    ]

pub pushed-next : (list : Deferral) (blobs : List Blob) (synced : Bool)
    → (pushed_all list blobs synced).next ≡ list.next + length blobs
pushed-next list [] synced = omega arith
pushed-next list (blob ∷ blobs) synced =
    let rest = pushed-next (pushed list blob synced) blobs synced in omega (arith, rest)

-- the entry of a blob is one that was there before another's was taken out
pub without-found : (entries : List StoreEntry) (gone blob : Blob) (entry : StoreEntry)
    → entry_of (without entries gone) blob ≡ Some entry → entry_of entries blob ≡ Some entry
without-found entries gone blob entry live = elim (decide-bytes blob gone) [
  | inl same ↦ absurd (none-some entry (sym (entry-without_same entries gone)
      ∙ ap (entry_of (without entries gone)) (sym same) ∙ live))
  | inr differ ↦ sym (entry-without_other entries gone blob differ) ∙ live
]

without-none : (entries : List StoreEntry) (gone blob : Blob) → entry_of entries blob ≡ None
    → entry_of (without entries gone) blob ≡ None
without-none entries gone blob none = elim (decide-bytes blob gone) [
  | inl same ↦ ap (entry_of (without entries gone)) same ∙ entry-without_same entries gone
  | inr differ ↦ entry-without_other entries gone blob differ ∙ none
]

module _ (book : Plain) (whole : Whole book) (after : After) where
  abbrev ground : Ground
  ground = ground_of book

  abbrev then : Ground
  then = ground_then book after

  -- no more changes are durable than there are
  pub kept-short : ground.line.kept ≤ length ground.line.log
  kept-short =
      let shows = whole.worlds.shows in
      let kept = shows.is_kept in
      let world = world_of ground.line in
      let log = ap length shows.is_log ∙ length-append world.durable (changes_of world.pending) in
      omega (arith, kept, log)

  -- the changes of which a sync came are the same, and these came behind the others
  pub record Grows (more : List Change) : Type 0 where
    pub kept : then.line.kept ≡ ground.line.kept
    pub log : then.line.log ≡ ground.line.log ++ more

  module _ (more : List Change) (grows : Grows more) where
    seam : drop then.line.kept then.line.log ≡ drop ground.line.kept ground.line.log ++ more
    seam = (λ i. drop (grows.kept i) (grows.log i))
        ∙ drop-append-le ground.line.kept ground.line.log more kept-short

    pub undurable-on : (user : ℕ) → ¬ (AllDurable ground.line user) → ¬ (AllDurable then.line user)
    undurable-on user undone now = undone (front user (drop ground.line.kept ground.line.log) more
        (subst (NoChangeOf user) seam now))

    pub undurable-new : (user : ℕ) → ¬ (NoChangeOf user more) → ¬ (AllDurable then.line user)
    undurable-new user undone now = undone (back user (drop ground.line.kept ground.line.log) more
        (subst (NoChangeOf user) seam now))

    pub durable-on : (user : ℕ) → AllDurable ground.line user → NoChangeOf user more → AllDurable then.line user
    durable-on user was none = subst (NoChangeOf user) (sym seam)
        (joined user (drop ground.line.kept ground.line.log) more was none)

  -- an item of a list that is longer
  still-there : (more : List Change) → Grows more → (item : Item) → Contains after.bench.list.items item
      → IsStill ground then item
  still-there more grows item has = record {
    now = item;
    has = has;
    number = refl;
    blob = refl;
    unsynced = λ off. (off, undurable-on more grows);
  }

  -- the keystore stays
  abbrev KeptItems : Type 0
  KeptItems = (item : Item) → Contains book.bench.list.items item → IsStill ground then item

  abbrev OldItems : Type 0
  OldItems = (now : Item) → Contains after.bench.list.items now → now.number < book.bench.list.next
      → (was : Item) × Contains book.bench.list.items was × (was.number ≡ now.number)

  abbrev AlikeItems : Type 0
  AlikeItems = KeepsSynced book.bench.list after.bench.list ⊎ AllSynced after.bench.list

  same-store : after.bench.store ≡ book.bench.store → book.bench.list.next ≤ after.bench.list.next → KeptItems
      → OldItems → AlikeItems → Carries ground then
  same-store same next items old alike = record {
    next = next;
    given = λ blob has. subst (λ s. Contains s.given blob) (sym same) has;
    swept = λ blob has none. ap (λ s. entry_of s.entries blob) same ∙ none;
    tagged = λ blob entry has live. sym (ap (λ s. entry_of s.entries blob) same) ∙ live;
    items = λ item has. inl (items item has);
    old = old;
    alike = alike;
  }

  old-same : after.bench.list ≡ book.bench.list → OldItems
  old-same list now has low = (now, subst (λ l. Contains l.items now) list has, refl)

  alike-same : after.bench.list ≡ book.bench.list → AlikeItems
  alike-same list = inl (λ now has low. subst (λ l. Contains l.items now) list has)

  -- so does the list, or it grows
  same-list : (more : List Change) → Grows more → after.bench.store ≡ book.bench.store
      → after.bench.list ≡ book.bench.list → Carries ground then
  same-list more grows same list = same-store same (let n = ap (λ l. l.next) list in omega (arith, n))
      (λ item has. still-there more grows item (subst (λ l. Contains l.items item) (sym list) has)) (old-same list)
      (alike-same list)

  longer-list : (more : List Change) → Grows more → after.bench.store ≡ book.bench.store → (blobs : List Blob)
      (synced : Bool) → after.bench.list ≡ listed_as synced book.bench.list blobs → Carries ground then
  longer-list more grows same blobs synced list = same-store same
      (let n = ap (λ l. l.next) list ∙ pushed-next (record book.bench.list {
        promised = book.bench.list.promised + length blobs;
      }) blobs synced in omega (arith, n))
      (λ item has. still-there more grows item (subst (λ l. Contains l.items item) (sym list)
      (pushed-behind (record book.bench.list { promised = book.bench.list.promised + length blobs }) blobs synced item
      has)))
      (λ now has low. (now, was now has low, refl)) (inl was)
    where
      was : KeepsSynced book.bench.list after.bench.list
      was now has low = elim (pushed-old (record book.bench.list {
        promised = book.bench.list.promised + length blobs;
      }) blobs synced now (subst (λ l. Contains l.items now) list has)) [
        | inl before ↦ before
        | inr later ↦ absurd (omega (arith, low, later))
      ]

  -- a sync
  synced-list : after.bench.store ≡ book.bench.store
      → after.bench.list ≡ record book.bench.list { items = noted book.bench.list.items } → Carries ground then
  synced-list same list = same-store same (let n = ap (λ l. l.next) list in omega (arith, n)) (λ item has. record {
    now = record item { synced = true };
    has = subst (λ l. Contains l.items (record item { synced = true })) (sym list)
        (map-has now_synced book.bench.list.items item has);
    number = refl;
    blob = refl;
    unsynced = λ off. absurd (apart off);
  }) (λ now has low.
      let was = map-from now_synced book.bench.list.items now (subst (λ l. Contains l.items now) list has) in
      (was.0, was.1.0, ap (λ (i : Item). i.number) was.1.1))
      (inr (λ now has.
      let was = map-from now_synced book.bench.list.items now (subst (λ l. Contains l.items now) list has) in
      sym (ap (λ (i : Item). i.synced) was.1.1)))
    where
      apart : true ≡ false → ⊥
      apart e = cc

  -- an entry of a fresh blob
  module _ (tag : Tag) (app_id : List ℕ) (fresh : Blob)
      (made : IsGenerated book.bench.store after.bench.store tag app_id fresh) where
    differs : (blob : Blob) → Contains book.bench.store.given blob → blob ≢ fresh
    differs blob has same = made.fresh (subst (Contains book.bench.store.given) same has)

    same-entry : (blob : Blob) → Contains book.bench.store.given blob
        → entry_of after.bench.store.entries blob ≡ entry_of book.bench.store.entries blob
    same-entry blob has = ap (λ s. entry_of s.entries blob) made.made
        ∙ entry-push_other book.bench.store.entries _ blob (differs blob has)

    generated-list : (more : List Change) → Grows more → after.bench.list ≡ book.bench.list → Carries ground then
    generated-list more grows list = record {
      next = let n = ap (λ l. l.next) list in omega (arith, n);
      given = λ blob has. subst (λ s. Contains s.given blob) (sym made.made)
          (Contains-append_left book.bench.store.given (fresh ∷ []) blob has);
      swept = λ blob has none. same-entry blob has ∙ none;
      tagged = λ blob entry has live. sym (same-entry blob has) ∙ live;
      items = λ item has. inl (still-there more grows item (subst (λ l. Contains l.items item) (sym list) has));
      old = old-same list;
      alike = alike-same list;
    }

  -- the entry of an item is deleted
  module _ (item : Item) (there : Contains book.bench.list.items item)
      (store : after.bench.store ≡ deleted book.bench.store item.blob)
      (list : after.bench.list ≡ record book.bench.list { items = taken book.bench.list.items item.number }) where
    abbrev IsLeft : Item → Type 0
    IsLeft other = IsStill ground then other ⊎ IsEnded then other

    left-item : (more : List Change) → Grows more → (other : Item) → Contains book.bench.list.items other
        → (other.number ≡ item.number) ⊎ (other.number ≢ item.number) → IsLeft other
    left-item more grows other has (inl same) =
        let one = one_number book.bench.list.items whole.numbered.rising other item has there same in
        inr (record {
          gone = ap (λ s. entry_of s.entries other.blob) store
              ∙ ap (entry_of (without book.bench.store.entries item.blob)) (ap (λ (i : Item). i.blob) one)
              ∙ entry-without_same book.bench.store.entries item.blob;
          taken = λ left there_still is. taken-apart book.bench.list.items item.number left
              (subst (λ l. Contains l.items left) list there_still) (is ∙ same);
        })
    left-item more grows other has (inr differ) = inl (still-there more grows other
        (subst (λ l. Contains l.items other) (sym list)
        (taken-keeps book.bench.list.items item.number other has differ)))

    deleted-list : (more : List Change) → Grows more → Carries ground then
    deleted-list more grows = record {
      next = let n = ap (λ l. l.next) list in omega (arith, n);
      given = λ blob has. subst (λ s. Contains s.given blob) (sym store) has;
      swept = λ blob has none. ap (λ s. entry_of s.entries blob) store
          ∙ without-none book.bench.store.entries item.blob blob none;
      tagged = λ blob entry has live. without-found book.bench.store.entries item.blob blob entry
          (sym (ap (λ s. entry_of s.entries blob) store) ∙ live);
      items = λ other has. left-item more grows other has (cases_eq other.number item.number);
      old = λ now has low. (now, there-before now has, refl);
      alike = inl (λ now has low. there-before now has);
    }
      where
        there-before : (now : Item) → Contains after.bench.list.items now → Contains book.bench.list.items now
        there-before now has =
            taken-there book.bench.list.items item.number now (subst (λ l. Contains l.items now) list has)

-- a call, done or failed
module _ (book : Plain) (whole : Whole book) (number : ℕ) (change : Option LocalChange) (task : Task)
    (bench : Seen) where
  abbrev after_call : Call → Made → After
  after_call call made = after_of book number call change task made bench

  -- no change comes with it
  pub quiet : (call : Call) (made : Made)
      → (machine_then book (after_call call made)).kept ≡ (machine_of book).kept
      → (machine_then book (after_call call made)).log ≡ (machine_of book).log
      → Grows book whole (after_call call made) []
  quiet call made kept log = record { kept = kept; log = log ∙ sym (append-nil (machine_of book).log) }

  -- that of an operation does
  pub op-grows : (user : ℕ) (op : LocalOp) (names : Option Blob) (answer : Answer)
      → Grows book whole (after_call (OpCall user op names) (Heard answer)) (if_noted change (change_of user) [])
  op-grows user op names answer = record { kept = kept-by change; log = log-by change }
    where
      kept-by : (note : Option LocalChange)
          → (machine_with book.ledger.entries (machine_of book) (changed_entry number user note)).kept
          ≡ (machine_of book).kept
      kept-by None = refl
      kept-by (Some noted) = refl

      log-by : (note : Option LocalChange)
          → (machine_with book.ledger.entries (machine_of book) (changed_entry number user note)).log
          ≡ (machine_of book).log ++ if_noted note (change_of user) []
      log-by None = sym (append-nil (machine_of book).log)
      log-by (Some noted) = refl

  done : (call : Call) (answer : Answer) → Fits book.bench call → Does book.bench bench call answer
      → Carries (ground_of book) (ground_then book (after_call call (Heard answer)))
  done (OpCall user op names) answer fits does =
      longer-list book whole (after_call (OpCall user op names) (Heard answer)) (if_noted change (change_of user) [])
      (op-grows user op names answer)
      (ap (λ b. b.store) does.1) (dropped book.bench.places user op) false (ap (λ b. b.list) does.1)
  done Sync answer fits does = synced-list book whole (after_call Sync (Heard answer)) (ap (λ b. b.store) does.1)
      (ap (λ b. b.list) does.1)
  done ListCall answer fits does = same-list book whole (after_call ListCall (Heard answer)) []
      (quiet ListCall (Heard answer) refl refl)
      (ap (λ b. b.store) does.2) (ap (λ b. b.list) does.2)
  done (Read place) answer fits does = same-list book whole (after_call (Read place) (Heard answer)) []
      (quiet (Read place) (Heard answer) refl refl)
      (ap (λ b. b.store) does.3) (ap (λ b. b.list) does.3)
  done (Generate tag app_id) answer fits does =
      generated-list book whole (after_call (Generate tag app_id) (Heard answer)) tag app_id does.0 does.2 []
      (quiet (Generate tag app_id) (Heard answer) refl refl) (ap (λ b. b.list) does.3)
  done (Encrypt blob app_id nonce key) answer fits does = same-list book whole
      (after_call (Encrypt blob app_id nonce key) (Heard answer)) []
      (quiet (Encrypt blob app_id nonce key) (Heard answer) refl refl) (ap (λ b. b.store) does.1)
      (ap (λ b. b.list) does.1)
  done (Decrypt blob app_id text) answer fits does = same-list book whole
      (after_call (Decrypt blob app_id text) (Heard answer)) []
      (quiet (Decrypt blob app_id text) (Heard answer) refl refl) (ap (λ b. b.store) does.1) (ap (λ b. b.list) does.1)
  done Entries answer fits does = longer-list book whole (after_call Entries (Heard answer)) []
      (quiet Entries (Heard answer) refl refl)
      (ap (λ b. b.store) does.1.2) does.1.0 true (ap (λ b. b.list) does.1.2)
  done (Delete item tells) answer fits does =
      deleted-list book whole (after_call (Delete item tells) (Heard answer)) item fits.0 (ap (λ b. b.store) does.1)
      (ap (λ b. b.list) does.1) [] (quiet (Delete item tells) (Heard answer) refl refl)
  done (Add user class key) answer fits does = same-list book whole (after_call (Add user class key) (Heard answer)) []
      (quiet (Add user class key) (Heard answer) refl refl) (ap (λ b. b.store) does.1) (ap (λ b. b.list) does.1)
  done (Remove user class) answer fits does = same-list book whole (after_call (Remove user class) (Heard answer)) []
      (quiet (Remove user class) (Heard answer) refl refl) (ap (λ b. b.store) does.1) (ap (λ b. b.list) does.1)

  pub carried : (call : Call) (made : Made) → Fits book.bench call → IsMade book.bench bench call (Ok made)
      → Carries (ground_of book) (ground_then book (after_call call made))
  carried call (Heard answer) fits is_made = done call answer fits is_made
  carried call (Failed device) fits is_made =
      let left = failed-leaves book.bench bench call is_made.1 in
      same-list book whole (after_call call (Failed device)) [] (quiet call (Failed device) refl refl)
      (ap (λ b. b.store) left) (ap (λ b. b.list) left)
