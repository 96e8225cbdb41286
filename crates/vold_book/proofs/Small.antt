-- How much a Book holds stays within what the numbers that were given out allow, through each turn, stop and restart.
use Rattle.std.proofs.Common.{◌≡◌, ℕ, ◌+◌, ◌*◌, ◌≤◌, Bool, List, [], ◌∷◌, ◌++◌, length, length-append}
use Rattle.std.proofs.Common.{true, mul-add, mul-one, refl, sym, ap, ◌∙◌, subst, arith, false, not}
use Rattle.std.proofs.lemmas.List.{length-map}
use Rattle.std.specs.Prelude.{Option, Some, None, Ok}
use Rattle.std.specs.FinMap as map
use Rattle.tree_model.specs.declared.blobs.Blob.{Blob}
use Rattle.tree_model.specs.declared.ops.Cut.{Cut}
use Rattle.tree_model.specs.declared.sites.LocalOp.{LocalOp}
use Rattle.tree_model.specs.declared.sites.LocalOp.TheVariants.{MakeDir, Write, RenameFile}
use Rattle.tree_model.specs.declared.sites.LocalOp.TheVariants.{RenameDir, RemoveFile, RemoveDir}
use Rattle.tree_model.specs.Dir.{Files}
use Rattle.tree_model.specs.Disk.{with_op, stopped}
use Rattle.tree_model.specs.Order.{place_cmp}
use Rattle.tree_model.specs.Sites.{op_of}
use Rattle.tree_model.specs.Tree.{Tree}
use Rattle.journal_model.specs.declared.commands.Actor.{Actor}
use Rattle.journal_model.specs.declared.commands.Actor.TheVariants.{Boot}
use Rattle.journal_model.specs.declared.commands.Command.{Command}
use Rattle.journal_model.specs.declared.commands.Command.TheVariants.{Recover}
use Rattle.journal_model.specs.declared.commands.Reply.{Reply}
use Rattle.journal_model.specs.Command.{actor_of, user_in}
use Rattle.journal_model.specs.Actor.{actor_cmp, actor_total, actor_exact}
use Rattle.sorted_map.specs.Sums.{total_by}
use Rattle.sorted_map.proofs.Sums.{worth, sum-insert, sum-remove, worth-length}
use Rattle.docket.specs.Docket.{after_begin as docket_begun, with_command as docket_with, with_first_command}
use Rattle.docket.specs.Docket.{with_queue, queue_of, empty_docket}
use Rattle.docket.proofs.Accounts.{sum-left, sum-empty}
use Rattle.deferred_delete.specs.Deferral.{Deferral}
use Rattle.keystore_model.specs.Store.{blobs_of, new_entry, empty_store, same_bytes, without}
use Rattle.blob_custody.specs.Custody.{IsLeft}
use Rattle.user_world.specs.Turns.{adds_local}
use Rattle.task_turns.specs.declared.calls.Answer.{Answer}
use Rattle.task_turns.specs.declared.calls.Call.{Call}
use Rattle.task_turns.specs.declared.calls.Call.TheVariants.{Op as OpCall, Sync, List as ListCall, Read, Delete}
use Rattle.task_turns.specs.declared.calls.Call.TheVariants.{Generate, Encrypt, Decrypt, Entries, Add, Remove}
use Rattle.task_turns.specs.Turns.{cost_of}
use Rattle.bench.specs.declared.made.Made.{Made}
use Rattle.bench.specs.declared.made.Made.TheVariants.{Heard, Failed}
use Rattle.bench.specs.Bench.{Plain as Seen, Rests, IsFailedOp, IsFailed, dropped}
use Rattle.bench.specs.Bench.{Does, IsMade, listed, listed_as}
use Rattle.vold_book.specs.declared.opened.Opened.{Opened}
use Rattle.vold_book.specs.declared.tasks.Running.{Running}
use Rattle.vold_book.specs.declared.tasks.Task.{Task}
use Rattle.vold_book.specs.declared.tasks.Task.TheVariants.{User as Using, Recovery as Recovers, Refusal, Fault}
use Rattle.vold_book.specs.State.{Docket, Plain}
use Rattle.vold_book.specs.Stops.{after_stop, after_restart}
use Rattle.vold_book.specs.Tasks.{lists_with}
use Rattle.vold_book.specs.Turns.{Start, FirstTask, AcceptedTask, Making, new_book, after_call, with_command, unlisted}
use Rattle.vold_book.specs.Recovery.{max_commands, max_places}
use Rattle.vold_book.specs.Whole.{most_listed, within, makes_in, draws_in, lists_in, makes_of}
use Rattle.vold_book.specs.Whole.{draws_of, lists_of, IsSmall}
use Rattle.vold_book.proofs.Plains.{Beginning, begun_plain, begun_seen, work_of, replied_plain}
use Rattle.vold_book.proofs.Shown.{CallFalls, cost_made, drops_made, finds_made, finds_done, lists-told}
use Rattle.vold_book.proofs.Sizes.{Exceeds, exceeds-none, exceeds-op, exceeds-synced, exceeds-stopped}
use Rattle.vold_book.proofs.Sizes.{left-still}
use Rattle.vold_book.proofs.Bounds.{small-bounds}
use Rattle.vold_book.proofs.Moves.{Notes}
use Rattle.keystore_model.specs.declared.entry.StoreEntry.{StoreEntry}
use Rattle.vold_book.specs.Owed.{drops_of}
use Rattle.std.proofs.lemmas.List.Sums.{length-filter, count_by-le-length}
use Rattle.bench.proofs.Pushed.{listed_as-nothing, pushed_all-promised}
use Rattle.vold_book.proofs.Carried.{pushed-next}
use Rattle.vold_book.specs.Slots.{slots_for, slots_of}
use Rattle.vold_book.proofs.Numbering.{few-unnamed}

-- so many times one more
one-more : (each n m : ℕ) → n + 1 ≡ m → each * n + each ≡ each * m
one-more each n m is =
    sym (mul-add each n 1 ∙ ap (λ k. each * n + k) (mul-one each)) ∙ ap (λ k. each * k) is

-- a bound in the numbers that were given out, through what each step does to a docket
module _ (docket : Docket) (each : ℕ) (of : Running → ℕ) (made : ℕ) (few : within docket each of made) where
  within-set : (actor : Actor) (it it' : Running) (made' : ℕ) → map.get docket.running actor ≡ Some it
      → made' + of it' ≤ made + of it
      → within (record docket { running = map.insert docket.running actor it' }) each of made'
  within-set actor it it' made' runs less =
      let s = sum-insert actor_total of docket.running actor it' in
      let w = ap (worth of) runs in
      omega (arith, s, w, less, few)

  within-removed : (actor : Actor) (it : Running) (made' : ℕ) → map.get docket.running actor ≡ Some it
      → made' ≤ made + of it
      → within (record docket { running = map.remove docket.running actor }) each of made'
  within-removed actor it made' runs less =
      let s = sum-remove actor_total of actor_exact docket.running actor in
      let w = ap (worth of) runs in
      omega (arith, s, w, less, few)

  within-stopped : within (record docket { running = map.empty }) each of made
  within-stopped = let none = sum-empty actor_cmp of in omega (arith, none, few)

  within-less : (made' : ℕ) → made' ≤ made → within docket each of made'
  within-less made' less = omega (arith, less, few)

  within-begun : (actor : Actor) (number : ℕ) (numbers : List ℕ) (work : Running)
      → map.get docket.waiting actor ≡ Some (number ∷ numbers) → of work ≤ each
      → within (docket_begun docket actor numbers work) each of made
  within-begun actor number numbers work queue less =
      let q = sum-left actor_total actor_exact docket.waiting actor number numbers queue in
      let s = sum-insert actor_total of docket.running actor work in
      let one = one-more each (total_by length (map.values (with_queue docket.waiting actor numbers)))
      (total_by length (map.values docket.waiting)) q in
      omega (arith, s, one, less, few)

  -- a command gets its number, and waits in its actor's queue
  within-queued : (actor : Actor) (command : Command) (queue : List ℕ)
      → length queue ≡ length (queue_of docket.waiting actor) + 1
      → within (record docket {
        commands = docket.commands ++ command ∷ [];
        waiting = map.insert docket.waiting actor queue;
      }) each of made
  within-queued actor command queue long =
      let s = sum-insert actor_total length docket.waiting actor queue in
      let w = worth-length (map.get docket.waiting actor) in
      let waits = one-more each (total_by length (map.values docket.waiting))
      (total_by length (map.values (map.insert docket.waiting actor queue))) (omega (arith, s, w, long)) in
      let given = one-more each (length docket.commands) (length (docket.commands ++ command ∷ []))
      (sym (length-append docket.commands (command ∷ []))) in
      omega (arith, waits, given, few)

-- what is listed takes a number each, and no more promises than it came with
pub listed-next : (synced : Bool) (list : Deferral) (found : List Blob)
    → (listed_as synced list found).next ≡ list.next + length found
listed-next synced list found = pushed-next (record list { promised = list.promised + length found }) found synced

pub listed-promised : (synced : Bool) (list : Deferral) (found : List Blob)
    → (listed_as synced list found).promised ≡ list.promised
listed-promised synced list found =
    let is = pushed_all-promised (record list { promised = list.promised + length found }) found synced in
    omega (arith, is)

-- what a call adds to both devices and to the list
record Adds (before after : Seen) (makes draws lists : ℕ) : Type 0 where
  trees : (left : Tree) → IsLeft after.disk left → Exceeds before.disk makes left
  given : length after.store.given ≤ length before.store.given + draws
  entries : length after.store.entries ≤ length before.store.entries + draws
  next : after.list.next ≤ before.list.next + lists
  promised : after.list.promised ≡ before.list.promised

-- nothing where the disk, the store and the numbers of the list stay
adds-none : (before after : Seen) → after.disk ≡ before.disk → after.store ≡ before.store
    → after.list.next ≡ before.list.next → after.list.promised ≡ before.list.promised
    → Adds before after 0 0 0
adds-none before after disk store next promised = record {
  trees = λ left is. exceeds-none before.disk left (subst (λ d. IsLeft d left) disk is);
  given = let same = ap (λ s. length s.given) store in omega (arith, same);
  entries = let same = ap (λ s. length s.entries) store in omega (arith, same);
  next = omega (arith, next);
  promised = promised;
}

-- an operation
adds-op : (before after : Seen) (user : ℕ) (op : LocalOp) (drops : List Blob)
    → after.disk ≡ with_op before.disk (op_of user op) → after.store ≡ before.store
    → after.list ≡ listed_as false before.list drops → Adds before after (adds_local op) 0 (length drops)
adds-op before after user op drops disk store list = record {
  trees = λ left is. exceeds-op before.disk user op left (subst (λ d. IsLeft d left) disk is);
  given = let same = ap (λ s. length s.given) store in omega (arith, same);
  entries = let same = ap (λ s. length s.entries) store in omega (arith, same);
  next = let same = ap (λ l. l.next) list ∙ listed-next false before.list drops in omega (arith, same);
  promised = ap (λ l. l.promised) list ∙ listed-promised false before.list drops;
}

module _ (before after : Seen) where
  adds-rests : Rests before after → Adds before after 0 0 0
  adds-rests rests =
      adds-none before after (ap (λ b. b.disk) rests) (ap (λ b. b.store) rests) (ap (λ b. b.list.next) rests)
      (ap (λ b. b.list.promised) rests)

  adds-failed_op : (user : ℕ) (op : LocalOp) → IsFailedOp before after user op → Adds before after 0 0 0
  adds-failed_op user (MakeDir site) failed = adds-rests failed
  adds-failed_op user (Write site file bytes) failed =
      adds-op before after user (Write site file failed.0) [] (ap (λ b. b.disk) failed.1) (ap (λ b. b.store) failed.1)
      (ap (λ b. b.list) failed.1 ∙ sym (listed_as-nothing false before.list))
  adds-failed_op user (RenameFile site from to) failed = adds-rests failed
  adds-failed_op user (RenameDir from to) failed = adds-rests failed
  adds-failed_op user (RemoveFile site file) failed = adds-rests failed
  adds-failed_op user (RemoveDir site) failed = adds-rests failed

  adds-failed : (call : Call) → IsFailed before after call → Adds before after 0 0 0
  adds-failed (OpCall user op names) failed = adds-failed_op user op failed
  adds-failed Sync failed = adds-rests failed
  adds-failed ListCall failed = adds-rests failed
  adds-failed (Read place) failed = adds-rests failed
  adds-failed (Generate tag app_id) failed = adds-rests failed
  adds-failed (Encrypt blob app_id nonce key) failed = adds-rests failed
  adds-failed (Decrypt blob app_id text) failed = adds-rests failed
  adds-failed Entries failed = adds-rests failed
  adds-failed (Add user class key) failed = adds-rests failed
  adds-failed (Remove user class) failed = adds-rests failed
  adds-failed (Delete item tells) failed = adds-rests failed

  adds-done : (call : Call) (answer : Answer) → length before.store.entries ≤ max_places
      → Does before after call answer
      → Adds before after (cost_of None call).makes (cost_of None call).draws
      (length (drops_of before.places call) + finds_done call)
  adds-done (OpCall user op names) answer few does =
      let adds = adds-op before after user op (dropped before.places user op) (ap (λ b. b.disk) does.1)
      (ap (λ b. b.store) does.1) (ap (λ b. b.list) does.1) in
      let next = adds.next in record {
        trees = adds.trees;
        given = adds.given;
        entries = adds.entries;
        next = omega (arith, next);
        promised = adds.promised;
      }
  adds-done Sync answer few does = record {
    trees = λ left is. exceeds-synced before.disk left (subst (λ b. IsLeft b.disk left) does.1 is);
    given = let same = ap (λ b. length b.store.given) does.1 in omega (arith, same);
    entries = let same = ap (λ b. length b.store.entries) does.1 in omega (arith, same);
    next = let same = ap (λ b. b.list.next) does.1 in omega (arith, same);
    promised = ap (λ b. b.list.promised) does.1;
  }
  adds-done ListCall answer few does =
      adds-none before after (ap (λ b. b.disk) does.2) (ap (λ b. b.store) does.2) (ap (λ b. b.list.next) does.2)
      (ap (λ b. b.list.promised) does.2)
  adds-done (Read place) answer few does =
      adds-none before after (ap (λ b. b.disk) does.3) (ap (λ b. b.store) does.3) (ap (λ b. b.list.next) does.3)
      (ap (λ b. b.list.promised) does.3)
  adds-done (Generate tag app_id) answer few does = record {
    trees = λ left is. exceeds-none before.disk left (subst (λ b. IsLeft b.disk left) does.3 is);
    given =
        let same = ap (λ s. length s.given) does.2.made in
        omega (arith, same, length-append before.store.given (does.0 ∷ []));
    entries =
        let same = ap (λ s. length s.entries) does.2.made in
        omega (
          arith,
          same,
          length-append before.store.entries
              (new_entry before.store does.0 tag app_id does.2.key ∷ []),
        );
    next = let same = ap (λ b. b.list.next) does.3 in omega (arith, same);
    promised = ap (λ b. b.list.promised) does.3;
  }
  adds-done (Encrypt blob app_id nonce key) answer few does =
      adds-none before after (ap (λ b. b.disk) does.1) (ap (λ b. b.store) does.1) (ap (λ b. b.list.next) does.1)
      (ap (λ b. b.list.promised) does.1)
  adds-done (Decrypt blob app_id text) answer few does =
      adds-none before after (ap (λ b. b.disk) does.1) (ap (λ b. b.store) does.1) (ap (λ b. b.list.next) does.1)
      (ap (λ b. b.list.promised) does.1)
  adds-done (Add user class key) answer few does =
      adds-none before after (ap (λ b. b.disk) does.1) (ap (λ b. b.store) does.1) (ap (λ b. b.list.next) does.1)
      (ap (λ b. b.list.promised) does.1)
  adds-done (Remove user class) answer few does =
      adds-none before after (ap (λ b. b.disk) does.1) (ap (λ b. b.store) does.1) (ap (λ b. b.list.next) does.1)
      (ap (λ b. b.list.promised) does.1)
  adds-done (Delete item tells) answer few does = record {
    trees = λ left is. exceeds-none before.disk left (subst (λ b. IsLeft b.disk left) does.1 is);
    given = let same = ap (λ b. length b.store.given) does.1 in omega (arith, same);
    entries =
        let same : length after.store.entries ≡ length (without before.store.entries item.blob) =
        ap (λ b. length b.store.entries) does.1 in
        let kept = length-filter (λ (entry : StoreEntry). not (same_bytes item.blob entry.blob)) before.store.entries
        in let fewer = count_by-le-length (λ (entry : StoreEntry). not (same_bytes item.blob entry.blob))
        before.store.entries in omega (arith, same, kept, fewer);
    next = let same = ap (λ b. b.list.next) does.1 in omega (arith, same);
    promised = ap (λ b. b.list.promised) does.1;
  }
  adds-done Entries answer few does = record {
    trees = λ left is. exceeds-none before.disk left (subst (λ b. IsLeft b.disk left) does.1.2 is);
    given = let same = ap (λ b. length b.store.given) does.1.2 in omega (arith, same);
    entries = let same = ap (λ b. length b.store.entries) does.1.2 in omega (arith, same);
    next =
        let same = ap (λ b. b.list.next) does.1.2 in
        let more = listed-next true before.list does.1.0 in
        let found = few-unnamed before.places (blobs_of before.store.entries) does.1.0 does.1.1 in
        let all = length-map before.store.entries (λ entry. entry.blob) in
        omega (arith, same, more, found, all, few);
    promised = ap (λ b. b.list.promised) does.1.2 ∙ listed-promised true before.list does.1.0;
  }

  adds-made : (call : Call) (made : Made) → length before.store.entries ≤ max_places
      → IsMade before after call (Ok made)
      → Adds before after (cost_made call made).makes (cost_made call made).draws
      (drops_made before.places call made + finds_made call made)
  adds-made call (Heard answer) few is_made = adds-done call answer few is_made
  adds-made call (Failed device) few is_made = adds-failed call is_made.1

-- the user of the command has no more slots than there are places, and no more of them are to be tried
pub record FewSlots (command : Command) (start : Start) : Type 0 where
  pub tried : length (slots_for start.places command) ≤ max_places
  pub owned : length (slots_of start.places (user_in command)) ≤ max_places

-- what begins makes and lists no more than each number may
first-few : (command : Command) (start : Start) (verdict : Option Reply) (task : Task) → FewSlots command start
    → FirstTask command start verdict task
    → (makes_in task ≤ 2) × (draws_in task ≤ 2) × (lists_in task ≤ most_listed)
first-few command start (Some reply) task slots first =
    let makes = ap makes_in first in
    let draws = ap draws_in first in
    let lists = ap lists_in first in
    (omega (arith, makes), omega (arith, draws), omega (arith, lists))
first-few command start None task slots first = by (user_in command) refl first
  where
    by : (user : Option ℕ) → user_in command ≡ user → AcceptedTask command start user task
        → (makes_in task ≤ 2) × (draws_in task ≤ 2) × (lists_in task ≤ most_listed)
    by (Some user) whose first =
        let makes = ap makes_in first.2 in
        let draws = ap draws_in first.2 in
        let lists = ap lists_in first.2 in
        let few_makes = first.4.makes in
        let few_draws = first.4.draws in
        let few = first.4.few in
        let tried = ap length first.3.to_try in
        let owned = ap length first.3.slots in
        let few_tried = slots.tried in
        let few_owned = slots.owned in (
          omega (arith, makes, few_makes),
          omega (arith, draws, few_draws),
          omega (arith, lists, few, tried, owned, few_tried, few_owned),
        )
    by None whose first =
        let makes = ap makes_in first in
        let draws = ap draws_in first in
        let lists = ap lists_in first in
        (omega (arith, makes), omega (arith, draws), omega (arith, lists))

-- a bench that leaves of a Book's what a bound speaks of
record LeavesSizes (before after : Seen) : Type 0 where
  disk : after.disk ≡ before.disk
  store : after.store ≡ before.store
  next : after.list.next ≡ before.list.next
  promised : after.list.promised ≡ 0

begun-sizes : (task : Task) (bench : Seen) → bench.list.promised ≡ 0 → LeavesSizes bench (begun_seen task bench)
begun-sizes (Using task) bench none = record { disk = refl; store = refl; next = refl; promised = none }
begun-sizes (Recovers recovery) bench none = record { disk = refl; store = refl; next = refl; promised = refl }
begun-sizes (Refusal reply) bench none = record { disk = refl; store = refl; next = refl; promised = none }
begun-sizes (Fault device held) bench none = record { disk = refl; store = refl; next = refl; promised = none }

module _ (book : Plain) (small : IsSmall book) where
  -- another docket with as much room, and the same sizes
  small-docket : (book' : Plain) → LeavesSizes book.bench book'.bench
      → ((made : ℕ) → within book.docket 2 draws_of made → within book'.docket 2 draws_of made)
      → ((made : ℕ) → within book.docket 2 makes_of made → within book'.docket 2 makes_of made)
      → ((made : ℕ) → within book.docket most_listed lists_of made → within book'.docket most_listed lists_of made)
      → IsSmall book'
  small-docket book' sizes draws makes lists = record {
    given = subst (λ store. within book'.docket 2 draws_of (length store.given)) (sym sizes.store)
        (draws (length book.bench.store.given) small.given);
    entries = subst (λ store. within book'.docket 2 draws_of (length store.entries)) (sym sizes.store)
        (draws (length book.bench.store.entries) small.entries);
    trees = λ left is. makes (map.len left) (small.trees left (subst (λ disk. IsLeft disk left) sizes.disk is));
    listed = subst (λ next. within book'.docket most_listed lists_of next) (sym sizes.next)
        (lists book.bench.list.next small.listed);
    unpromised = sizes.promised;
  }

  pub small-begun : (actor : Actor) (begins : Beginning) (start : Start) (verdict : Option Reply)
      → map.get book.docket.waiting actor ≡ Some (begins.number ∷ begins.numbers)
      → FewSlots begins.command start → FirstTask begins.command start verdict begins.task
      → IsSmall (begun_plain book actor begins)
  small-begun actor begins start verdict queue slots first =
      small-docket (begun_plain book actor begins) (begun-sizes begins.task book.bench small.unpromised)
      (fits 2 draws_of few.1) (fits 2 makes_of few.0) (fits most_listed lists_of few.2)
    where
      few : (makes_in begins.task ≤ 2) × (draws_in begins.task ≤ 2) × (lists_in begins.task ≤ most_listed)
      few = first-few begins.command start verdict begins.task slots first

      fits : (each : ℕ) (of : Running → ℕ) → of (work_of begins) ≤ each → (made : ℕ)
          → within book.docket each of made
          → within (docket_begun book.docket actor begins.numbers (work_of begins)) each of made
      fits each of less made stands =
          within-begun book.docket each of made stands actor begins.number begins.numbers (work_of begins) queue less

  module _ (actor : Actor) (it : Running) (runs : map.get book.docket.running actor ≡ Some it) where
    -- a call was made
    module _ (making : Making) (made : Made) (after : Seen) (notes : Notes)
        (shows : CallFalls book.bench.places after.places making.call made it.task making.then)
        (is_made : IsMade book.bench after making.call (Ok made))
        (commands : length book.docket.commands ≤ max_commands) where
      abbrev then : Running
      then = record { number = it.number; task = making.then; owed = notes.owed }

      pub small-called : IsSmall (after_call book actor it.number (record making { owed = notes.owed }) made
          notes.marks after)
      small-called =
          let bounds = small-bounds book small commands in
          let adds = adds-made book.bench after making.call made bounds.entries is_made in
          let draws = shows.draws in
          let makes = shows.makes in
          let lists = shows.lists in
          let given = adds.given in
          let entries = adds.entries in
          let next = adds.next in record {
            given = within-set book.docket 2 draws_of (length book.bench.store.given) small.given actor it then
                (length after.store.given) runs (omega (arith, given, draws));
            entries = within-set book.docket 2 draws_of (length book.bench.store.entries) small.entries actor it then
                (length after.store.entries) runs (omega (arith, entries, draws));
            trees = λ left is.
                let exceeds = adds.trees left is in
                let few = exceeds.few in
                within-set book.docket 2 makes_of (map.len exceeds.from) (small.trees exceeds.from exceeds.is) actor
                it then (map.len left) runs (omega (arith, few, makes));
            listed = within-set book.docket most_listed lists_of book.bench.list.next small.listed actor it then
                after.list.next runs (omega (arith, next, lists));
            unpromised = adds.promised ∙ small.unpromised;
          }

    -- a reply was given, and what a failed command held is listed
    pub small-replied : (command : Command) (reply : Reply) → IsSmall (replied_plain book actor it command reply)
    small-replied command reply =
        let told = lists-told it.task in
        let next = listed-next true book.bench.list (lists_with it.task) in record {
          given = within-removed book.docket 2 draws_of (length book.bench.store.given) small.given actor it
              (length book.bench.store.given) runs (omega arith);
          entries = within-removed book.docket 2 draws_of (length book.bench.store.entries) small.entries actor it
              (length book.bench.store.entries) runs (omega arith);
          trees = λ left is. within-removed book.docket 2 makes_of (map.len left) (small.trees left is) actor it
              (map.len left) runs (omega arith);
          listed = within-removed book.docket most_listed lists_of book.bench.list.next small.listed actor it
              (listed book.bench.list (lists_with it.task)).next runs (omega (arith, next, told));
          unpromised = listed-promised true book.bench.list (lists_with it.task) ∙ small.unpromised;
        }

  -- a command got its number, and waits last
  pub small-given : (command : Command) → IsSmall (with_command book command)
  small-given command =
      small-docket (with_command book command)
      (record { disk = refl; store = refl; next = refl; promised = small.unpromised }) (queued 2 draws_of)
      (queued 2 makes_of) (queued most_listed lists_of)
    where
      queued : (each : ℕ) (of : Running → ℕ) (made : ℕ) → within book.docket each of made
          → within (docket_with book.docket (actor_of command) command) each of made
      queued each of made stands =
          within-queued book.docket each of made stands (actor_of command) command
          (queue_of book.docket.waiting (actor_of command) ++ length book.docket.commands ∷ [])
          (length-append (queue_of book.docket.waiting (actor_of command)) (length book.docket.commands ∷ []))

  -- a stop
  pub small-stopped : (bench : Seen) (cut : Cut) (kept : ℕ)
      → bench.disk ≡ stopped book.bench.disk cut.keep cut.fills → bench.store ≡ book.bench.store
      → bench.list ≡ unlisted book.bench.list → IsSmall (after_stop book bench cut kept)
  small-stopped bench cut kept disk store list = record {
    given = subst (λ s. within (record book.docket { running = map.empty }) 2 draws_of (length s.given)) (sym store)
        (within-stopped book.docket 2 draws_of (length book.bench.store.given) small.given);
    entries = subst (λ s. within (record book.docket { running = map.empty }) 2 draws_of (length s.entries))
        (sym store)
        (within-stopped book.docket 2 draws_of (length book.bench.store.entries) small.entries);
    trees = λ left is.
        let exceeds = exceeds-stopped book.bench.disk cut.keep cut.fills left
        (subst (λ d. IsLeft d left) disk is) in
        let few = exceeds.few in
        within-stopped book.docket 2 makes_of (map.len left)
        (within-less book.docket 2 makes_of (map.len exceeds.from) (small.trees exceeds.from exceeds.is) (map.len left)
        (omega (arith, few)));
    listed = subst (λ l. within (record book.docket { running = map.empty }) most_listed lists_of l.next) (sym list)
        (within-stopped book.docket most_listed lists_of book.bench.list.next small.listed);
    unpromised = ap (λ l. l.promised) list;
  }

  -- a restart, after which a recovery waits first
  pub small-restarted : (bench : Seen) (level : ℕ) → bench ≡ book.bench → IsSmall (after_restart book bench level)
  small-restarted bench level same =
      small-docket (after_restart book bench level) (record {
        disk = ap (λ b. b.disk) same;
        store = ap (λ b. b.store) same;
        next = ap (λ b. b.list.next) same;
        promised = ap (λ b. b.list.promised) same ∙ small.unpromised;
      }) (queued 2 draws_of) (queued 2 makes_of) (queued most_listed lists_of)
    where
      queued : (each : ℕ) (of : Running → ℕ) (made : ℕ) → within book.docket each of made
          → within (record (with_first_command book.docket Boot Recover) { begun = map.empty }) each of made
      queued each of made stands =
          within-queued book.docket each of made stands Boot Recover
          (length book.docket.commands ∷ queue_of book.docket.waiting Boot) (omega arith)

-- a Book as it is opened, over devices that hold nothing
pub small-opened : (bench : Seen) (opened : Opened) (seed : List ℕ) (level : ℕ)
    → bench.disk ≡ record { stable = map.empty; pending = [] } → bench.store ≡ empty_store level
    → bench.list ≡ record { items = []; next = 0; promised = 0 } → IsSmall (new_book bench opened seed)
small-opened bench opened seed level disk store list = record {
  given = let none = ap (λ s. length s.given) store in nothing 2 draws_of (length bench.store.given) none;
  entries = let none = ap (λ s. length s.entries) store in nothing 2 draws_of (length bench.store.entries) none;
  trees = λ left is.
      let same = left-still map.empty left (subst (λ d. IsLeft d left) disk is) in
      nothing 2 makes_of (map.len left) (ap (λ (t : Tree). map.len t) same ∙ map.len-empty place_cmp Files);
  listed = nothing most_listed lists_of bench.list.next (ap (λ l. l.next) list);
  unpromised = ap (λ l. l.promised) list;
}
  where
    nothing : (each : ℕ) (of : Running → ℕ) (made : ℕ) → made ≡ 0 → within empty_docket each of made
    nothing each of made none =
        let running = sum-empty actor_cmp of in
        let waiting = ap (λ n. each * n) (sum-empty actor_cmp (length {A = ℕ})) in
        omega (arith, running, waiting, none)
