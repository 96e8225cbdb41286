-- A user's turn leaves what stands at the places of other users, the entries of their keys, and their keys in the
-- ring.
use Rattle.std.proofs.Common.{◌≡◌, ◌≢◌, ℕ, ◌==◌, false, cond, List, [], ◌∷◌, ◌++◌, refl, sym, ap, ◌∙◌, subst, inl, inr}
use Rattle.std.specs.Prelude.{Option, Ok, Contains, Some}
use Rattle.std.proofs.lemmas.Bool.{ne_eqb}
use Rattle.tree_model.specs.declared.sites.LocalOp.{LocalOp}
use Rattle.tree_model.specs.declared.sites.LocalOp.TheVariants.{MakeDir, Write, RenameFile}
use Rattle.tree_model.specs.declared.sites.LocalOp.TheVariants.{RenameDir, RemoveFile, RemoveDir}
use Rattle.tree_model.specs.Tree.{Tree}
use Rattle.tree_model.specs.Disk.{view, with_op}
use Rattle.tree_model.specs.Sites.{op_of}
use Rattle.tree_model.specs.Touch.{SameFor}
use Rattle.tree_model.proofs.Images.{applied-append}
use Rattle.tree_model.proofs.Parts.{of_user}
use Rattle.tree_model.proofs.Touch.{same-other}
use Rattle.key_ring.specs.Ring.{key_of}
use Rattle.key_ring.proofs.Owners.{others-keys, others-stay}
use Rattle.keystore_model.specs.declared.entry.StoreEntry.{StoreEntry}
use Rattle.journal_model.specs.declared.commands.Actor.{Actor}
use Rattle.journal_model.specs.declared.commands.Actor.TheVariants.{User}
use Rattle.journal_model.specs.Command.{actor_of}
use Rattle.user_world.specs.declared.changes.LocalChange.{LocalChange}
use Rattle.task_turns.specs.declared.calls.Answer.{Answer}
use Rattle.task_turns.specs.declared.calls.Call.{Call}
use Rattle.task_turns.specs.declared.calls.Call.TheVariants.{Op as OpCall, Sync, List as ListCall, Read, Delete}
use Rattle.task_turns.specs.declared.calls.Call.TheVariants.{Generate, Encrypt, Decrypt, Entries, Add, Remove}
use Rattle.task_turns.specs.declared.next.Next.TheVariants.{Call as CallNext}
use Rattle.task_turns.specs.Turns.{seen_of, CallStands}
use Rattle.bench.specs.declared.made.Made.{Made}
use Rattle.bench.specs.declared.made.Made.TheVariants.{Heard, Failed}
use Rattle.bench.specs.Bench.{Plain as Seen, Rests, Does, IsFailed, IsFailedOp, IsMade}
use Rattle.user_tasks.specs.Tasks.{tasks, user_of, rest_of}
use Rattle.vold_book.specs.declared.tasks.Running.{Running}
use Rattle.vold_book.specs.declared.tasks.Task.{Task}
use Rattle.vold_book.specs.declared.tasks.Task.TheVariants.{User as Using, Recovery as Recovers, Refusal, Fault}
use Rattle.vold_book.specs.State.{Plain, ground_of}
use Rattle.vold_book.specs.Tasks.{TaskStands, TaskShows, Plans, scene_of, due_to}
use Rattle.vold_book.specs.Turns.{entries_of}
use Rattle.vold_book.proofs.Grounds.{not_boot, same_user}
use Rattle.vold_book.proofs.Worked.{stands-now}
use Rattle.tree_model.specs.declared.blobs.Blob.{Blob}
use Rattle.keystore_model.proofs.Elements.{Contains-cases, Contains-first, Contains-none, Contains-rest}
use Rattle.keystore_model.specs.Store.{Differ, blobs_of, entry_of, same_bytes, without}
use Rattle.vold_book.specs.Whole.{Whole}
use Rattle.keystore_model.proofs.Stores.{bytes-apart, bytes-same, decide-bytes}
use Rattle.vold_book.proofs.DueItems.{due-listed}
use Rattle.vold_book.proofs.Tried.{due-blob}
use Rattle.blob_custody.proofs.Lists.{map-has}
use Rattle.std.proofs.Common.{not}

-- what stands at a user's places, the entries of the user's keys, and the user's keys in the ring, are as they were
pub record SpareFor (user : ℕ) (before after : Seen) : Type 0 where
  pub places : SameFor user (view before.disk) (view after.disk)
  pub entries : entries_of user after.store.entries ≡ entries_of user before.store.entries
  pub keys : key_of after.keys user ≡ key_of before.keys user

same-tree : (user : ℕ) (before after : Tree) → after ≡ before → SameFor user before after
same-tree user before after same = subst (SameFor user before) (sym same) (record { same = λ place of. refl })

pub spare-same : (user : ℕ) (before after : Seen) → after.disk ≡ before.disk → after.store ≡ before.store
    → after.keys ≡ before.keys → SpareFor user before after
spare-same user before after disk store keys = record {
  places = same-tree user _ _ (ap view disk);
  entries = ap (λ s. entries_of user s.entries) store;
  keys = ap (λ ring. key_of ring user) keys;
}

-- all but the counts is
spare-rests : (user : ℕ) (before after : Seen) → Rests before after → SpareFor user before after
spare-rests user before after rests =
    spare-same user before after (ap (λ b. b.disk) rests) (ap (λ b. b.store) rests) (ap (λ b. b.keys) rests)

-- an entry of another user's key is none of the user's
entries-push : (user : ℕ) (entries : List StoreEntry) (entry : StoreEntry) → (entry.tag.user == user) ≡ false
    → entries_of user (entries ++ entry ∷ []) ≡ entries_of user entries
entries-push user [] entry other = ap (λ t. cond t (entry ∷ []) []) other
entries-push user (first ∷ entries) entry other =
    ap (λ rest. cond (first.tag.user == user) (first ∷ rest) rest) (entries-push user entries entry other)

-- the entry of an element of the list is the one that is found by its blob
pub entry-in : (entries : List StoreEntry) (entry : StoreEntry) → Differ (blobs_of entries) → Contains entries entry
    → entry_of entries entry.blob ≡ Some entry
entry-in [] entry differ has = absurd (Contains-none entry has)
entry-in (first ∷ rest) entry differ has = elim (Contains-cases first rest entry has) [
  | inl same ↦ ap (λ t. cond t (Some first) (entry_of rest entry.blob))
      (ap (λ (e : StoreEntry). same_bytes e.blob first.blob) (sym same) ∙ bytes-same first.blob) ∙ ap Some same
  | inr later ↦ ap (λ t. cond t (Some first) (entry_of rest entry.blob))
      (bytes-apart entry.blob first.blob (λ same. differ.0 (subst (Contains (blobs_of rest)) same
      (map-has (λ (e : StoreEntry). e.blob) rest entry later))))
      ∙ entry-in rest entry differ.1 later
]

-- without a blob of which no entry is the user's
entries-without : (user : ℕ) (entries : List StoreEntry) (blob : Blob)
    → ((entry : StoreEntry) → Contains entries entry → entry.blob ≡ blob → (entry.tag.user == user) ≡ false)
    → entries_of user (without entries blob) ≡ entries_of user entries
entries-without user [] blob others = refl
entries-without user (first ∷ rest) blob others =
    let later = entries-without user rest blob (λ entry has. others entry (Contains-rest first rest entry has)) in
    elim (decide-bytes blob first.blob) [
      | inl same ↦
          ap (λ t. entries_of user (cond (not t) (first ∷ without rest blob) (without rest blob)))
          (ap (same_bytes blob) (sym same) ∙ bytes-same blob) ∙ later
          ∙ sym (ap (λ t. cond t (first ∷ entries_of user rest) (entries_of user rest))
          (others first (Contains-first first rest) (sym same)))
      | inr differ ↦
          ap (λ t. entries_of user (cond (not t) (first ∷ without rest blob) (without rest blob)))
          (bytes-apart blob first.blob differ)
          ∙ ap (λ es. cond (first.tag.user == user) (first ∷ es) es) later
    ]

other-user : (owner user : ℕ) → user ≢ owner → (owner == user) ≡ false
other-user owner user differ = ne_eqb owner user (λ e. differ (sym e))

module _ (before after : Seen) (owner other : ℕ) (differ : other ≢ owner) where
  spare-op : (op : LocalOp) → after.disk ≡ with_op before.disk (op_of owner op) → after.store ≡ before.store
      → after.keys ≡ before.keys → SpareFor other before after
  spare-op op disk store keys = record {
    places = subst (SameFor other (view before.disk))
        (sym (ap view disk ∙ applied-append before.disk.stable before.disk.pending (op_of owner op)))
        (same-other owner other (view before.disk) (op_of owner op) (of_user owner op) differ);
    entries = ap (λ s. entries_of other s.entries) store;
    keys = ap (λ ring. key_of ring other) keys;
  }

  spare-failed : (op : LocalOp) → IsFailedOp before after owner op → SpareFor other before after
  spare-failed (Write site file bytes) failed = spare-op (Write site file failed.0) (ap (λ b. b.disk) failed.1)
      (ap (λ b. b.store) failed.1) (ap (λ b. b.keys) failed.1)
  spare-failed (MakeDir site) failed = spare-rests other before after failed
  spare-failed (RenameFile site from to) failed = spare-rests other before after failed
  spare-failed (RenameDir from to) failed = spare-rests other before after failed
  spare-failed (RemoveFile site file) failed = spare-rests other before after failed
  spare-failed (RemoveDir site) failed = spare-rests other before after failed

  -- a call is on its own user's places and keys
  abbrev IsOwn : Call → Type 0
  IsOwn (OpCall at op names) = at ≡ owner
  IsOwn (Generate tag app_id) = tag.user ≡ owner
  IsOwn (Add at class key) = at ≡ owner
  IsOwn (Remove at class) = at ≡ owner
  IsOwn (Delete item tells) = (entry : StoreEntry) → Contains before.store.entries entry → entry.blob ≡ item.blob
      → entry.tag.user ≡ owner
  IsOwn call = Unit {0}

  spare-done : (call : Call) (answer : Answer) → IsOwn call → Does before after call answer
      → SpareFor other before after
  spare-done (OpCall at op names) answer own does =
      spare-op op (ap (λ b. b.disk) does.1 ∙ ap (λ u. with_op before.disk (op_of u op)) own)
      (ap (λ b. b.store) does.1) (ap (λ b. b.keys) does.1)
  spare-done Sync answer own does = record {
    places = same-tree other _ _ (ap (λ b. view b.disk) does.1);
    entries = ap (λ b. entries_of other b.store.entries) does.1;
    keys = ap (λ b. key_of b.keys other) does.1;
  }
  spare-done ListCall answer own does =
      spare-same other before after (ap (λ b. b.disk) does.2) (ap (λ b. b.store) does.2) (ap (λ b. b.keys) does.2)
  spare-done (Read place) answer own does =
      spare-same other before after (ap (λ b. b.disk) does.3) (ap (λ b. b.store) does.3) (ap (λ b. b.keys) does.3)
  spare-done (Generate tag app_id) answer own does = record {
    places = same-tree other _ _ (ap (λ b. view b.disk) does.3);
    entries = ap (λ s. entries_of other s.entries) does.2.made
        ∙ entries-push other before.store.entries _
        (ap (λ u. u == other) own ∙ other-user owner other differ);
    keys = ap (λ b. key_of b.keys other) does.3;
  }
  spare-done (Encrypt blob app_id nonce key) answer own does =
      spare-same other before after (ap (λ b. b.disk) does.1) (ap (λ b. b.store) does.1) (ap (λ b. b.keys) does.1)
  spare-done (Decrypt blob app_id text) answer own does =
      spare-same other before after (ap (λ b. b.disk) does.1) (ap (λ b. b.store) does.1) (ap (λ b. b.keys) does.1)
  spare-done Entries answer own does = spare-same other before after (ap (λ b. b.disk) does.1.2)
      (ap (λ b. b.store) does.1.2) (ap (λ b. b.keys) does.1.2)
  spare-done (Add at class key) answer own does = record {
    places = same-tree other _ _ (ap (λ b. view b.disk) does.1);
    entries = ap (λ b. entries_of other b.store.entries) does.1;
    keys = ap (λ b. key_of b.keys other) does.1
        ∙ others-keys before.keys at class key other (λ same. differ (same ∙ own));
  }
  spare-done (Remove at class) answer own does = record {
    places = same-tree other _ _ (ap (λ b. view b.disk) does.1);
    entries = ap (λ b. entries_of other b.store.entries) does.1;
    keys = ap (λ b. key_of b.keys other) does.1
        ∙ others-stay before.keys at class other (λ same. differ (same ∙ own));
  }
  spare-done (Delete item tells) answer own does = record {
    places = same-tree other _ _ (ap (λ b. view b.disk) does.1);
    entries = ap (λ b. entries_of other b.store.entries) does.1
        ∙ entries-without other before.store.entries item.blob (λ entry has same.
        ap (λ u. u == other) (own entry has same) ∙ other-user owner other differ);
    keys = ap (λ b. key_of b.keys other) does.1;
  }

  spare-undone : (call : Call) → IsOwn call → IsFailed before after call → SpareFor other before after
  spare-undone (OpCall at op names) own failed =
      spare-failed op (subst (λ u. IsFailedOp before after u op) own failed)
  spare-undone Sync own failed = spare-rests other before after failed
  spare-undone ListCall own failed = spare-rests other before after failed
  spare-undone (Read place) own failed = spare-rests other before after failed
  spare-undone (Generate tag app_id) own failed = spare-rests other before after failed
  spare-undone (Encrypt blob app_id nonce key) own failed = spare-rests other before after failed
  spare-undone (Decrypt blob app_id text) own failed = spare-rests other before after failed
  spare-undone Entries own failed = spare-rests other before after failed
  spare-undone (Add at class key) own failed = spare-rests other before after failed
  spare-undone (Remove at class) own failed = spare-rests other before after failed
  spare-undone (Delete item tells) own failed = spare-rests other before after failed

  spare-made : (call : Call) (made : Made) → IsOwn call → IsMade before after call (Ok made)
      → SpareFor other before after
  spare-made call (Heard answer) own is = spare-done call answer own is
  spare-made call (Failed device) own is = spare-undone call own is.1

module _ (book : Plain) (whole : Whole book) (actor : Actor) (owner other : ℕ) (mine : actor ≡ User owner)
    (differ : other ≢ owner) where
  pub call-isolates : (it : Running) (now : Task) (call : Call) (change : Option LocalChange) (made : Made)
      (bench : Seen) → Plans book actor it now (CallNext call change) → IsMade book.bench bench call (Ok made)
      → SpareFor other book.bench bench
  call-isolates it now call change made bench plans is =
      by now (stands-now book actor it now (CallNext call change) plans) plans.shows
    where
      by : (task : Task) → TaskStands (ground_of book) task plans.on.began
          → TaskShows (ground_of book) plans.on.began (due_to book it) task (CallNext call change)
          → SpareFor other book.bench bench
      by (Using task) stands shows = spare-made book.bench bench owner other differ call made
          (own call shows.stands) is
        where
          of-owner : (rest_of task).user ≡ owner
          of-owner = same_user _ owner (sym stands.of_user ∙ plans.on.own ∙ mine)

          own : (c : Call)
              → CallStands (seen_of tasks task) (scene_of (user_of task) (ground_of book) plans.on.began
              (due_to book it)) c change
              → IsOwn book.bench bench owner other differ c
          own (OpCall at op names) stands = stands.mine ∙ of-owner
          own (Generate tag app_id) stands = stands.tagged ∙ of-owner
          own Sync stands = tt
          own ListCall stands = tt
          own (Read place) stands = tt
          own (Encrypt blob app_id nonce key) stands = tt
          own (Decrypt blob app_id text) stands = tt
          own Entries stands = tt
          own (Add at class key) stands = stands.mine ∙ of-owner
          own (Remove at class) stands = stands.mine ∙ of-owner
          own (Delete item tells) stands = λ entry has same.
              let due = due-listed book.bench.list whole.numbered it.owed item stands.is_due in
              let owes = plans.on.owes due.own due.among in
              let blob : entry.blob ≡ due.own.blob = same ∙ due-blob book whole actor it plans.on due in
              owes.2.tagged entry (sym (ap (entry_of book.bench.store.entries) blob)
              ∙ entry-in book.bench.store.entries entry whole.store.differ has)
              ∙ same_user owes.0 owner (sym owes.1 ∙ mine)
      by (Recovers recovery) stands shows =
          absurd (not_boot owner (sym (ap actor_of stands.0.command) ∙ plans.on.own ∙ mine))
      by (Refusal reply) stands shows = cc
      by (Fault device held) stands shows = cc
