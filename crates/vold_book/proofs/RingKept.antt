-- The key ring stands beside the machine after each turn: an entry without a key leaves it, a key that comes in was
-- given to its user, and no key is a user's who isn't there yet.
use Rattle.std.proofs.Common.{◌≡◌, ◌≢◌, ℕ, inl, inr, true, false, List, [], ◌∷◌, ◌++◌, refl, sym, ap, ◌∙◌, subst}
use Rattle.std.proofs.lemmas.Option.{none-some, same_Some}
use Rattle.std.specs.Prelude.{Bool, Option, Some, None, is_some, Ok, IfSome}
use Rattle.std.specs.Cmp.{nat_cmp_total}
use Rattle.std.specs.FinMap as map
use Rattle.std.specs.FinMap.{nat_cmp-IsAntisymmetric}
use Rattle.tree_model.specs.declared.places.Class.{Class}
use Rattle.tree_model.specs.declared.places.Class.TheVariants.{De as DeClass, Ce as CeClass}
use Rattle.tree_model.specs.declared.places.Slot.TheVariants.{Current, Cx}
use Rattle.tree_model.specs.declared.sites.Site.{Site}
use Rattle.tree_model.specs.declared.sites.Site.TheVariants.{De, Ce, Temp}
use Rattle.tree_model.specs.declared.sites.LocalOp.{LocalOp}
use Rattle.tree_model.specs.declared.sites.LocalOp.TheVariants.{MakeDir, Write, RenameFile}
use Rattle.tree_model.specs.declared.sites.LocalOp.TheVariants.{RenameDir, RemoveFile, RemoveDir}
use Rattle.tree_model.specs.Parts.{Part, has_device, renaming_local, local_kind, LocalFits}
use Rattle.tree_model.specs.Tree.{Kind, Create as Creates, Add as Adds, Drop as Drops, Settle as Settles, kind_if}
use Rattle.tree_model.specs.Tree.{Destroy as Destroys}
use Rattle.tree_model.proofs.Maps.{decide_key, get-insert_same, get-insert_other, get-remove_other}
use Rattle.tree_model.proofs.Logic.{is_none}
use Rattle.key_ring.specs.Ring.{Ring, IsRing, owners, key_of, installed, removed, with_owner, without_owner}
use Rattle.key_ring.proofs.Rings.{found-added, others-added, gone-removed, others-removed}
use Rattle.key_ring.proofs.Rings.{ring-added as ring-grown, ring-removed as ring-shrunk}
use Rattle.key_ring.proofs.Owners.{added, taken, decide-owner}
use Rattle.journal_model.specs.declared.commands.Actor.{Actor}
use Rattle.journal_model.specs.declared.entries.Entry.{Entry}
use Rattle.journal_model.specs.declared.entries.Entry.TheVariants.{Changed, Synced, Installed, Evicted}
use Rattle.journal_model.specs.Machine.{Machine, after_entry, machine_after}
use Rattle.journal_model.specs.declared.entries.Birth.{Birth}
use Rattle.journal_model.specs.declared.entries.Change.{Change}
use Rattle.journal_model.specs.declared.entries.Change.TheVariants.{Create, Add, Drop, Settle, Destroy}
use Rattle.journal_model.specs.Made.{key_of as made_key}
use Rattle.journal_model.specs.Users.{Record, Users, no_users, with_slot, after_change, edited}
use Rattle.journal_model.specs.Users.{fold_changes, settled_slot, with_edit, with_record, without_slot}
use Rattle.journal_model.proofs.Folds.{folded-append}
use Rattle.journal_model.proofs.Steps.{machine_after-append}
use Rattle.user_world.specs.declared.changes.LocalChange.{LocalChange}
use Rattle.user_world.specs.declared.changes.LocalChange.TheVariants.{Born, Added, Destroyed, Dropped, Settled}
use Rattle.user_world.specs.OwnWorlds.{own_view}
use Rattle.user_world.specs.Timelines.{Timeline, own_of}
use Rattle.user_world.specs.Turns.{StepShows}
use Rattle.user_world.proofs.Timelines.{view-shown, known-shown}
use Rattle.key_directory.specs.Tried.{attempts_of}
use Rattle.key_directory.specs.Vaults.{Vault, Attempts, Extends, SureOf, sealed}
use Rattle.key_directory.proofs.Lasting.{fewer-match}
use Rattle.key_directory.proofs.Tried.{tried as tried-law}
use Rattle.key_directory.proofs.Present.{there-user}
use Rattle.task_turns.specs.declared.calls.Answer.{Answer}
use Rattle.task_turns.specs.declared.calls.Call.{Call}
use Rattle.task_turns.specs.declared.calls.Call.TheVariants.{Op, Sync, List as ListCall, Read, Delete}
use Rattle.task_turns.specs.declared.calls.Call.TheVariants.{Generate, Encrypt, Decrypt, Entries, Add, Remove}
use Rattle.task_turns.specs.declared.next.Next.TheVariants.{Call as CallNext}
use Rattle.task_turns.specs.Shares.{IsGiven}
use Rattle.task_turns.specs.Turns.{seen_of, CallShows, MayChange, EndsKeyless}
use Rattle.bench.specs.declared.made.Made.{Made}
use Rattle.bench.specs.declared.made.Made.TheVariants.{Heard, Failed}
use Rattle.bench.specs.Bench.{Plain as Seen, Does, IsMade}
use Rattle.bench.proofs.Failures.{failed-leaves}
use Rattle.user_tasks.specs.declared.tasks.UserTask.{UserTask}
use Rattle.user_tasks.specs.Tasks.{tasks, user_of}
use Rattle.vold_book.specs.declared.tasks.Running.{Running}
use Rattle.vold_book.specs.declared.tasks.Task.{Task}
use Rattle.vold_book.specs.declared.tasks.Task.TheVariants.{User as Using, Recovery as Recovers, Refusal, Fault}
use Rattle.vold_book.specs.Entries.{entry_of, machine_with}
use Rattle.vold_book.specs.Installed.{IsMadeKey, RingStands}
use Rattle.vold_book.specs.Recovery.{RecoveryCalls}
use Rattle.vold_book.specs.State.{Plain, machine_of, tried_in, timeline, ground_of, vault_of, share_of}
use Rattle.vold_book.specs.Tasks.{Plans, TaskShows, scene_of, due_to}
use Rattle.vold_book.specs.Turns.{Making}
use Rattle.vold_book.specs.Whole.{Whole}
use Rattle.vold_book.proofs.Moves.{after_of, machine_then, tried_then, tried-more}
use Rattle.deferred_delete.specs.declared.items.Item.{Item}
use Rattle.vold_book.specs.declared.recovery.Recovery.TheVariants.{Settled}

-- a machine with the same ring and the same changes
pub ring-same : (tried : ℕ → Attempts) (seed : List ℕ) (keys : Ring) (machine machine' : Machine)
    → machine'.ring ≡ machine.ring → machine'.log ≡ machine.log → RingStands tried seed keys machine
    → RingStands tried seed keys machine'
ring-same tried seed keys machine machine' ring log stands = record {
  once = stands.once;
  owned = ring ∙ stands.owned;
  made = λ user class key at. subst (λ l. IsMadeKey (tried user) seed (fold_changes l) user class key) (sym log)
      (stands.made user class key at);
}

-- where more was tried, the ring stands that stood
pub ring-more : (tried tried' : ℕ → Attempts) (seed : List ℕ) (keys : Ring) (machine : Machine)
    → ((user : ℕ) → Extends (tried user) (tried' user)) → RingStands tried seed keys machine
    → RingStands tried' seed keys machine
ring-more tried tried' seed keys machine more stands = record {
  once = stands.once;
  owned = stands.owned;
  made = λ user class key at. let old = stands.made user class key at in record {
    known = old.known;
    there = old.there;
    made = λ sure. old.made (sure-less class (tried user) (tried' user) (more user) sure);
  };
}
  where
    sure-less : (class : Class) (less more : Attempts) → Extends less more → SureOf more class → SureOf less class
    sure-less DeClass less more extends sure = tt
    sure-less CeClass less more extends sure = fewer-match less more extends sure

-- a machine with nothing in the ring
pub ring-empty : (tried : ℕ → Attempts) (seed : List ℕ) (machine : Machine) → machine.ring ≡ []
    → RingStands tried seed [] machine
ring-empty tried seed machine none =
    record { once = tt; owned = none; made = λ user class key at. absurd (none-some key at) }

-- an entry that leaves ring and changes, and one that empties the ring
module _ (book : Plain) (entry : Entry) where
  pub ring-entered : (after_entry book.ledger.entries (machine_of book) entry).ring ≡ (machine_of book).ring
      → (after_entry book.ledger.entries (machine_of book) entry).log ≡ (machine_of book).log
      → RingStands (tried_in book) book.seed book.bench.keys (machine_of book)
      → RingStands (attempts_of book.seed (book.ledger.entries ++ entry ∷ [])) book.seed book.bench.keys
      (machine_after (book.ledger.entries ++ entry ∷ []))
  ring-entered ring log stands =
      subst (RingStands (attempts_of book.seed (book.ledger.entries ++ entry ∷ [])) book.seed book.bench.keys)
      (sym (machine_after-append book.ledger.entries entry))
      (ring-more (tried_in book) _ book.seed book.bench.keys _
      (λ user. tried-law.extends book.seed user book.ledger.entries (entry ∷ []))
      (ring-same (tried_in book) book.seed book.bench.keys (machine_of book) _ ring log stands))

  pub ring-emptied : (after_entry book.ledger.entries (machine_of book) entry).ring ≡ []
      → RingStands (attempts_of book.seed (book.ledger.entries ++ entry ∷ [])) book.seed []
      (machine_after (book.ledger.entries ++ entry ∷ []))
  ring-emptied none =
      subst (RingStands (attempts_of book.seed (book.ledger.entries ++ entry ∷ [])) book.seed [])
      (sym (machine_after-append book.ledger.entries entry)) (ring-empty _ book.seed _ none)

-- an operation that makes a user finds no device key's directory
not-create : (there : Bool) (kind : Kind) → (kind ≡ Creates → ⊥) → kind_if there kind ≡ Some Creates → ⊥
not-create true kind differ is = differ (same_Some kind Creates is)
not-create false kind differ is = none-some Creates is

adds-differ : Adds ≡ Creates → ⊥
adds-differ e = cc

settles-differ : Settles ≡ Creates → ⊥
settles-differ e = cc

drops-differ : Drops ≡ Creates → ⊥
drops-differ e = cc

destroys-differ : Destroys ≡ Creates → ⊥
destroys-differ e = cc

renames-unborn : (part : Part) (from to : Site) → is_some (part to) ≡ false
    → renaming_local part from to ≡ Some Creates → is_some (part De) ≡ false
renames-unborn part Temp De none is = none
renames-unborn part Temp (Ce (Cx n)) none is = absurd (not-create (has_device part) Adds adds-differ is)
renames-unborn part Temp (Ce Current) none is = absurd (none-some Creates is)
renames-unborn part Temp Temp none is = absurd (none-some Creates is)
renames-unborn part (Ce (Cx n)) (Ce Current) none is =
    absurd (not-create (has_device part) Settles settles-differ is)
renames-unborn part (Ce (Cx n)) De none is = absurd (none-some Creates is)
renames-unborn part (Ce (Cx n)) (Ce (Cx m)) none is = absurd (none-some Creates is)
renames-unborn part (Ce (Cx n)) Temp none is = absurd (none-some Creates is)
renames-unborn part (Ce Current) to none is = absurd (none-some Creates is)
renames-unborn part De to none is = absurd (none-some Creates is)

removes-none : (part : Part) (site : Site) → local_kind part (RemoveDir site) ≡ Some Creates → ⊥
removes-none part De is = destroys-differ (same_Some Destroys Creates is)
removes-none part (Ce slot) is = not-create (has_device part) Drops drops-differ is
removes-none part Temp is = none-some Creates is

makes-unborn : (part : Part) (op : LocalOp) → LocalFits part op → local_kind part op ≡ Some Creates
    → is_some (part De) ≡ false
makes-unborn part (MakeDir site) fits is = absurd (none-some Creates is)
makes-unborn part (Write site file bytes) fits is = absurd (none-some Creates is)
makes-unborn part (RenameFile site from to) fits is = absurd fits
makes-unborn part (RenameDir from to) fits is = renames-unborn part from to fits.1 is
makes-unborn part (RemoveFile site file) fits is = absurd fits
makes-unborn part (RemoveDir site) fits is = absurd (removes-none part site is)

-- the user is there, with this birth
record HasBirth (users : Users) (user : ℕ) (birth : Birth) : Type 0 where
  known : Record
  there : map.get users user ≡ Some known
  same : known.birth ≡ birth

-- a new user leaves those who are there, and an edit of a user's record the births of all
born-others : (users : Users) (user : ℕ) (birth : Birth) → map.get users user ≡ None → (other : ℕ) (known : Record)
    → map.get users other ≡ Some known → HasBirth (after_change users (Create user birth)) other known.birth
born-others users user birth none other known there = record {
  known = known;
  there = get-insert_other nat_cmp_total nat_cmp-IsAntisymmetric users user _ other
      (λ is. none-some known (sym none ∙ ap (map.get users) (sym is) ∙ there)) ∙ there;
  same = refl;
}

module _ (users : Users) (user : ℕ) (edit : Record → Record)
    (keeps : (known : Record) → (edit known).birth ≡ known.birth)
  where
    edited-all : (other : ℕ) (known : Record) → map.get users other ≡ Some known
        → HasBirth (with_edit users user edit) other known.birth
    edited-all other known there = by (map.get users user) refl
      where
        by : (found : Option Record) → map.get users user ≡ found
            → HasBirth (with_record users user (edited found edit)) other known.birth
        by None none = record { known = known; there = there; same = refl }
        by (Some mine) is = elim (decide_key nat_cmp_total nat_cmp-IsAntisymmetric other user) [
          | inl same ↦ record {
            known = edit mine;
            there = ap (map.get _) same ∙ get-insert_same nat_cmp_total nat_cmp-IsAntisymmetric users user _;
            same = keeps mine
                ∙ ap (λ k. k.birth) (same_Some mine known (sym is ∙ ap (map.get users) (sym same) ∙ there));
          }
          | inr differ ↦ record {
            known = known;
            there = get-insert_other nat_cmp_total nat_cmp-IsAntisymmetric users user _ other differ ∙ there;
            same = refl;
          }
        ]

-- a user's end leaves the others
ended-others : (users : Users) (user other : ℕ) (known : Record) → other ≢ user → map.get users other ≡ Some known
    → HasBirth (after_change users (Destroy user)) other known.birth
ended-others users user other known differ there = record {
  known = known;
  there = get-remove_other nat_cmp_total nat_cmp-IsAntisymmetric users user other differ ∙ there;
  same = refl;
}

module _ (book : Plain) (whole : Whole book) (number : ℕ) (bench : Seen) where
  abbrev machine : Machine
  machine = machine_of book

  abbrev line : Timeline
  line = timeline book.bench.disk machine

  -- the ring beside the machine after this entry, or none
  abbrev RingThen : Option Entry → Type 0
  RingThen entry = RingStands (tried_in book) book.seed bench.keys (machine_with book.ledger.entries machine entry)

  ring-stays : bench.keys ≡ book.bench.keys → RingThen None
  ring-stays same = subst (λ keys. RingStands (tried_in book) book.seed keys machine) (sym same) whole.ring

  ring-synced : bench.keys ≡ book.bench.keys → RingThen (Some Synced)
  ring-synced same = ring-same (tried_in book) book.seed bench.keys machine _ refl refl (ring-stays same)

  -- a user who comes isn't there before
  unborn : (user : ℕ) (op : LocalOp) (birth : Birth) (vault : Vault)
      → StepShows (sealed vault) user (own_of user line) (record { op = op; note = Some (Born birth) }) []
      → map.get (fold_changes machine.log) user ≡ None
  unborn user op birth vault step =
      is_none (map.get (fold_changes machine.log) user)
      (sym (there-user (vault_of (tried_in book) book.seed book.bench.store) line user whole.worlds)
      ∙ ap (λ part. is_some (part De)) (sym (view-shown user _ line whole.worlds.shows))
      ∙ makes-unborn (own_view (own_of user line)) op step.fits step.noted)

  -- where each user who has a key has the birth that was, the ring stands after a change
  ring-changed : (change : Change)
      → ((user : ℕ) (class : Class) (key : List ℕ) → key_of book.bench.keys user class ≡ Some key → (known : Record)
      → map.get (fold_changes machine.log) user ≡ Some known
      → HasBirth (after_change (fold_changes machine.log) change) user known.birth)
      → bench.keys ≡ book.bench.keys → RingThen (Some (Changed number change))
  ring-changed change stays same = record {
    once = subst IsRing (sym same) whole.ring.once;
    owned = whole.ring.owned ∙ ap owners (sym same);
    made = λ user class key at.
        let was = ap (λ keys. key_of keys user class) (sym same) ∙ at in
        let old = whole.ring.made user class key was in
        let now = stays user class key was old.known old.there in record {
          known = now.known;
          there = ap (λ users. map.get users user) (folded-append no_users machine.log change) ∙ now.there;
          made = λ sure. old.made sure ∙ ap (made_key book.seed class user) (sym now.same);
        };
  }

  ring-noted : (user : ℕ) (op : LocalOp) (change : Option LocalChange) (vault : Vault)
      → StepShows (sealed vault) user (own_of user line) (record { op = op; note = change }) []
      → IfSome change (EndsKeyless (share_of user (ground_of book)))
      → bench.keys ≡ book.bench.keys → RingThen (entry_of number (Op user op None) change)
  ring-noted user op None vault step keyless same = ring-stays same
  ring-noted user op (Some (Born birth)) vault step keyless same =
      ring-changed (Create user birth) (λ other class key at. born-others (fold_changes machine.log) user birth
      (unborn user op birth vault step) other) same
  ring-noted user op (Some (Added slot secret)) vault step keyless same =
      ring-changed (Add user slot secret) (λ other class key at. edited-all (fold_changes machine.log) user
      (λ known. with_slot known slot secret) (λ known. refl) other) same
  ring-noted user op (Some (Dropped slot)) vault step keyless same =
      ring-changed (Drop user slot) (λ other class key at. edited-all (fold_changes machine.log) user
      (λ known. without_slot known slot) (λ known. refl) other) same
  ring-noted user op (Some (Settled slot)) vault step keyless same =
      ring-changed (Settle user slot) (λ other class key at. edited-all (fold_changes machine.log) user
      (λ known. settled_slot known slot) (λ known. refl) other) same
  ring-noted user op (Some Destroyed) vault step keyless same =
      ring-changed (Destroy user) (λ other class key at known. ended-others (fold_changes machine.log) user other known
      (λ is. none-some key (sym (keyless class) ∙ ap (λ u. key_of book.bench.keys u class) (sym is) ∙ at))) same

  -- a key comes in
  ring-added : (user : ℕ) (class : Class) (key : List ℕ) → IsGiven (share_of user (ground_of book)) user class key
      → bench.keys ≡ installed book.bench.keys user class key → RingThen (Some (Installed user class))
  ring-added user class key given more = record {
    once = subst IsRing (sym more) (ring-grown user class key book.bench.keys whole.ring.once);
    owned = ap (λ all. with_owner all user class) whole.ring.owned
        ∙ sym (added book.bench.keys user class key) ∙ ap owners (sym more);
    made = λ other kind found at.
        let now : key_of (installed book.bench.keys user class key) other kind ≡ Some found =
        ap (λ keys. key_of keys other kind) (sym more) ∙ at in
        elim (decide-owner (other, kind) (user, class)) [
          | inl same ↦
              let is : key ≡ found = same_Some key found (sym (found-added user class key book.bench.keys)
              ∙ ap (λ owner. key_of (installed book.bench.keys user class key) owner.0 owner.1) (sym same) ∙ now) in
              subst (λ owner. IsMadeKey (tried_in book owner.0) book.seed (fold_changes machine.log) owner.0 owner.1
              found) (sym same) (record {
                known = given.known;
                there = sym (known-shown user _ line whole.worlds.shows) ∙ given.there;
                made = λ sure. sym is ∙ given.given sure;
              })
          | inr differ ↦ whole.ring.made other kind found
              (sym (others-added user class key book.bench.keys (other, kind) differ) ∙ now)
        ];
  }

  -- a key leaves
  ring-taken : (user : ℕ) (class : Class) → bench.keys ≡ removed book.bench.keys user class
      → RingThen (Some (Evicted user class))
  ring-taken user class less = record {
    once = subst IsRing (sym less) (ring-shrunk user class book.bench.keys whole.ring.once);
    owned = ap (λ all. without_owner all user class) whole.ring.owned
        ∙ sym (taken book.bench.keys user class) ∙ ap owners (sym less);
    made = λ other kind found at.
        let now : key_of (removed book.bench.keys user class) other kind ≡ Some found =
        ap (λ keys. key_of keys other kind) (sym less) ∙ at in
        elim (decide-owner (other, kind) (user, class)) [
          | inl same ↦ absurd (none-some found
              (sym (gone-removed user class book.bench.keys whole.ring.once)
              ∙ ap (λ owner. key_of (removed book.bench.keys user class) owner.0 owner.1) (sym same) ∙ now))
          | inr differ ↦ whole.ring.made other kind found
              (sym (others-removed user class book.bench.keys (other, kind) differ) ∙ now)
        ];
  }

  -- a call of a user's task that was done
  user-rings : (task : UserTask) (began : _) (due : Option Item) (call : Call) (change : Option LocalChange)
      (answer : Answer)
      → CallShows (seen_of tasks task) (scene_of (user_of task) (ground_of book) began due) call change
      → Does book.bench bench call answer → RingThen (entry_of number call change)
  user-rings task began due (Op owner op names) change answer shows does =
      subst (λ u. RingThen (entry_of number (Op u op names) change)) (sym shows.stands.mine)
      (ring-noted (user_of task) op change _ shows.stands.step (may-keyless change shows.may)
      (ap (λ b. b.keys) does.1))
    where
      may-keyless : (change : Option LocalChange)
          → IfSome change (MayChange (user_of task) (scene_of (user_of task) (ground_of book) began due))
          → IfSome change (EndsKeyless (share_of (user_of task) (ground_of book)))
      may-keyless None may = tt
      may-keyless (Some change) may = may.keyless
  user-rings task began due Sync change answer shows does = ring-synced (ap (λ b. b.keys) does.1)
  user-rings task began due (Generate tag app_id) change answer shows does = ring-stays (ap (λ b. b.keys) does.3)
  user-rings task began due (Encrypt blob app_id nonce key) change answer shows does =
      ring-stays (ap (λ b. b.keys) does.1)
  user-rings task began due (Decrypt blob app_id text) change answer shows does =
      ring-stays (ap (λ b. b.keys) does.1)
  user-rings task began due (Add owner class key) change answer shows does =
      subst (λ u. bench.keys ≡ installed book.bench.keys u class key → RingThen (Some (Installed u class)))
      (sym shows.stands.mine) (ring-added (user_of task) class key shows.stands.given) (ap (λ b. b.keys) does.1)
  user-rings task began due (Remove owner class) change answer shows does =
      ring-taken owner class (ap (λ b. b.keys) does.1)
  user-rings task began due ListCall change answer shows does = absurd shows.stands
  user-rings task began due (Read place) change answer shows does = ring-stays (ap (λ b. b.keys) does.3)
  user-rings task began due Entries change answer shows does = absurd shows.stands
  user-rings task began due (Delete item tells) change answer shows does =
      ring-same (tried_in book) book.seed bench.keys machine _ refl refl (ring-stays (ap (λ b. b.keys) does.1))

  -- a call of a recovery's
  recovery-rings : (recovery : _) (call : Call) (answer : Answer) → RecoveryCalls (ground_of book) recovery call
      → Does book.bench bench call answer → RingThen (entry_of number call None)
  recovery-rings recovery (Op owner op names) answer calls does = ring-stays (ap (λ b. b.keys) does.1)
  recovery-rings recovery Sync answer calls does = ring-synced (ap (λ b. b.keys) does.1)
  recovery-rings recovery ListCall answer calls does = ring-stays (ap (λ b. b.keys) does.2)
  recovery-rings recovery (Read place) answer calls does = ring-stays (ap (λ b. b.keys) does.3)
  recovery-rings recovery Entries answer calls does = ring-stays (ap (λ b. b.keys) does.1.2)
  recovery-rings recovery (Generate tag app_id) answer calls does = absurd calls
  recovery-rings recovery (Encrypt blob app_id nonce key) answer calls does = absurd calls
  recovery-rings recovery (Decrypt blob app_id text) answer calls does = absurd calls
  recovery-rings recovery (Add user class key) answer calls does = absurd calls
  recovery-rings recovery (Remove user class) answer calls does = absurd calls
  recovery-rings recovery (Delete item tells) answer calls does = absurd calls

module _ (book : Plain) (actor : Actor) (it : Running) (making : Making) (whole : Whole book)
    (plans : Plans book actor it making.task (CallNext making.call making.change)) where
  -- any call
  pub ring-called : (made : Made) (bench : Seen) → IsMade book.bench bench making.call (Ok made)
      → RingStands (tried_then book (after_of book it.number making.call making.change making.then made bench))
      book.seed bench.keys (machine_then book (after_of book it.number making.call making.change making.then made
      bench))
  ring-called (Failed device) bench is_made = ring-stays book whole it.number bench
      (ap (λ b. b.keys) (failed-leaves book.bench bench making.call is_made.1))
  ring-called (Heard answer) bench is_made =
      let entry = entry_of it.number making.call making.change in
      ring-more (tried_in book) _ book.seed bench.keys _
      (tried-more book entry) (by making.task plans.shows)
    where
      by : (task : Task)
          → TaskShows (ground_of book) plans.on.began (due_to book it) task (CallNext making.call making.change)
          → RingThen book whole it.number bench (entry_of it.number making.call making.change)
      by (Using task) shows =
          user-rings book whole it.number bench task plans.on.began (due_to book it) making.call making.change answer
          shows is_made
      by (Recovers recovery) shows =
          subst (λ change. RingThen book whole it.number bench (entry_of it.number making.call change)) (sym shows.0)
          (recovery-rings book whole it.number bench recovery making.call answer shows.1 is_made)
      by (Refusal reply) shows = cc
      by (Fault device held) shows = cc
