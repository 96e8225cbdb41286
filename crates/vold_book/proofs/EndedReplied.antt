-- Of a user whose keys were ended nothing is left after a reply: what was ended before stays so, and a destroy tells
-- that its user is gone only once nothing of the user's stands in any tree that a stop can leave.
use Rattle.std.proofs.Common.{◌≡◌, ◌≢◌, ℕ, zero, suc, inl, inr, Bool, true, false, cond, List, [], ◌∷◌, take, refl}
use Rattle.std.proofs.Common.{sym, ap, ◌∙◌, subst}
use Rattle.std.proofs.lemmas.Bool.{eqb-true, false≢true}
use Rattle.std.proofs.lemmas.Option.{none-some, same_Some}
use Rattle.std.specs.Prelude.{◌==◌, ◌||◌, Option, Some, None, is_some, IsSome, Contains}
use Rattle.std.specs.FinMap as map
use Rattle.tree_model.specs.declared.places.Class.{Class}
use Rattle.tree_model.specs.declared.sites.Site.TheVariants.{De}
use Rattle.tree_model.specs.Disk.{view, IsImage}
use Rattle.tree_model.specs.Named.{IsNamed}
use Rattle.tree_model.specs.Parts.{part_of}
use Rattle.tree_model.specs.Tree.{Tree}
use Rattle.tree_model.proofs.Maps.{get-remove_same, get-remove_other}
use Rattle.key_ring.specs.Ring.{key_of}
use Rattle.keystore_model.specs.declared.entry.StoreEntry.{StoreEntry}
use Rattle.keystore_model.specs.declared.entry.Tag.{Tag}
use Rattle.keystore_model.specs.Store.{entry_of}
use Rattle.keystore_model.proofs.Elements.{Contains-none, Contains-first}
use Rattle.blob_custody.specs.Custody.{IsLeft, IsListed, IsClean}
use Rattle.blob_custody.proofs.Left.{view-left}
use Rattle.journal_model.specs.declared.commands.Actor.{Actor}
use Rattle.journal_model.specs.declared.commands.Actor.TheVariants.{User as UserActor}
use Rattle.journal_model.specs.declared.commands.Command.{Command}
use Rattle.journal_model.specs.declared.commands.Command.TheVariants.{Destroy}
use Rattle.journal_model.specs.declared.commands.Reply.{Reply}
use Rattle.journal_model.specs.declared.commands.Reply.TheVariants.{Gone}
use Rattle.journal_model.specs.declared.entries.Device.{Device}
use Rattle.journal_model.specs.declared.entries.Device.TheVariants.{Tree as TreeDevice, Store as StoreDevice}
use Rattle.journal_model.specs.declared.entries.Device.TheVariants.{Ring as RingDevice}
use Rattle.journal_model.specs.declared.entries.Entry.TheVariants.{Replied}
use Rattle.journal_model.specs.declared.phase.Phase.TheVariants.{Up}
use Rattle.journal_model.specs.Actor.{actor_exact, actor_total}
use Rattle.journal_model.specs.Command.{actor_of}
use Rattle.journal_model.specs.Endings.{destroys, destroyed_by, ended_after, is_ended}
use Rattle.journal_model.specs.Machine.{Running as BeganCommand, is_up, kind_of_reply}
use Rattle.journal_model.specs.Machine.{Outcome, Refusal as RefusalKind}
use Rattle.user_world.specs.Facts.{Holds, Still, Vacant}
use Rattle.user_world.specs.Meaning.{Meaning, StandsFor}
use Rattle.user_world.specs.OwnWorlds.{Step, IsOwnImage}
use Rattle.user_world.specs.Timelines.{Timeline, own_of, world_of, OwnWorldsStand}
use Rattle.user_world.specs.Worlds.{Owned, steps_of}
use Rattle.user_world.proofs.Product.{ops-take}
use Rattle.key_directory.specs.Vaults.{HasEntry, tag_at, sealed}
use Rattle.key_directory.proofs.Apart.{part-owns}
use Rattle.key_directory.proofs.Present.{there-user}
use Rattle.task_turns.specs.declared.next.Next.TheVariants.{Reply as ReplyNext}
use Rattle.user_tasks.specs.Tasks.{user_of}
use Rattle.vold_book.specs.declared.tasks.Running.{Running}
use Rattle.vold_book.specs.declared.tasks.Task.{Task}
use Rattle.vold_book.specs.declared.tasks.Task.TheVariants.{User as Using, Recovery as Recovers, Refusal, Fault}
use Rattle.vold_book.specs.Endings.{LeavesNothing, WasRefused}
use Rattle.vold_book.specs.State.{Plain, ground_of, machine_of, tried_in, vault_of, timeline}
use Rattle.vold_book.specs.Tasks.{TaskStands, TaskShows, Plans, held_in, fault_of, due_to}
use Rattle.vold_book.specs.Whole.{Whole, held_of, custody_of}
use Rattle.vold_book.proofs.EndedKept.{IsVacant}
use Rattle.vold_book.proofs.EndedSteps.{ended-append}
use Rattle.vold_book.proofs.Grounds.{same_user}
use Rattle.vold_book.proofs.HeldBlobs.{IsHeldElse, remove-from}
use Rattle.vold_book.proofs.Isolated.{entry-in}
use Rattle.vold_book.proofs.NamesLive.{left-stands, own-image}
use Rattle.vold_book.proofs.Plains.{replied_plain}
use Rattle.vold_book.proofs.Shown.{next_reply}
use Rattle.vold_book.proofs.Worked.{stands-now}

-- where none of the steps is the user's, none of the first ones is
none-first : (user keep : ℕ) (pending : List Owned) → steps_of user pending ≡ []
    → steps_of user (take keep pending) ≡ []
none-first user zero [] none = refl
none-first user (suc keep) [] none = refl
none-first user zero (owned ∷ rest) none = refl
none-first user (suc keep) (owned ∷ rest) none = by (owned.user == user) none (none-first user keep rest)
  where
    steps : List Step
    steps = steps_of user (take keep rest)

    by : (mine : Bool) → cond mine (owned.step ∷ steps_of user rest) (steps_of user rest) ≡ []
        → (steps_of user rest ≡ [] → steps ≡ []) → cond mine (owned.step ∷ steps) steps ≡ []
    by true none later = cc
    by false none later = later none

-- where nothing of the user's is pending and nothing stands of it, nothing does in any tree that a stop can leave
module _ (meaning : Meaning) (line : Timeline) (user : ℕ) (stands : OwnWorldsStand meaning line)
    (still : Holds Still (own_of user line)) where
  own-left : (left : Tree) → IsLeft line.disk left → part_of left user ≡ part_of line.disk.stable user
  own-left left is = subst (λ steps. IsOwnImage (part_of line.disk.stable user) steps (part_of left user))
      (none-first user is.keep (world_of line).pending still)
      (own-image user (take is.keep (world_of line).pending) line.disk.stable left
      (subst (λ ops. IsImage line.disk.stable ops left)
      (ap (λ d. take is.keep d.pending) stands.shows.is_disk ∙ sym (ops-take (world_of line).pending is.keep))
      is.image))

  still-vacant : Holds Vacant (own_of user line) → IsVacant line.disk user
  still-vacant vacant left site is = ap (λ part. part site) (own-left left is)
      ∙ vacant (part_of line.disk.stable user) site
      (subst (λ steps. IsOwnImage (part_of line.disk.stable user) steps (part_of line.disk.stable user)) (sym still)
      refl)

module _ (book : Plain) (whole : Whole book) (user : ℕ) (vacant : IsVacant book.bench.disk user) where
  -- the user's device key has no directory in the view
  none-there : part_of (view book.bench.disk) user De ≡ None
  none-there = vacant (view book.bench.disk) De (view-left book.bench.disk)

  -- so the user isn't there, and has no key in the ring
  no-key : (class : Class) → key_of book.bench.keys user class ≡ None
  no-key class = by (key_of book.bench.keys user class) refl
    where
      by : (found : Option (List ℕ)) → key_of book.bench.keys user class ≡ found
          → key_of book.bench.keys user class ≡ None
      by None is = is
      by (Some key) is = absurd (false≢true (sym (ap is_some none-there)
          ∙ there-user (vault_of (tried_in book) book.seed book.bench.store)
          (timeline book.bench.disk (machine_of book)) user whole.worlds
          ∙ ap is_some (whole.ring.made user class key is).there))

  module _ (entry : StoreEntry) (has : Contains book.bench.store.entries entry) (of : entry.tag.user ≡ user) where
    abbrev found : entry_of book.bench.store.entries entry.blob ≡ Some entry
    found = entry-in book.bench.store.entries entry whole.store.differ has

    -- no directory names the blob of an entry of the user's, which only the user's own could
    unnamed : ¬ (IsNamed (view book.bench.disk) entry.blob)
    unnamed named = false≢true (sym (ap is_some none-there)
        ∙ subst (λ u. IsSome (part_of (view book.bench.disk) u De)) same named.there.present)
      where
        stands : (users : _) × StandsFor (sealed (vault_of (tried_in book) book.seed book.bench.store))
            (view book.bench.disk) users
        stands = left-stands book whole (view book.bench.disk) (view-left book.bench.disk)

        owns : HasEntry (vault_of (tried_in book) book.seed book.bench.store) (tag_at named.user named.there.site)
            entry.blob
        owns = part-owns (vault_of (tried_in book) book.seed book.bench.store) named.user
            (part_of (view book.bench.disk) named.user) (map.get stands.0 named.user) entry.blob
            (stands.1.user named.user) named.there

        same : named.user ≡ user
        same = sym (ap (λ (t : Tag). t.user) owns.tagged)
            ∙ ap (λ (e : StoreEntry). e.tag.user) (same_Some owns.entry entry (sym owns.live ∙ found)) ∙ of

    -- and only the user's own command could hold it
    holder : (actor : Actor) (it : Running) → map.get book.docket.running actor ≡ Some it
        → Contains (held_of it) entry.blob → actor ≡ UserActor user
    holder actor it runs holds =
        let own = (whole.run actor it runs).holds.own entry.blob holds in
        let owned = own.2 entry.blob (Contains-first entry.blob []) in
        own.1 ∙ ap UserActor (sym owned.tagged
        ∙ ap (λ (e : StoreEntry). e.tag.user) (same_Some owned.entry entry (sym owned.live ∙ found)) ∙ of)

-- only a destroy of the user ends the user's keys, and it is a command of the user's
destroy-own : (user : ℕ) (command : Command) → destroys user command ≡ true → actor_of command ≡ UserActor user
destroy-own user (Destroy owner) is = ap UserActor (eqb-true owner user is)
destroy-own user command is = cc

module _ (book : Plain) (actor : Actor) (it : Running) (now : Task) (reply : Reply) (whole : Whole book)
    (plans : Plans book actor it now (ReplyNext reply)) where
  abbrev began : BeganCommand
  began = plans.on.began

  abbrev after : Plain
  after = replied_plain book actor it began.command reply

  -- nothing stands of the user, and a command of the user's that isn't the one which replies was refused
  record IsLeftWith (user : ℕ) : Type 0 where
    vacant : IsVacant book.bench.disk user
    idle : (o : Running) → UserActor user ≢ actor → map.get book.docket.running (UserActor user) ≡ Some o
        → WasRefused o

  module _ (clean : IsClean (custody_of after)) (user : ℕ) (left : IsLeftWith user) where
    -- what was refused holds nothing
    none-holds : (entry : StoreEntry) → Contains book.bench.store.entries entry → entry.tag.user ≡ user
        → ¬ (IsHeldElse book.docket.running actor entry.blob)
    none-holds entry has of held =
        let by = held.by in
        let own = holder book whole user left.vacant entry has of by.actor by.it by.runs by.holds in
        let refused = left.idle by.it (λ same. held.other (own ∙ same))
        (ap (map.get book.docket.running) (sym own) ∙ by.runs) in
        Contains-none entry.blob (subst (λ task. Contains (held_in task) entry.blob) refused.is by.holds)

    still-listed : after.tracker.phase ≡ Up → (entry : StoreEntry) → Contains book.bench.store.entries entry
        → entry.tag.user ≡ user → IsListed after.bench.list entry.blob
    still-listed up entry has of = elim (clean.placed (ap is_up up) entry.blob
        (ap is_some (found book whole user left.vacant entry has of))) [
          | inl named ↦ absurd (unnamed book whole user left.vacant entry has of named)
          | inr waits ↦ elim waits [
            | inl held ↦ absurd (none-holds entry has of (remove-from book.docket.running actor entry.blob held))
            | inr listed ↦ listed
          ]
        ]

    left-nothing : LeavesNothing after user
    left-nothing = record {
      vacant = left.vacant;
      keyless = no-key book whole user left.vacant;
      listed = still-listed;
      idle = λ o at.
          let differ : UserActor user ≢ actor = λ same.
          none-some o (sym (get-remove_same actor_total actor_exact book.docket.running actor)
          ∙ ap (map.get (map.remove book.docket.running actor)) (sym same) ∙ at) in
          left.idle o differ
          (sym (get-remove_other actor_total actor_exact book.docket.running actor (UserActor user) differ) ∙ at);
    }

  -- that the user is gone is told only once nothing stands
  gone-left : (user : ℕ) → reply ≡ Gone → actor ≡ UserActor user → IsLeftWith user
  gone-left user gone own = record {
    vacant = by now (stands-now book actor it now (ReplyNext reply) plans) plans.shows;
    idle = λ o differ at. absurd (differ (sym own));
  }
    where
      by : (task : Task) → TaskStands (ground_of book) task began
          → TaskShows (ground_of book) began (due_to book it) task (ReplyNext reply) → IsVacant book.bench.disk user
      by (Using task) stands shows =
          let same : user_of task ≡ user =
          same_user (user_of task) user (sym stands.of_user ∙ plans.on.own ∙ own) in
          let ends = shows.gone gone in
          subst (IsVacant book.bench.disk) same
          (still-vacant _ (ground_of book).line (user_of task) whole.worlds ends.still ends.vacant)
      by (Recovers recovery) stands shows = let ended = sym gone ∙ shows.ended in cc
      by (Refusal refusal) stands shows =
          let refused : Outcome ≡ RefusalKind = ap kind_of_reply (sym gone ∙ next_reply reply refusal shows)
          ∙ stands.1 in cc
      by (Fault device held) stands shows = no-fault device (sym gone ∙ next_reply reply (fault_of device) shows)
        where
          no-fault : (device : Device) → Gone ≡ fault_of device → IsVacant book.bench.disk user
          no-fault TreeDevice e = cc
          no-fault StoreDevice e = cc
          no-fault RingDevice e = cc

  -- of a user whose keys were ended before
  was-left : (user : ℕ) → is_ended book.ledger.entries user ≡ true → IsLeftWith user
  was-left user ended = let nothing = whole.ended user ended in record {
    vacant = nothing.vacant;
    idle = λ o differ at. nothing.idle o at;
  }

  ended-left : (user : ℕ) → is_ended after.ledger.entries user ≡ true → IsLeftWith user
  ended-left user ended =
      by reply refl (sym (ended-append user book.ledger.entries (Replied it.number reply)) ∙ ended)
    where
      ends : (now before : Bool) → destroys user began.command ≡ now → is_ended book.ledger.entries user ≡ before
          → now || before ≡ true → reply ≡ Gone → IsLeftWith user
      ends true before is was ended gone =
          gone-left user gone (sym plans.on.own ∙ destroy-own user began.command is)
      ends false before is was ended gone = was-left user (was ∙ ended)

      by : (told : Reply) → reply ≡ told → ended_after user (machine_of book) (is_ended book.ledger.entries user)
          (Replied it.number told) ≡ true → IsLeftWith user
      by Gone gone ended = ends (destroys user began.command) (is_ended book.ledger.entries user) refl refl
          (ap (λ found. destroyed_by user found || is_ended book.ledger.entries user) (sym plans.on.at) ∙ ended) gone
      by told is ended = was-left user ended

  pub replied-ended : IsClean (custody_of after) → (user : ℕ) → is_ended after.ledger.entries user ≡ true
      → LeavesNothing after user
  replied-ended clean user ended = left-nothing clean user (ended-left user ended)
