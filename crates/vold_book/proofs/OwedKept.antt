-- What commands owe, and who is marked, once a call was made.
use Rattle.std.proofs.Common.{◌≡◌, ◌<◌, ℕ, ◌+◌, inl, inr, Bool, true, false, cond, List, []}
use Rattle.std.proofs.Common.{length, refl, sym, ap, ◌∙◌, subst}
use Rattle.std.specs.Prelude.{Option, Some, None, is_some, IsSome, Contains, Ok}
use Rattle.std.specs.FinMap as map
use Rattle.tree_model.specs.declared.blobs.Blob.{Blob}
use Rattle.tree_model.specs.declared.sites.LocalOp.{LocalOp}
use Rattle.tree_model.specs.declared.sites.LocalOp.TheVariants.{RemoveDir}
use Rattle.tree_model.specs.declared.sites.Site.TheVariants.{De, Ce, Temp}
use Rattle.tree_model.specs.declared.places.Place.TheVariants.{De as DePlace, Ce as CePlace}
use Rattle.tree_model.specs.Disk.{view}
use Rattle.tree_model.specs.Parts.{Part, LocalFits, local_kind, part_of}
use Rattle.tree_model.specs.Tree.{Destroy, Drop, kind_if}
use Rattle.deferred_delete.specs.declared.items.Item.{Item}
use Rattle.journal_model.specs.declared.commands.Actor.{Actor}
use Rattle.keystore_model.proofs.Elements.{Contains-none}
use Rattle.user_world.specs.declared.changes.LocalChange.{LocalChange}
use Rattle.user_world.specs.Changes.{noted_kind, change_of, if_noted}
use Rattle.step_core.specs.Table.{NamedPlaces}
use Rattle.task_turns.specs.declared.calls.Call.{Call}
use Rattle.task_turns.specs.declared.calls.Call.TheVariants.{Op}
use Rattle.vold_book.specs.Owed.{Owed, items_from, drops_of}
use Rattle.bench.specs.Bench.{dropped, named_here, Does, Fits, IsMade, Plain as Seen, listed_as, was_done}
use Rattle.vold_book.specs.declared.tasks.Running.{Running}
use Rattle.vold_book.specs.Owing.{OwesOwn, IsOwing, HasTried}
use Rattle.vold_book.specs.State.{Plain, Ground, ground_of, machine_of, tried_in, vault_of}
use Rattle.vold_book.specs.Whole.{Whole, MarksTell, PhaseStands}
use Rattle.vold_book.proofs.Carried.{Carries, carried, owing-on, tried-on, op-grows, undurable-new}
use Rattle.vold_book.proofs.PassedItems.{new-item, owed-from, own-tried}
use Rattle.vold_book.proofs.MadeCalls.{MadeCall, left_by, IsNotes, no-list}
use Rattle.vold_book.proofs.Moves.{After, ground_then, Notes, after_of, Notices}
use Rattle.task_turns.specs.declared.calls.Answer.{Answer}
use Rattle.task_turns.specs.declared.next.Next.TheVariants.{Call as CallNext}
use Rattle.bench.specs.declared.made.Made.TheVariants.{Failed, Heard}
use Rattle.vold_book.specs.declared.tasks.Task.TheVariants.{Fault, Recovery as Recovers, Refusal, User as Using}
use Rattle.task_turns.specs.Names.{Gains}
use Rattle.task_turns.specs.Turns.{IsOwned}
use Rattle.bench.specs.Known.{Knows}
use Rattle.bench.specs.declared.made.Made.{Made}
use Rattle.journal_model.specs.Machine.{NoChangeOf, Running as BeganCommand}
use Rattle.tree_model.specs.Named.{PartNames}
use Rattle.user_world.specs.Meaning.{PartStands}
use Rattle.vold_book.specs.Tasks.{Plans, TaskShows, TaskStands, due_to, ends_passed}
use Rattle.journal_model.specs.Users.{Record}
use Rattle.keystore_model.specs.declared.entry.StoreEntry.{StoreEntry}
use Rattle.keystore_model.specs.declared.entry.Tag.{Tag}
use Rattle.vold_book.specs.declared.tasks.Task.{Task}
use Rattle.journal_model.specs.declared.commands.Actor.TheVariants.{User as UserActor}
use Rattle.key_directory.specs.Vaults.{Vault, sealed}
use Rattle.keystore_model.specs.Store.{entry_of}
use Rattle.user_world.specs.Timelines.{own_of}
use Rattle.std.proofs.lemmas.Option.{same_Some}
use Rattle.user_tasks.specs.Tasks.{user_of}
use Rattle.vold_book.proofs.UserRuns.{known-up}
use Rattle.vold_book.proofs.NamesLive.{left-stands}
use Rattle.vold_book.proofs.MarksKept.{marks-told}
use Rattle.user_world.proofs.Worlds.{owner-change_of}
use Rattle.key_directory.proofs.Apart.{part-owns}
use Rattle.vold_book.proofs.DroppedBlobs.{renames-dropped}
use Rattle.vold_book.proofs.Worked.{stands-now}
use Rattle.blob_custody.proofs.Left.{view-left}
use Rattle.user_world.proofs.Timelines.{view-shown}

abbrev no_change : Option LocalChange
no_change = None

-- an operation that drops something makes a change
module _ (places : NamedPlaces) (user : ℕ) (part : Part)
    (knows : is_some (map.get places (DePlace user)) ≡ is_some (part De)) (blob : Blob) where
  pub drops-noted : (op : LocalOp) (change : Option LocalChange) → local_kind part op ≡ noted_kind change
      → Contains (dropped places user op) blob → IsSome change
  drops-noted op (Some change) noted has = refl
  drops-noted (RemoveDir De) None noted has = absurd (made noted)
    where
      made : Some Destroy ≡ None → ⊥
      made e = cc
  drops-noted (RemoveDir (Ce slot)) None noted has =
      by (is_some (map.get places (DePlace user))) refl has
    where
      made : (there : Bool) → there ≡ true → kind_if there Drop ≡ None → ⊥
      made there is none = cc

      by : (there : Bool) → is_some (map.get places (DePlace user)) ≡ there
          → Contains (cond there (named_here places (CePlace user slot)) []) blob → IsSome no_change
      by true is has = absurd (made (is_some (part De)) (sym knows ∙ is) noted)
      by false is has = absurd (Contains-none blob has)
  drops-noted (RemoveDir Temp) None noted has = absurd (Contains-none blob has)
  drops-noted op None noted has = absurd (Contains-none blob has)

  -- and is a removal where the user is there
  pub drops-there : (op : LocalOp) → LocalFits part op → Contains (dropped places user op) blob → IsSome (part De)
  drops-there (RemoveDir De) fits has = fits
  drops-there (RemoveDir (Ce slot)) fits has = by (is_some (map.get places (DePlace user))) refl has
    where
      by : (there : Bool) → is_some (map.get places (DePlace user)) ≡ there
          → Contains (cond there (named_here places (CePlace user slot)) []) blob → IsSome (part De)
      by true is has = sym knows ∙ is
      by false is has = absurd (Contains-none blob has)
  drops-there (RemoveDir Temp) fits has = absurd (Contains-none blob has)
  drops-there op fits has = absurd (Contains-none blob has)

module _ (book : Plain) (whole : Whole book) (actor : Actor) (it : Running) (done : MadeCall book actor it) where
  abbrev after : After
  after = left_by book actor it done

  abbrev ground : Ground
  ground = ground_of book

  abbrev then : Ground
  then = ground_then book after

  carries : Carries ground then
  carries = carried book whole it.number done.making.change done.making.then done.bench done.making.call done.made
      done.fits done.is_made

  -- what a command owed it owes still
  still-owes : (other : Actor) (owed : Owed) → OwesOwn ground other owed → OwesOwn then other owed
  still-owes other owed owes item among =
      let of = owes item among in (of.0, of.1, owing-on ground then of.0 item carries of.2)

-- what a call lists that was done
module _ (book : Plain) (whole : Whole book) (actor : Actor) (it : Running) (change : Option LocalChange)
    (then : Task) (bench : Seen) where
  abbrev after_done : Call → Answer → After
  after_done call answer = after_of book it.number call change then (Heard answer) bench

  -- it is one of the actor's user
  abbrev OwesItem : Call → Answer → Item → Type 0
  OwesItem call answer item =
      (user : ℕ) × (actor ≡ UserActor user) × IsOwing (ground_then book (after_done call answer)) user item

  -- a change of the user's is one of the user's
  noted-change : (user : ℕ) (note : Option LocalChange) → IsSome note
      → ¬ (NoChangeOf user (if_noted note (change_of user) []))
  noted-change user None some none = cc
  noted-change user (Some noted) some none = none.0 (owner-change_of user noted)

  module _ (user : ℕ) (op : LocalOp) (names : Option Blob) (answer : Answer)
      (does : Does book.bench bench (Op user op names) answer)
      (known : Knows book.bench.places (view book.bench.disk)) where
    abbrev part : Part
    part = part_of (view book.bench.disk) user

    abbrev vault : Vault
    vault = vault_of (tried_in book) book.seed book.bench.store

    same-store : bench.store ≡ book.bench.store
    same-store = ap (λ b. b.store) does.1

    same-list : bench.list ≡ listed_as false book.bench.list (dropped book.bench.places user op)
    same-list = ap (λ b. b.list) does.1

    recorded : (found : Option Record) × PartStands (sealed vault) user part found
    recorded = (_, (left-stands book whole (view book.bench.disk) (view-left book.bench.disk)).1.user user)

    -- a blob that the user's directories name has an entry of the user's
    owned : (blob : Blob) → PartNames part blob → IsOwned book.bench.store.entries user blob
    owned blob names = let owns = part-owns vault user part recorded.0 blob recorded.1 names in
        record { entry = owns.entry; live = owns.live; tagged = ap (λ (t : Tag). t.user) owns.tagged }

    drop-owes : (gains : List Blob) → LocalFits part op → Gains (own_of user (ground_of book).line) op gains
        → local_kind part op ≡ noted_kind change
        → (item : Item) → Contains (items_from book.bench.list.next (dropped book.bench.places user op)) item
        → IsOwing (ground_then book (after_done (Op user op names) answer)) user item
    drop-owes gains fits gained noted item has =
        let new = new-item (record book.bench.list {
          promised = book.bench.list.promised + length (dropped book.bench.places user op);
        }) (dropped book.bench.places user op) item has in
        let of = owned item.blob ((renames-dropped book whole known user op gains fits gained).dropped item.blob
        new.blob) in
        let some = drops-noted book.bench.places user part (known.there (DePlace user)) item.blob op change noted
        new.blob in record {
          numbered = subst (λ list. item.number < list.next) (sym same-list) new.below;
          given = subst (λ store. Contains store.given item.blob) (sym same-store)
              (whole.store.given item.blob (ap is_some of.live));
          stands = inl (record {
            synced = false;
            has = subst (λ list. Contains list.items (record item { synced = false })) (sym same-list)
                (subst (λ off. Contains (listed_as false book.bench.list (dropped book.bench.places user op)).items
                (record item { synced = off })) new.unsynced new.has);
            unsynced = λ off. undurable-new book whole (after_done (Op user op names) answer)
                (if_noted change (change_of user) [])
                (op-grows book whole it.number change then bench user op names answer) user
                (noted-change user change some);
          });
          tagged = λ entry live. ap (λ (e : StoreEntry). e.tag.user)
              (same_Some entry of.entry (sym live ∙ ap (λ s. entry_of s.entries item.blob) same-store ∙ of.live))
              ∙ of.tagged;
        }

  module _ (task : Task) where
    op-new : (call : Call) (answer : Answer) → Does book.bench bench call answer → Fits book.bench call
        → Plans book actor it task (CallNext call change)
        → (item : Item) → Contains (items_from book.bench.list.next (drops_of book.bench.places call)) item
        → OwesItem call answer item
    op-new (Op owner op names) answer does fits plans item has =
        by task (stands-now book actor it task (CallNext (Op owner op names) change) plans) plans.shows
      where
        by : (task : Task) → TaskStands (ground_of book) task plans.on.began
            → TaskShows (ground_of book) plans.on.began (due_to book it) task (CallNext (Op owner op names) change)
            → OwesItem (Op owner op names) answer item
        by (Using user) stands shows =
            let is_owner : actor ≡ UserActor owner =
            sym plans.on.own ∙ stands.of_user ∙ ap UserActor (sym shows.stands.mine) in (
              owner,
              is_owner,
              drop-owes owner op names answer does (known-up book whole actor it plans.runs owner is_owner)
                  shows.stands.gains fits.0
                  (subst (λ u. Gains (own_of u (ground_of book).line) op shows.stands.gains) (sym shows.stands.mine)
                  shows.stands.gained)
                  (subst (λ u. local_kind (part_of (view book.bench.disk) u) op ≡ noted_kind change)
                  (sym shows.stands.mine)
                  (ap (λ part. local_kind part op) (sym (view-shown (user_of user) _ _ whole.worlds.shows))
                  ∙ shows.stands.step.noted)) item has,
            )
        by (Recovers recovery) stands shows = absurd (Contains-none item (subst
            (λ drops. Contains (items_from book.bench.list.next drops) item) shows.1.lists has))
        by (Refusal reply) stands shows = cc
        by (Fault device held) stands shows = cc
    op-new call answer does fits plans item has = absurd (Contains-none item has)

-- what commands owe, and who is marked, once the call was made
module _ (book : Plain) (whole : Whole book) (actor : Actor) (it : Running) (done : MadeCall book actor it)
    (notes : Notes) (is : IsNotes book actor it done notes) where
  new-owes : (made : Made) → was_done made ≡ true → IsMade book.bench done.bench done.making.call (Ok made)
      → (item : Item)
      → Contains (items_from book.bench.list.next (drops_of book.bench.places done.making.call)) item
      → (user : ℕ) × (actor ≡ UserActor user) × IsOwing (ground_then book (after_of book it.number done.making.call
      done.making.change done.making.then made done.bench)) user item
  new-owes (Heard answer) was is_made item has =
      op-new book whole actor it done.making.change done.making.then done.bench done.making.task done.making.call
      answer is_made done.fits done.plans item has
  new-owes (Failed device) was is_made item has = cc

  owes-own : OwesOwn (ground_then book (left_by book actor it done)) actor notes.owed
  owes-own item among =
      elim (owed-from book.bench.places book.bench.list.next done.making.call (was_done done.made) it.owed item
      (subst (λ owed. Contains owed.items item) is.owed among)) [
        | inl was ↦ still-owes book whole actor it done actor it.owed done.plans.on.owes item was
        | inr new ↦ new-owes done.made new.0 done.is_made item new.1
      ]

  -- of the command that the actor ran
  came-as-far : (ran : Running) → map.get book.docket.running actor ≡ Some ran → (began : BeganCommand)
      → map.get (machine_of book).running ran.number ≡ Some began
      → HasTried (ground_then book (left_by book actor it done)) (ends_passed began.command done.making.then)
      notes.owed
  came-as-far ran runs began at =
      let same = same_Some it ran (sym done.plans.runs ∙ runs) in
      let one : done.plans.on.began ≡ began = same_Some done.plans.on.began began
      (sym done.plans.on.at ∙ ap (λ (r : Running). map.get (machine_of book).running r.number) same ∙ at) in
      subst (λ (b : BeganCommand). HasTried (ground_then book (left_by book actor it done))
      (ends_passed b.command done.making.then) notes.owed) one
      (subst (HasTried (ground_then book (left_by book actor it done))
      (ends_passed done.plans.on.began.command done.making.then)) (sym is.owed) (own-tried book whole actor it done))

  pub called-notices : Notices book actor notes (left_by book actor it done)
  called-notices = record {
    mine = owes-own;
    tried = came-as-far;
    others = λ other o differ at. still-owes book whole actor it done other o.owed (whole.run other o at).owes;
    others_tried = λ other o differ at ends. tried-on (ground_of book)
        (ground_then book (left_by book actor it done)) other ends o.owed (carries book whole actor it done)
        (whole.run other o at).owes;
    marks = λ up. subst (λ marks. MarksTell marks done.bench.places
        (ground_then book (left_by book actor it done)).line) (sym is.marks)
        (let stands = subst (λ phase. PhaseStands phase book (machine_of book)) up whole.phase in
        marks-told book whole it.number done.making.change done.making.then done.bench stands.1 stands.0.there
        (done.moves.up up).there _ done.making.call done.made done.fits done.is_made done.moves.worlds
        (no-list book actor it whole done.making.task done.making.call done.making.change done.plans up));
  }
