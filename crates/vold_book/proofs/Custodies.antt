-- Each turn of a Book keeps its blobs in order: every live one is named, held or listed.
use Rattle.std.proofs.Common.{◌≡◌, ℕ, ◌+◌, ◌++◌, inl, inr, true, false, List, [], ◌∷◌, length, sym, ap, ◌∙◌, subst}
use Rattle.std.proofs.lemmas.Option.{same_Some}
use Rattle.std.specs.Prelude.{Bool, Some, None, Contains}
use Rattle.std.specs.FinMap as map
use Rattle.tree_model.specs.declared.blobs.Blob.{Blob}
use Rattle.tree_model.specs.declared.sites.LocalOp.{LocalOp}
use Rattle.tree_model.specs.Disk.{with_op, synced}
use Rattle.tree_model.specs.Sites.{op_of}
use Rattle.journal_model.specs.declared.commands.Actor.{Actor}
use Rattle.journal_model.specs.declared.commands.Actor.TheVariants.{User as UserActor}
use Rattle.journal_model.specs.Machine.{is_up}
use Rattle.keystore_model.specs.declared.entry.StoreEntry.{StoreEntry}
use Rattle.keystore_model.specs.declared.entry.Tag.{Tag}
use Rattle.keystore_model.specs.Store.{Store, Differ, IsGenerated, new_entry, deleted}
use Rattle.keystore_model.proofs.Elements.{Contains-first}
use Rattle.keystore_model.proofs.Stores.{not-given}
use Rattle.deferred_delete.specs.declared.items.Item.{Item}
use Rattle.deferred_delete.specs.Deferral.{Deferral, noted, taken}
use Rattle.blob_custody.specs.Custody.{Custody, IsListed, IsClean}
use Rattle.blob_custody.specs.Steps.{LetsGo, Renames, after_sync, with_held_entry, without_item}
use Rattle.blob_custody.proofs.Steps.{clean-generated, clean-operation, clean-sync, clean-delete, lets-none}
use Rattle.bench.specs.Bench.{Plain as Seen, listed_as}
use Rattle.vold_book.specs.declared.tasks.Running.{Running}
use Rattle.vold_book.specs.State.{Plain}
use Rattle.vold_book.specs.Whole.{Whole, held_of, all_held, custody_of}
use Rattle.vold_book.proofs.HeldBlobs.{HoldsAlone, lets-go, same-insert, same-pushed, clean-held}
use Rattle.vold_book.proofs.NamesLive.{names-live}

-- the custody of a bench, with the blobs that are held, and whether a recovery is due
abbrev pub custody_at : Seen → List Blob → Bool → Custody
custody_at bench held ready = record {
  disk = bench.disk;
  base = None;
  entries = bench.store.entries;
  list = bench.list;
  held = held;
  ready = ready;
}

-- what custody sees of a bench
abbrev pub sensed : Seen → Custody
sensed bench = custody_at bench [] true

-- custody rests on the items of the list alone
pub relisted : (list : Deferral) (next promised : ℕ) (blob : Blob) → IsListed list blob
    → IsListed (record list { next = next; promised = promised }) blob
relisted list next promised blob listed = record { item = listed.item; has = listed.has; is = listed.is }

pub clean-listed : (custody : Custody) (next promised : ℕ) → IsClean custody
    → IsClean (record custody { list = record custody.list { next = next; promised = promised } })
clean-listed custody next promised clean = record {
  placed = λ ready blob live. elim (clean.placed ready blob live) [
    | inl named ↦ inl named
    | inr waits ↦ elim waits [
      | inl held ↦ inr (inl held)
      | inr listed ↦ inr (inr (relisted custody.list next promised blob listed))
    ]
  ];
  once = clean.once;
  live = clean.live;
  unnamed = clean.unnamed;
  free = clean.free;
  gone = clean.gone;
  held_live = clean.held_live;
  held_gone = clean.held_gone;
}

module _ (book : Plain) (whole : Whole book) where
  -- two commands of different actors hold no blob both, since its entry's tag tells the user
  pub holds-alone : (actor : Actor) (it : Running) → map.get book.docket.running actor ≡ Some it
      → HoldsAlone book.docket.running actor (held_of it)
  holds-alone actor it runs blob mine held =
      let own = (whole.run actor it runs).holds.own blob mine in
      let other = (whole.run held.by.actor held.by.it held.by.runs).holds.own blob held.by.holds in
      let owned = own.2 blob (Contains-first blob []) in
      let theirs = other.2 blob (Contains-first blob []) in
      let one = same_Some theirs.entry owned.entry (sym theirs.live ∙ owned.live) in
      held.other (other.1
      ∙ ap UserActor (sym theirs.tagged ∙ ap (λ (e : StoreEntry). e.tag.user) one ∙ owned.tagged) ∙ sym own.1)

-- an actor's call, and what the actor runs then
module _ (book : Plain) (whole : Whole book) (actor : Actor) (it then : Running)
    (runs : map.get book.docket.running actor ≡ Some it) where
  -- what a call leaves of a bench is in order
  abbrev pub CleanSensed : Custody → Type 0
  CleanSensed custody = IsClean (record custody {
    held = all_held (map.insert book.docket.running actor then);
    ready = is_up book.tracker.phase;
  })

  abbrev pub CleanAt : Seen → Type 0
  CleanAt bench = CleanSensed (sensed bench)

  -- nothing changed, and the same is held
  pub clean-still : held_of then ≡ held_of it → CleanAt book.bench
  clean-still same = clean-held (custody_of book) (all_held (map.insert book.docket.running actor then)) whole.clean
      (same-insert book.docket.running actor it then runs same)

  -- one more operation of a user's, with what it drops listed
  pub clean-operated : (bench : Seen) (user : ℕ) (op : LocalOp) (gains drops : List Blob)
      → Renames book.bench.disk user op gains drops → Differ drops → LetsGo (held_of it) gains (held_of then)
      → sensed bench ≡ sensed (record book.bench {
        disk = with_op book.bench.disk (op_of user op);
        list = listed_as false book.bench.list drops;
      }) → CleanAt bench
  clean-operated bench user op gains drops renames differ goes is = subst CleanSensed (sym is)
      (clean-operation (record (custody_of book) {
        list = record book.bench.list { promised = book.bench.list.promised + length drops };
      }) user op gains drops (all_held (map.insert book.docket.running actor then))
      (clean-listed (custody_of book) book.bench.list.next (book.bench.list.promised + length drops) whole.clean)
      (record {
        names = names-live book whole;
        renames = renames;
        lets_go = lets-go book.docket.running actor it runs (holds-alone book whole actor it runs) gains then goes;
        differ = differ;
      }))

  -- one of the temporary place, with nothing listed
  pub clean-renamed : (bench : Seen) (user : ℕ) (op : LocalOp) → Renames book.bench.disk user op [] []
      → held_of then ≡ held_of it
      → sensed bench ≡ sensed (record book.bench { disk = with_op book.bench.disk (op_of user op) }) → CleanAt bench
  clean-renamed bench user op renames same is = subst CleanSensed (sym is)
      (clean-operation (custody_of book) user op [] [] (all_held (map.insert book.docket.running actor then))
      whole.clean (record {
        names = names-live book whole;
        renames = renames;
        lets_go = lets-go book.docket.running actor it runs (holds-alone book whole actor it runs) [] then
            (lets-none (held_of it) (held_of then) same);
        differ = tt;
      }))

  -- the entry of a listed item was deleted
  pub clean-deleted : (bench : Seen) (item : Item) → Contains book.bench.list.items item → held_of then ≡ held_of it
      → sensed bench ≡ sensed (record book.bench {
        store = deleted book.bench.store item.blob;
        list = record book.bench.list { items = taken book.bench.list.items item.number };
      }) → CleanAt bench
  clean-deleted bench item listed same is = subst CleanSensed (sym is)
      (clean-held (without_item (custody_of book) item) (all_held (map.insert book.docket.running actor then))
      (clean-delete (custody_of book) item whole.clean whole.numbered listed)
      (same-insert book.docket.running actor it then runs same))

  pub clean-synced : (bench : Seen) → held_of then ≡ held_of it
      → sensed bench ≡ sensed (record book.bench {
        disk = synced book.bench.disk;
        list = record book.bench.list { items = noted book.bench.list.items };
      }) → CleanAt bench
  clean-synced bench same is = subst CleanSensed (sym is)
      (clean-held (after_sync (custody_of book) None) (all_held (map.insert book.docket.running actor then))
      (clean-sync (custody_of book) None whole.clean) (same-insert book.docket.running actor it then runs same))

  -- an entry was made, whose blob is held
  pub clean-entered : (bench : Seen) (tag : Tag) (app_id : List ℕ) (blob : Blob)
      → IsGenerated book.bench.store bench.store tag app_id blob → held_of then ≡ held_of it ++ blob ∷ []
      → bench ≡ record book.bench { store = bench.store; store_counts = bench.store_counts } → CleanAt bench
  clean-entered bench tag app_id blob made more is = subst CleanAt (sym is)
      (subst (λ (s : Store). CleanAt (record book.bench { store = s; store_counts = bench.store_counts }))
      (sym made.made)
      (clean-held (with_held_entry (custody_of book) entry) (all_held (map.insert book.docket.running actor then))
      (clean-generated (custody_of book) entry whole.clean (names-live book whole)
      (not-given book.bench.store blob whole.store made.fresh))
      (same-pushed book.docket.running actor it then (blob ∷ []) runs more)))
    where
      entry : StoreEntry
      entry = new_entry book.bench.store blob tag app_id made.key
