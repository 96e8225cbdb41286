-- What a recovery lists: live blobs that no directory names, while nothing else runs.
use Rattle.std.proofs.Common.{◌≡◌, ℕ, inl, inr, true, false, cond, List, [], ◌∷◌, length, refl, sym, ap, ◌∙◌, subst}
use Rattle.std.proofs.Common.{eq-eqb}
use Rattle.std.specs.Prelude.{◌+◌, Option, Some, None, is_some, Contains}
use Rattle.std.specs.FinMap as map
use Rattle.tree_model.specs.declared.blobs.Blob.{Blob}
use Rattle.tree_model.specs.declared.sites.Site.{Site}
use Rattle.tree_model.specs.declared.sites.Site.TheVariants.{De, Ce, Temp}
use Rattle.tree_model.specs.declared.places.Place.TheVariants.{De as DePlace, Ce as CePlace}
use Rattle.tree_model.specs.Dir.{Files}
use Rattle.tree_model.specs.Disk.{view}
use Rattle.tree_model.specs.Named.{named_at, IsNamed}
use Rattle.tree_model.specs.Parts.{part_of, standing}
use Rattle.tree_model.specs.Tree.{Tree}
use Rattle.journal_model.specs.declared.commands.Actor.TheVariants.{Boot, User as UserActor}
use Rattle.journal_model.specs.declared.phase.Phase.TheVariants.{Down}
use Rattle.keystore_model.specs.declared.entry.StoreEntry.{StoreEntry}
use Rattle.keystore_model.specs.Store.{IsLive, Differ, entry_of, blobs_of, same_bytes}
use Rattle.keystore_model.proofs.Elements.{Contains-none, Contains-first, Contains-rest, Contains-cases}
use Rattle.keystore_model.proofs.Stores.{bytes-same}
use Rattle.blob_custody.specs.Custody.{Custody, IsClean}
use Rattle.blob_custody.proofs.Left.{view-left}
use Rattle.blob_custody.proofs.Recoveries.{clean-listing}
use Rattle.key_directory.specs.Shape.{sized}
use Rattle.step_core.specs.Table.{NamedPlaces}
use Rattle.bench.specs.Bench.{IsKnown, AreUnnamed, Nothing, Unnamed, Named, named_in, listed}
use Rattle.bench.specs.Known.{Knows}
use Rattle.vold_book.specs.Recovery.{IsSettled}
use Rattle.vold_book.specs.State.{Plain, machine_of, ground_of, tried_in, vault_of}
use Rattle.vold_book.specs.Whole.{Whole, PhaseStands, all_held, custody_of}
use Rattle.vold_book.proofs.HeldBlobs.{held-from}
use Rattle.vold_book.proofs.NamesLive.{left-stands, named-long}
use Rattle.vold_book.proofs.Custodies.{clean-listed}

module _ (places : NamedPlaces) where
  -- what was found is among the blobs, and no known place names it
  found-from : (blobs found : List Blob) → AreUnnamed places blobs found → (blob : Blob) → Contains found blob
      → Contains blobs blob × ¬ (IsKnown places blob)
  found-from blobs found Nothing blob has = absurd (Contains-none blob has)
  found-from blobs found (Unnamed first rest later unknown are) blob has = elim (Contains-cases first later blob has) [
    | inl same ↦ (
      subst (Contains (first ∷ rest)) same (Contains-first first rest),
      subst (λ b. ¬ (IsKnown places b)) same unknown,
    )
    | inr more ↦
        let there = found-from rest later are blob more in (Contains-rest first rest blob there.0, there.1)
  ]
  found-from blobs found (Named first rest later known are) blob has =
      let there = found-from rest found are blob has in (Contains-rest first rest blob there.0, there.1)

  -- and stands there once
  found-differ : (blobs found : List Blob) → AreUnnamed places blobs found → Differ blobs → Differ found
  found-differ blobs found Nothing differ = tt
  found-differ blobs found (Unnamed first rest later unknown are) differ = (
    λ has. differ.0 (found-from rest later are first has).0,
    found-differ rest later are differ.1,
  )
  found-differ blobs found (Named first rest later known are) differ = found-differ rest found are differ.1

-- the blob of an entry has one
entry-live : (entries : List StoreEntry) (blob : Blob) → Contains (blobs_of entries) blob → IsLive entries blob
entry-live [] blob has = absurd (Contains-none blob has)
entry-live (first ∷ entries) blob has = elim (Contains-cases first.blob (blobs_of entries) blob has) [
  | inl same ↦ ap (λ t. is_some (cond t (Some first) (entry_of entries blob)))
      (ap (same_bytes blob) same ∙ bytes-same blob)
  | inr later ↦
      elim (same_bytes blob first.blob) as (λ t. is_some (cond t (Some first) (entry_of entries blob)) ≡ true) [
        | true ↦ refl
        | false ↦ entry-live entries blob later
      ]
]

-- a directory that names a blob of 32 bytes is known with it
named-there : (found : Option Files) (blob : Blob) → named_at found ≡ Some blob → length blob ≡ 32
    → named_in found ≡ Some (Some blob)
named-there None blob is long = cc
named-there (Some files) blob is long =
    ap (λ named. Some (sized named)) is
    ∙ ap (λ test. Some (cond test (Some blob) None)) (eq-eqb (length blob) 32 long)

module _ (places : NamedPlaces) (tree : Tree) (knows : Knows places tree) (user : ℕ) (blob : Blob)
    (long : length blob ≡ 32) where
  names-known : (site : Site) → named_at (standing (part_of tree user) site) ≡ Some blob → IsKnown places blob
  names-known De is = record {
    place = DePlace user;
    names = knows.names (DePlace user) (λ h. h) ∙ named-there (map.get tree (DePlace user)) blob is long;
  }
  names-known (Ce slot) is = record {
    place = CePlace user slot;
    names =
        knows.names (CePlace user slot) (λ h. h) ∙ named-there (map.get tree (CePlace user slot)) blob is long;
  }
  names-known Temp is = cc

module _ (book : Plain) (whole : Whole book) where
  -- while the machine is down, nothing is held
  pub down-holds : book.tracker.phase ≡ Down → (blob : Blob) → ¬ (Contains (all_held book.docket.running) blob)
  down-holds down blob has =
      let by = held-from book.docket.running blob has in
      let alone = (subst (λ phase. PhaseStands phase book (machine_of book)) down whole.phase).1 in
      apart _ (sym (alone by.actor by.it by.runs)
      ∙ ((whole.run by.actor by.it by.runs).holds.own blob by.holds).1)
    where
      apart : (user : ℕ) → Boot ≡ UserActor user → ⊥
      apart user e = cc

  -- what the view names is known
  pub view-known : Knows book.bench.places (view book.bench.disk) → (blob : Blob)
      → IsNamed (view book.bench.disk) blob → IsKnown book.bench.places blob
  view-known knows blob named =
      let stands = left-stands book whole (view book.bench.disk) (view-left book.bench.disk) in
      names-known book.bench.places (view book.bench.disk) knows named.user blob
      (named-long (vault_of (tried_in book) book.seed book.bench.store) named.user
      (part_of (view book.bench.disk) named.user) _ blob
      (stands.1.user named.user) named.there) named.there.site named.there.names

  -- what a recovery finds is listed
  pub clean-found : (found : List Blob) → book.tracker.phase ≡ Down → IsSettled (ground_of book)
      → book.bench.list.items ≡ [] → AreUnnamed book.bench.places (blobs_of book.bench.store.entries) found
      → IsClean (record (custody_of book) { list = listed book.bench.list found })
  clean-found found down settled none are =
      clean-listing before found
      (clean-listed (custody_of book) book.bench.list.next (book.bench.list.promised + length found) whole.clean)
      settled.still
      (found-differ book.bench.places (blobs_of book.bench.store.entries) found are whole.store.differ)
      (λ blob has.
      let from = found-from book.bench.places (blobs_of book.bench.store.entries) found are blob has in record {
        live = entry-live book.bench.store.entries blob from.0;
        unnamed = λ named. from.1 (view-known settled.tidy.known blob named);
        free = down-holds down blob;
        unlisted = λ listed. Contains-none listed.item
            (subst (λ items. Contains items listed.item) none listed.has);
      })
    where
      before : Custody
      before = record (custody_of book) {
        list = record book.bench.list { promised = book.bench.list.promised + length found };
      }
