-- The numbers of the list rise still, whatever blobs come on it and whatever a call leaves of it.
use Rattle.std.proofs.Common.{◌≡◌, ◌+◌, ◌^◌, ◌<◌, ◌≤◌, Bool, true, false, List, [], ◌∷◌, length, sym, ap, subst}
use Rattle.std.proofs.Common.{ℕ, arith}
use Rattle.std.specs.Prelude.{Ok, Contains}
use Rattle.std.proofs.lemmas.List.{length-map, get_or-map}
use Rattle.std.proofs.lemmas.List.Elements.{All-contains}
use Rattle.tree_model.specs.declared.blobs.Blob.{Blob}
use Rattle.tree_model.specs.declared.sites.LocalOp.{LocalOp}
use Rattle.tree_model.specs.declared.sites.LocalOp.TheVariants.{MakeDir, Write, RenameFile, RenameDir, RemoveFile}
use Rattle.tree_model.specs.declared.sites.LocalOp.TheVariants.{RemoveDir}
use Rattle.deferred_delete.specs.declared.items.Item.{Item}
use Rattle.deferred_delete.specs.Deferral.{Deferral, IsNumbered, numbers, pushed}
use Rattle.deferred_delete.proofs.Numbered.{numbered-noted, numbered-taken, numbered-promised, numbered-pushed}
use Rattle.keystore_model.specs.declared.entry.StoreEntry.{StoreEntry}
use Rattle.keystore_model.specs.Store.{blobs_of}
use Rattle.blob_custody.specs.Steps.{pushed_all}
use Rattle.step_core.specs.Table.{NamedPlaces}
use Rattle.task_turns.specs.declared.calls.Answer.{Answer}
use Rattle.task_turns.specs.declared.calls.Call.{Call}
use Rattle.task_turns.specs.declared.calls.Call.TheVariants.{Op, Sync, List as ListCall, Read, Generate, Encrypt}
use Rattle.task_turns.specs.declared.calls.Call.TheVariants.{Decrypt, Entries, Delete, Add, Remove}
use Rattle.bench.specs.declared.made.Made.{Made}
use Rattle.bench.specs.declared.made.Made.TheVariants.{Heard, Failed}
use Rattle.bench.specs.Bench.{Plain, Fits, Does, IsFailed, IsFailedOp, IsMade, dropped, listed_as}
use Rattle.bench.specs.Bench.{AreUnnamed, Nothing, Unnamed, Named}
use Rattle.std.proofs.Common.{◌∙◌}

-- an item of the list has a number that was given
pub listed-below : (list : Deferral) (item : Item) → IsNumbered list → Contains list.items item
    → item.number < list.next
listed-below list item numbered has =
    All-contains (λ number. number < list.next) (numbers list.items) item.number numbered.below (
      has.0,
      let here = has.1 in omega (arith, here, length-map list.items (λ (i : Item). i.number)),
      get_or-map (λ (i : Item). i.number) list.items has.0 item item.number has.1
          ∙ ap (λ (i : Item). i.number) has.2,
    )

-- with further blobs, for each of which there is a place
numbered-pushed_all : (list : Deferral) (blobs : List Blob) (synced : Bool) → IsNumbered list
    → length blobs ≤ list.promised → IsNumbered (pushed_all list blobs synced)
numbered-pushed_all list [] synced numbered room = numbered
numbered-pushed_all list (blob ∷ blobs) synced numbered room =
    numbered-pushed_all (pushed list blob synced) blobs synced
    (numbered-pushed list blob synced numbered (omega (arith, room))) (omega (arith, room))

-- and at places of their own
pub numbered-listed : (synced : Bool) (list : Deferral) (blobs : List Blob) → IsNumbered list
    → list.next + list.promised + length blobs < 2 ^ 63 → IsNumbered (listed_as synced list blobs)
numbered-listed synced list blobs numbered few =
    numbered-pushed_all (record list { promised = list.promised + length blobs }) blobs synced
    (numbered-promised list (list.promised + length blobs) numbered (omega (arith, few))) (omega arith)

-- no more are found than there are
pub few-unnamed : (places : NamedPlaces) (blobs found : List Blob) → AreUnnamed places blobs found
    → length found ≤ length blobs
few-unnamed places blobs found Nothing = omega arith
few-unnamed places blobs found (Unnamed blob rest others unknown are) =
    let few = few-unnamed places rest others are in omega (arith, few)
few-unnamed places blobs found (Named blob rest others known are) =
    let few = few-unnamed places rest others are in omega (arith, few)

module _ (before after : Plain) (numbered : IsNumbered before.list) where
  same : after.list ≡ before.list → IsNumbered after.list
  same is = subst IsNumbered (sym is) numbered

  done : (call : Call) (answer : Answer) → Fits before call → Does before after call answer → IsNumbered after.list
  done (Op user op names) answer fits (is, does) = subst IsNumbered (sym (ap (λ bench. bench.list) does))
      (numbered-listed false before.list (dropped before.places user op) numbered fits.1)
  done Sync answer fits (is, does) =
      subst IsNumbered (sym (ap (λ bench. bench.list) does)) (numbered-noted before.list numbered)
  done ListCall answer fits (is, knows, does) = same (ap (λ bench. bench.list) does)
  done (Read place) answer fits (files, at, is, does) = same (ap (λ bench. bench.list) does)
  done (Generate tag app_id) answer fits (blob, is, made, does) = same (ap (λ bench. bench.list) does)
  done (Encrypt blob app_id nonce key) answer fits (is, does) = same (ap (λ bench. bench.list) does)
  done (Decrypt blob app_id sealed) answer fits (is, does) = same (ap (λ bench. bench.list) does)
  done Entries answer fits (is, (found, are, does)) =
      let few = few-unnamed before.places (blobs_of before.store.entries) found are in
      let all = length-map before.store.entries (λ (entry : StoreEntry). entry.blob) in
      subst IsNumbered (sym (ap (λ bench. bench.list) does))
      (numbered-listed true before.list found numbered (omega (arith, fits, few, all)))
  done (Delete item tells) answer fits (is, does) =
      subst IsNumbered (sym (ap (λ bench. bench.list) does)) (numbered-taken item.number before.list numbered)
  done (Add user class key) answer fits (is, does) = same (ap (λ bench. bench.list) does)
  done (Remove user class) answer fits (is, does) = same (ap (λ bench. bench.list) does)

  failed-op : (user : ℕ) (op : LocalOp) → IsFailedOp before after user op → after.list ≡ before.list
  failed-op user (Write site file bytes) (other, is) = ap (λ bench. bench.list) is
  failed-op user (MakeDir site) is = ap (λ bench. bench.list) is
  failed-op user (RenameFile site from to) is = ap (λ bench. bench.list) is
  failed-op user (RenameDir from to) is = ap (λ bench. bench.list) is
  failed-op user (RemoveFile site file) is = ap (λ bench. bench.list) is
  failed-op user (RemoveDir site) is = ap (λ bench. bench.list) is

  failed : (call : Call) → IsFailed before after call → after.list ≡ before.list
  failed (Op user op names) is = failed-op user op is
  failed Sync is = ap (λ bench. bench.list) is
  failed ListCall is = ap (λ bench. bench.list) is
  failed (Read place) is = ap (λ bench. bench.list) is
  failed (Generate tag app_id) is = ap (λ bench. bench.list) is
  failed (Encrypt blob app_id nonce key) is = ap (λ bench. bench.list) is
  failed (Decrypt blob app_id sealed) is = ap (λ bench. bench.list) is
  failed Entries is = ap (λ bench. bench.list) is
  failed (Delete item tells) is = ap (λ bench. bench.list) is
  failed (Add user class key) is = ap (λ bench. bench.list) is
  failed (Remove user class) is = ap (λ bench. bench.list) is

  -- once a call was made
  pub numbered-made : (call : Call) (made : Made) → Fits before call → IsMade before after call (Ok made)
      → IsNumbered after.list
  numbered-made call (Heard answer) fits does = done call answer fits does
  numbered-made call (Failed device) fits (is, fails) = same (failed call fails)
