-- A call leaves a store, at the same level, with each entry at it.
use Rattle.std.proofs.Common.{◌≡◌, List, [], ◌∷◌, ◌++◌, ℕ, inl, inr, sym, ap, ◌∙◌, subst}
use Rattle.std.proofs.lemmas.Option.{same_Some}
use Rattle.std.specs.Prelude.{Some, None, Ok}
use Rattle.tree_model.specs.declared.blobs.Blob.{Blob}
use Rattle.keystore_model.specs.declared.entry.StoreEntry.{StoreEntry}
use Rattle.keystore_model.specs.declared.entry.Tag.{Tag}
use Rattle.task_turns.specs.declared.calls.Answer.{Answer}
use Rattle.task_turns.specs.declared.calls.Call.{Call}
use Rattle.task_turns.specs.declared.calls.Call.TheVariants.{Op as OpCall, Sync, List as ListCall, Read, Delete}
use Rattle.task_turns.specs.declared.calls.Call.TheVariants.{Generate, Encrypt, Decrypt, Entries, Add, Remove}
use Rattle.bench.specs.declared.made.Made.{Made}
use Rattle.bench.specs.declared.made.Made.TheVariants.{Heard, Failed}
use Rattle.bench.specs.Bench.{Plain as Seen, Does, IsMade}
use Rattle.bench.proofs.Failures.{failed-leaves}
use Rattle.vold_book.proofs.Carried.{without-found}
use Rattle.keystore_model.specs.Store.{IsStore, Store, entry_of, new_entry, generated}
use Rattle.keystore_model.proofs.Stores.{after-delete, after-generate, decide-bytes, entry-push, entry-push_other}
use Rattle.keystore_model.proofs.Stores.{not-given}

-- every entry of a store is at its level
abbrev pub IsLevel : Store → Type 0
IsLevel store =
    (blob : Blob) (entry : StoreEntry) → entry_of store.entries blob ≡ Some entry → entry.level ≡ store.level

-- a call leaves a store, at the same level, and its entries too
pub record KeepsStore (before after : Seen) : Type 0 where
  pub whole : IsStore after.store
  pub level : after.store.level ≡ before.store.level
  pub current : IsLevel before.store → IsLevel after.store

-- an entry that is made is at the store's level
generated-level : (store : Store) (blob : Blob) (tag : Tag) (app_id key : List ℕ)
    → entry_of store.entries blob ≡ None → IsLevel store → IsLevel (generated store blob tag app_id key)
generated-level store blob tag app_id key none current other entry live = elim (decide-bytes other blob) [
  | inl same ↦
      let made = new_entry store blob tag app_id key in
      sym (ap (λ (e : StoreEntry). e.level) (same_Some made entry
      (sym (entry-push store.entries made none)
      ∙ ap (entry_of (store.entries ++ made ∷ [])) (sym same) ∙ live)))
  | inr differ ↦ current other entry (sym (entry-push_other store.entries _ other differ) ∙ live)
]

module _ (before after : Seen) (whole : IsStore before.store) where
  same-store : after.store ≡ before.store → KeepsStore before after
  same-store same = record {
    whole = subst IsStore (sym same) whole;
    level = ap (λ s. s.level) same;
    current = subst IsLevel (sym same);
  }

  done-store : (call : Call) (answer : Answer) → Does before after call answer → KeepsStore before after
  done-store (OpCall user op names) answer does = same-store (ap (λ b. b.store) does.1)
  done-store Sync answer does = same-store (ap (λ b. b.store) does.1)
  done-store ListCall answer does = same-store (ap (λ b. b.store) does.2)
  done-store (Read place) answer does = same-store (ap (λ b. b.store) does.3)
  done-store (Generate tag app_id) answer does = record {
    whole = subst IsStore (sym does.2.made)
        (after-generate before.store does.0 tag app_id does.2.key whole does.2.fresh).whole;
    level = ap (λ s. s.level) does.2.made;
    current = λ current. subst IsLevel (sym does.2.made) (generated-level before.store does.0 tag app_id does.2.key
        (not-given before.store does.0 whole does.2.fresh) current);
  }
  done-store (Encrypt blob app_id nonce key) answer does = same-store (ap (λ b. b.store) does.1)
  done-store (Decrypt blob app_id text) answer does = same-store (ap (λ b. b.store) does.1)
  done-store Entries answer does = same-store (ap (λ b. b.store) does.1.2)
  done-store (Delete item tells) answer does = record {
    whole = subst IsStore (sym (ap (λ b. b.store) does.1)) (after-delete before.store item.blob whole).whole;
    level = ap (λ b. b.store.level) does.1;
    current = λ current. subst IsLevel (sym (ap (λ b. b.store) does.1)) (λ blob entry live. current blob entry
        (without-found before.store.entries item.blob blob entry live));
  }
  done-store (Add user class key) answer does = same-store (ap (λ b. b.store) does.1)
  done-store (Remove user class) answer does = same-store (ap (λ b. b.store) does.1)

  pub made-store : (call : Call) (made : Made) → IsMade before after call (Ok made) → KeepsStore before after
  made-store call (Heard answer) is = done-store call answer is
  made-store call (Failed device) is = same-store (ap (λ b. b.store) (failed-leaves before after call is.1))
