-- What a keystore answers to a sealed text, and that what it encrypted it decrypts.
use Rattle.std.proofs.Common.{◌≡◌, ◌≢◌, ℕ, ◌<◌, ◌≤◌, Bool, true, false, cond, ◌&&◌, List, [], length, refl, sym}
use Rattle.std.proofs.Common.{ap, ◌∙◌, arith}
use Rattle.std.specs.Prelude.{Some, nat_le, ◌==◌}
use Rattle.std.proofs.lemmas.Bool.{le-leb, lt-leb}
use Rattle.seal_model.proofs.Sealing.{unsealed-sealed_text}
use Rattle.tree_model.specs.declared.blobs.Blob.{Blob}
use Rattle.tree_model.specs.Tree.{if_there}
use Rattle.keystore_model.specs.declared.entry.StoreEntry.{StoreEntry}
use Rattle.keystore_model.specs.declared.entry.Decrypted.TheVariants.{Key, NeedsUpgrade, Invalid}
use Rattle.keystore_model.specs.Laws.{AnswersDecrypt}
use Rattle.seal_model.specs.Sealed.{sealed_text, unsealed}
use Rattle.keystore_model.specs.Sealed.{encrypted, decrypted, text_or, entry_answer}
use Rattle.keystore_model.specs.Store.{Store, IsCurrent, entry_of, same_bytes}
use Rattle.keystore_model.proofs.Stores.{bytes-same, bytes-apart}

both-false : (same low : Bool) → low ≡ false → (same && low) ≡ false
both-false true low isnt = isnt
both-false false low isnt = refl

equal-level : (level : ℕ) → (level == level) ≡ true
equal-level level = grind arith

lower-level : (level limit : ℕ) → level < limit → (level == limit) ≡ false
lower-level level limit less = grind arith

-- the answers of an entry, by its app id and its level
module _ (level : ℕ) (app_id sealed : List ℕ) (entry : StoreEntry) where
  answer-invalid : (same_bytes app_id entry.app_id && nat_le entry.level level) ≡ false
      → entry_answer level app_id sealed entry ≡ Invalid
  answer-invalid isnt =
      ap (λ t. cond t (cond (entry.level == level) (text_or (unsealed entry.key sealed)) NeedsUpgrade) Invalid) isnt

  pub answer-unbound : app_id ≢ entry.app_id → entry_answer level app_id sealed entry ≡ Invalid
  answer-unbound other =
      answer-invalid (ap (λ t. t && nat_le entry.level level) (bytes-apart app_id entry.app_id other))

  pub answer-above : level < entry.level → entry_answer level app_id sealed entry ≡ Invalid
  answer-above high =
      answer-invalid
      (both-false (same_bytes app_id entry.app_id) (nat_le entry.level level) (lt-leb entry.level level high))

  answer-low : app_id ≡ entry.app_id → entry.level ≤ level
      → entry_answer level app_id sealed entry
      ≡ cond (entry.level == level) (text_or (unsealed entry.key sealed)) NeedsUpgrade
  answer-low same low =
      ap (λ t. cond (t && nat_le entry.level level)
      (cond (entry.level == level) (text_or (unsealed entry.key sealed)) NeedsUpgrade) Invalid)
      (ap (same_bytes app_id) (sym same) ∙ bytes-same app_id)
      ∙ ap (λ t. cond t (cond (entry.level == level) (text_or (unsealed entry.key sealed)) NeedsUpgrade) Invalid)
      (le-leb entry.level level low)

  pub answer-below : app_id ≡ entry.app_id → entry.level < level
      → entry_answer level app_id sealed entry ≡ NeedsUpgrade
  answer-below same low = answer-low same (omega (arith, low))
      ∙ ap (λ t. cond t (text_or (unsealed entry.key sealed)) NeedsUpgrade) (lower-level entry.level level low)

  pub answer-current : app_id ≡ entry.app_id → entry.level ≡ level
      → entry_answer level app_id sealed entry ≡ text_or (unsealed entry.key sealed)
  answer-current same current = answer-low same (omega (arith, current))
      ∙ ap (λ t. cond t (text_or (unsealed entry.key sealed)) NeedsUpgrade)
      (ap (λ other. entry.level == other) (sym current) ∙ equal-level entry.level)

answer-at : (store : Store) (blob : Blob) (app_id sealed : List ℕ) (entry : StoreEntry)
    → entry_of store.entries blob ≡ Some entry
    → decrypted store blob app_id sealed ≡ entry_answer store.level app_id sealed entry
answer-at store blob app_id sealed entry found =
    ap (λ e. if_there e Invalid (entry_answer store.level app_id sealed)) found

pub answers : (store : Store) (blob : Blob) (app_id sealed : List ℕ) → AnswersDecrypt store blob app_id sealed
answers store blob app_id sealed = record {
  absent = λ none. ap (λ e. if_there e Invalid (entry_answer store.level app_id sealed)) none;
  unbound =
      λ entry found other. answer-at store blob app_id sealed entry found
      ∙ answer-unbound store.level app_id sealed entry other;
  above =
      λ entry found high. answer-at store blob app_id sealed entry found
      ∙ answer-above store.level app_id sealed entry high;
  below =
      λ entry found same low. answer-at store blob app_id sealed entry found
      ∙ answer-below store.level app_id sealed entry same low;
  bad_tag = λ entry found same current none. answer-at store blob app_id sealed entry found
      ∙ answer-current store.level app_id sealed entry same current ∙ ap text_or none;
  opened = λ entry found same current text is. answer-at store blob app_id sealed entry found
      ∙ answer-current store.level app_id sealed entry same current ∙ ap text_or is;
}

pub encrypted-opens : (store : Store) (blob : Blob) (app_id nonce text : List ℕ) → IsCurrent store blob app_id
    → length nonce ≡ 12
    → decrypted store blob app_id (encrypted store blob nonce text) ≡ Key text
encrypted-opens store blob app_id nonce text is twelve =
    ap (λ e. decrypted store blob app_id (if_there e [] (λ entry. sealed_text entry.key nonce text))) is.found
    ∙ (answers store blob app_id (sealed_text is.entry.key nonce text)).opened is.entry is.found
    (sym is.bound) is.current text (unsealed-sealed_text is.entry.key nonce text twelve)
