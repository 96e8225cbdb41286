-- What opens was sealed: an answer comes of the sealed text of this very text alone.
use Rattle.std.proofs.Common.{◌≡◌, ℕ, ◌-◌, Bool, true, false, cond, List, ◌++◌, length, Some, None, refl, sym, ◌∙◌}
use Rattle.std.proofs.Common.{ap, inl, inr, take-append-drop}
use Rattle.std.specs.Str.{bytes_eq}
use Rattle.std.proofs.lemmas.Bool.{cases_lt}
use Rattle.std.proofs.lemmas.Slice.Eq.{bytes_eq-Decides}
use Rattle.seal_model.specs.Gcm.{encrypted, tag, tag_of, ciphertext_of, seal}
use Rattle.seal_model.specs.Laws.{OnlySealedOpens}
use Rattle.seal_model.proofs.Sealing.{unseal-short, unseal-long, encrypted-encrypted}

opened : (key nonce aad sealed text : List ℕ) (test : Bool)
    → bytes_eq (tag_of sealed) (tag key nonce aad (ciphertext_of sealed)) ≡ test
    → cond test (Some (encrypted key nonce (ciphertext_of sealed))) None ≡ Some text → sealed ≡ seal key nonce aad text
unfolding seal
opened key nonce aad sealed text false e answer = cc
opened key nonce aad sealed text true e answer =
    let c = ciphertext_of sealed in
    let same : encrypted key nonce c ≡ text = cc in
    let back : encrypted key nonce text ≡ c = ap (encrypted key nonce) (sym same) ∙ encrypted-encrypted key nonce c in
    let last : tag_of sealed ≡ tag key nonce aad c = (bytes_eq-Decides (tag_of sealed) (tag key nonce aad c)).0 e in
    sym (take-append-drop (length sealed - 16) sealed) ∙ (λ i. c ++ last i)
    ∙ (λ i. sym back i ++ tag key nonce aad (sym back i))

pub only_sealed_opens : OnlySealedOpens
only_sealed_opens key nonce aad sealed text answer =
    elim (cases_lt (length sealed) 16) [
      | inl below ↦ let none = unseal-short key nonce aad sealed below in cc
      | inr above ↦ opened key nonce aad sealed text
          (bytes_eq (tag_of sealed) (tag key nonce aad (ciphertext_of sealed))) refl
          (sym (unseal-long key nonce aad sealed above) ∙ answer)
    ]
