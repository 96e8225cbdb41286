-- Opening a sealed text gives the text.
use Rattle.std.proofs.Common.{◌≡◌, ℕ, zero, suc, ◌+◌, ◌-◌, ◌*◌, ◌≤◌, true, cond, ◌&&◌, List, []}
use Rattle.std.proofs.Common.{◌∷◌, ◌++◌, length, take, drop, bit_xor, Some, None, refl, ◌∙◌, ap}
use Rattle.std.proofs.Common.{sym, ◌≢◌, ◌<◌, Bool, false, inl, inr, arith, length-append}
use Rattle.std.specs.Int.Bits.{xor_self, xor_zero_r, xor_assoc}
use Rattle.std.specs.Str.{bytes_eq}
use Rattle.std.proofs.Math.Seq.{take-append_seam, drop-append_seam}
use Rattle.std.proofs.lemmas.Bool.{lt-leb, le-leb, cases_lt}
use Rattle.std.proofs.lemmas.Slice.Eq.{bytes_eq-Decides}
use Rattle.std.proofs.lemmas.List.{take_at, drop_at}
use Rattle.seal_model.specs.Sealed.{sealed_text, unsealed}
use Rattle.seal_model.specs.Bytes.{xor_bytes}
use Rattle.seal_model.specs.Aes.{encrypt, cipher, shift_rows, round_key}
use Rattle.seal_model.specs.Gcm.{counter_block, key_stream, block_count, encrypted, hash_key, blocks_of}
use Rattle.seal_model.specs.Gcm.{lengths_block, ghash, tag, tag_of, ciphertext_of, seal, unseal}
use Rattle.seal_model.specs.Laws.{SealedTextsOpen, UnsealAnswersAll, UnsealGivesText}
use Rattle.seal_model.proofs.BlockField.{length-bytes_of}

pub length-xor_bytes : (s t : List ℕ) → length s ≤ length t → length (xor_bytes s t) ≡ length s
length-xor_bytes [] t h = refl
length-xor_bytes (a ∷ s) [] h = absurd (omega arith)
length-xor_bytes (a ∷ s) (b ∷ t) h = ap suc (length-xor_bytes s t (omega arith))

pub xor_bytes-xor_bytes : (s t : List ℕ) → length s ≤ length t → xor_bytes (xor_bytes s t) t ≡ s
xor_bytes-xor_bytes [] t h = refl
xor_bytes-xor_bytes (a ∷ s) [] h = absurd (omega arith)
xor_bytes-xor_bytes (a ∷ s) (b ∷ t) h =
    λ i. (xor_assoc a b b ∙ ap (bit_xor a) (xor_self b) ∙ xor_zero_r a) i ∷ xor_bytes-xor_bytes s t (omega arith) i

pub length-encrypt : (key block : List ℕ) → length (encrypt key block) ≡ 16
unfolding encrypt cipher shift_rows round_key
length-encrypt key block = refl

pub length-key_stream : (key nonce : List ℕ) (n : ℕ) → length (key_stream key nonce n) ≡ 16 * n
unfolding key_stream
length-key_stream key nonce zero = refl
length-key_stream key nonce (suc n) =
    length-append (key_stream key nonce n) (encrypt key (counter_block nonce (1 + suc n)))
    ∙ (λ i. length-key_stream key nonce n i + length-encrypt key (counter_block nonce (1 + suc n)) i) ∙ omega arith

-- the key stream is as long as the text, or longer
stream_reaches : (key nonce text : List ℕ) → length text ≤ length (key_stream key nonce (block_count (length text)))
stream_reaches key nonce text = omega (arith, length-key_stream key nonce (block_count (length text)))

pub length-encrypted : (key nonce text : List ℕ) → length (encrypted key nonce text) ≡ length text
unfolding encrypted
length-encrypted key nonce text =
    length-xor_bytes text (key_stream key nonce (block_count (length text))) (stream_reaches key nonce text)

pub encrypted-encrypted : (key nonce text : List ℕ) → encrypted key nonce (encrypted key nonce text) ≡ text
unfolding encrypted
encrypted-encrypted key nonce text =
    ap (λ n. xor_bytes (encrypted key nonce text) (key_stream key nonce (block_count n)))
    (length-encrypted key nonce text)
    ∙ xor_bytes-xor_bytes text (key_stream key nonce (block_count (length text))) (stream_reaches key nonce text)

pub length-tag : (key nonce aad text : List ℕ) → length (tag key nonce aad text) ≡ 16
unfolding tag ghash
length-tag key nonce aad text =
    let g = ghash (hash_key key) (blocks_of aad ++ blocks_of text ++ lengths_block aad text ∷ []) in
    let e = encrypt key (counter_block nonce 1) in
    let eg : length g ≡ 16 = length-bytes_of 16 _ in
    length-xor_bytes g e (omega (arith, length-encrypt key (counter_block nonce 1))) ∙ eg

same_tag : (s t : List ℕ) → s ≡ t → bytes_eq s t ≡ true
same_tag s t = (bytes_eq-Decides s t).1

other_tag : (s t : List ℕ) (b : Bool) → bytes_eq s t ≡ b → s ≢ t → b ≡ false
other_tag s t false e h = refl
other_tag s t true e h = absurd (h ((bytes_eq-Decides s t).0 e))

pub unseal-short : (key nonce aad sealed : List ℕ) → length sealed < 16 → unseal key nonce aad sealed ≡ None
unfolding unseal
unseal-short key nonce aad sealed h =
    ap (λ b. cond (b && bytes_eq (tag_of sealed) (tag key nonce aad (ciphertext_of sealed)))
    (Some (encrypted key nonce (ciphertext_of sealed))) None)
    (lt-leb 16 (length sealed) h)

pub unseal-long : (key nonce aad sealed : List ℕ) → 16 ≤ length sealed
    → unseal key nonce aad sealed
    ≡ cond (bytes_eq (tag_of sealed) (tag key nonce aad (ciphertext_of sealed)))
    (Some (encrypted key nonce (ciphertext_of sealed))) None
unfolding unseal
unseal-long key nonce aad sealed h =
    ap (λ b. cond (b && bytes_eq (tag_of sealed) (tag key nonce aad (ciphertext_of sealed)))
    (Some (encrypted key nonce (ciphertext_of sealed))) None)
    (le-leb 16 (length sealed) h)

pub unseal_answers : UnsealAnswersAll
unseal_answers key nonce aad sealed =
    let last = tag_of sealed in let right = tag key nonce aad (ciphertext_of sealed) in
    let answer = λ (b : Bool). cond b (Some (encrypted key nonce (ciphertext_of sealed))) None in
    record {
      short = unseal-short key nonce aad sealed;
      other_tag = λ differs. elim (cases_lt (length sealed) 16) [
        | inl below ↦ unseal-short key nonce aad sealed below
        | inr above ↦ unseal-long key nonce aad sealed above
            ∙ ap answer (other_tag last right (bytes_eq last right) refl differs)
      ];
      same_tag = λ above same. unseal-long key nonce aad sealed above ∙ ap answer (same_tag last right same);
    }

pub unseal_gives_text : UnsealGivesText
unfolding seal
unseal_gives_text key nonce aad text =
    let c = encrypted key nonce text in let t = tag key nonce aad c in
    let n : length (c ++ t) - 16 ≡ length c = omega (arith, length-append c t, length-tag key nonce aad c) in
    let front : take (length (c ++ t) - 16) (c ++ t) ≡ c = ap (λ k. take k (c ++ t)) n ∙ take-append_seam c t in
    let back : drop (length (c ++ t) - 16) (c ++ t) ≡ t = ap (λ k. drop k (c ++ t)) n ∙ drop-append_seam c t in
    (unseal_answers key nonce aad (c ++ t)).same_tag (omega (arith, length-append c t, length-tag key nonce aad c))
    (back ∙ ap (tag key nonce aad) (sym front))
    ∙ ap (λ s. Some (encrypted key nonce s)) front ∙ ap Some (encrypted-encrypted key nonce text)

pub length-seal : (key nonce aad text : List ℕ) → length (seal key nonce aad text) ≡ length text + 16
unfolding seal
length-seal key nonce aad text = omega (
  arith,
  length-append (encrypted key nonce text) (tag key nonce aad (encrypted key nonce text)),
  length-encrypted key nonce text,
  length-tag key nonce aad (encrypted key nonce text),
)

-- a sealed text opens to its text
pub unsealed-sealed_text : SealedTextsOpen
unfolding sealed_text unsealed
unsealed-sealed_text key nonce text twelve =
    ap (λ n. unseal key n [] (drop 12 (sealed_text key nonce text))) (take_at nonce (seal key nonce [] text) 12 twelve)
    ∙ ap (unseal key nonce []) (drop_at nonce (seal key nonce [] text) 12 twelve)
    ∙ unseal_gives_text key nonce [] text
