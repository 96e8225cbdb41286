-- Sealed texts and their tags, from the parts that the code computes.
use Rattle.std.proofs.Common.{◌≡◌, ℕ, ◌+◌, ◌<◌, arith, Bool, true, false, not, List, [], ◌∷◌, ◌++◌, length, get_or}
use Rattle.std.proofs.Common.{map, bit_xor, Some, None, ◌≢◌, refl, sym, ◌∙◌, ap, subst}
use Rattle.std.proofs.lemmas.Bool.{false≢true}
use Rattle.std.proofs.lemmas.Slice.Eq.{bytes_eq-Decides}
use Rattle.std.proofs.lemmas.List.{map-append}
use Rattle.std.specs.Int.{w128, to_be_bytes, from_be_bytes}
use Rattle.std.specs.Str.{bytes_eq}
use Rattle.seal_model.specs.Polynomial.{bits}
use Rattle.seal_model.specs.Bytes.{xor_bytes}
use Rattle.seal_model.specs.Aes.{encrypt}
use Rattle.seal_model.specs.Gcm.{polynomial_of, ghash, blocks_of, lengths_block, hash_key, counter_block, encrypted}
use Rattle.seal_model.specs.Gcm.{tag, tag_of, ciphertext_of, seal, unseal}
use Rattle.seal_model.proofs.Sealing.{length-encrypt, unseal_answers}
use Rattle.aes_gcm.specs.Hash.{Adds}
use Rattle.aes_gcm.proofs.Numbers.{bytes_high_first-xor}
use Rattle.aes_gcm.proofs.Sums.{adds_both, hash_bytes, bytes_back}

-- every element is a byte
abbrev pub AllFit : List ℕ → Type 0
AllFit s = (i : ℕ) → get_or s i 0 < 256

-- the sum over all blocks
adds_all : (h first second third : List Bool) (start : List Bool) (aad text : List (List ℕ)) (last : List ℕ)
    → Adds h start first (map polynomial_of aad) → Adds h first second (map polynomial_of text)
    → Adds h second third (polynomial_of last ∷ []) → Adds h start third (map polynomial_of (aad ++ text ++ last ∷ []))
adds_all h first second third start aad text last f g k =
    subst (Adds h start third)
    (ap (λ s. s ++ polynomial_of last ∷ []) (sym (map-append polynomial_of aad text))
    ∙ sym (map-append polynomial_of (aad ++ text) (last ∷ [])))
    (adds_both h start second third (map polynomial_of aad ++ map polynomial_of text) (polynomial_of last ∷ [])
    (adds_both h start first second (map polynomial_of aad) (map polynomial_of text) f g) k)

pub tag_is : (key nonce aad text lengths zero mask : List ℕ) (h first second third number : ℕ)
    → zero ≡ hash_key key → bits 128 h ≡ polynomial_of zero
    → Adds (bits 128 h) (bits 128 0) (bits 128 first) (map polynomial_of (blocks_of aad))
    → Adds (bits 128 h) (bits 128 first) (bits 128 second) (map polynomial_of (blocks_of text))
    → Adds (bits 128 h) (bits 128 second) (bits 128 third) (polynomial_of lengths ∷ [])
    → lengths ≡ lengths_block aad text
    → mask ≡ encrypt key (counter_block nonce 1) → AllFit mask → number ≡ from_be_bytes w128 mask
    → to_be_bytes w128 (bit_xor third number) ≡ tag key nonce aad text
unfolding tag
tag_is key nonce aad text lengths zero mask h first second third number ez eh f g k el em fm en =
    let wide : length mask ≡ 16 = ap length em ∙ length-encrypt key (counter_block nonce 1) in
    let key_is : bits 128 h ≡ polynomial_of (hash_key key) = eh ∙ ap polynomial_of ez in
    bytes_high_first-xor 16 third number
    ∙ (λ i. xor_bytes
    (hash_bytes h third (hash_key key) (blocks_of aad ++ blocks_of text ++ lengths ∷ []) key_is
    (adds_all (bits 128 h) (bits 128 first) (bits 128 second) (bits 128 third) (bits 128 0) (blocks_of aad)
    (blocks_of text) lengths f g k) i) ((bytes_back number mask wide fm en ∙ em) i))
    ∙ ap (λ l. xor_bytes (ghash (hash_key key) (blocks_of aad ++ blocks_of text ++ l ∷ []))
    (encrypt key (counter_block nonce 1))) el

pub sealed_is : (key cipher nonce aad text ciphertext last : List ℕ) → cipher ≡ key
    → ciphertext ≡ encrypted cipher nonce text → last ≡ tag cipher nonce aad ciphertext
    → ciphertext ++ last ≡ seal key nonce aad text
unfolding seal
sealed_is key cipher nonce aad text ciphertext last ek ec el =
    (λ i. ec i ++ (el ∙ ap (tag cipher nonce aad) ec) i)
    ∙ ap (λ k. encrypted k nonce text ++ tag k nonce aad (encrypted k nonce text)) ek

-- what the code's test of two tags says
pub differ : (s t : List ℕ) → not (bytes_eq s t) ≡ true → s ≢ t
differ s t e same = elim (false≢true (sym (ap not ((bytes_eq-Decides s t).1 same)) ∙ e)) [ ]

agree_from : (s t : List ℕ) (b : Bool) → bytes_eq s t ≡ b → not b ≡ false → s ≡ t
agree_from s t true e h = (bytes_eq-Decides s t).0 e
agree_from s t false e h = absurd (false≢true (sym h))

pub agree : (s t : List ℕ) → not (bytes_eq s t) ≡ false → s ≡ t
agree s t = agree_from s t (bytes_eq s t) refl

module _ (key cipher nonce aad sealed ciphertext last computed : List ℕ) (key_is : cipher ≡ key)
    (parts : (ciphertext ≡ ciphertext_of sealed) × (last ≡ tag_of sealed) × (length ciphertext + 16 ≡ length sealed))
    (computed_is : computed ≡ tag cipher nonce aad ciphertext) where
  right : computed ≡ tag key nonce aad (ciphertext_of sealed)
  right = computed_is ∙ (λ i. tag (key_is i) nonce aad (parts.0 i))

  -- where the tags differ
  pub stays_shut : not (bytes_eq last computed) ≡ true → unseal key nonce aad sealed ≡ None
  stays_shut e =
      (unseal_answers key nonce aad sealed).other_tag (λ same. differ last computed e (parts.1 ∙ same ∙ sym right))

  -- where they are one
  pub opens : not (bytes_eq last computed) ≡ false
      → unseal key nonce aad sealed ≡ Some (encrypted cipher nonce ciphertext)
  opens e =
      (unseal_answers key nonce aad sealed).same_tag (omega (arith, parts.2))
      (sym parts.1 ∙ agree last computed e ∙ right)
      ∙ sym (λ i. Some (encrypted (key_is i) nonce (parts.0 i)))
