-- The key stream block by block.
use Rattle.std.proofs.Common.{◌≡◌, ℕ, zero, suc, ◌+◌, ◌-◌, ◌*◌, ◌<◌, ◌≤◌, min, List, [], ◌∷◌, ◌++◌, length, get_or}
use Rattle.std.proofs.Common.{set, take, drop, bit_xor, refl, sym, ◌∙◌, ap, inl, inr, arith, add-one, append_assoc}
use Rattle.std.proofs.Common.{length-append, length-take, length-drop}
use Rattle.std.proofs.Math.Seq.{take-add, take-append_seam, drop-append_seam, drop-length}
use Rattle.std.proofs.lemmas.Bool.{cases_lt}
use Rattle.std.proofs.lemmas.List.{take-append-drop, length-take-le, take_all, drop_all}
use Rattle.std.proofs.lemmas.List.{drop-drop, append-nil, set-append_right, get_or-append_right}
use Rattle.seal_model.specs.Bytes.{xor_bytes}
use Rattle.seal_model.specs.Aes.{encrypt}
use Rattle.seal_model.specs.Gcm.{counter_block, key_stream, encrypted, block_count}
use Rattle.seal_model.proofs.Sealing.{length-xor_bytes, length-key_stream, length-encrypt}
use Rattle.aes_block.proofs.Steps.{summed, xor-step}
use Rattle.aes_gcm.specs.Stream.{partly_encrypted, with_block_added}

-- all bytes
pub xor-all : (s t : List ℕ) (n : ℕ) → min (length s) (length t) ≤ n → xor_bytes (take n s) (take n t) ≡ xor_bytes s t
xor-all [] t zero h = refl
xor-all [] t (suc n) h = refl
xor-all (a ∷ s) [] zero h = refl
xor-all (a ∷ s) [] (suc n) h = refl
xor-all (a ∷ s) (b ∷ t) zero h = absurd (omega arith)
xor-all (a ∷ s) (b ∷ t) (suc n) h = ap (λ u. bit_xor a b ∷ u) (xor-all s t n (omega arith))

xor-append : (s t u v : List ℕ) → length s ≡ length t → xor_bytes (s ++ u) (t ++ v) ≡ xor_bytes s t ++ xor_bytes u v
xor-append [] [] u v e = refl
xor-append [] (b ∷ t) u v e = cc
xor-append (a ∷ s) [] u v e = cc
xor-append (a ∷ s) (b ∷ t) u v e = ap (λ w. bit_xor a b ∷ w) (xor-append s t u v (cc))

length-sum : (key nonce text : List ℕ) (i : ℕ) → 16 * i ≤ length text
    → length (xor_bytes (take (16 * i) text) (key_stream key nonce i)) ≡ 16 * i
length-sum key nonce text i h =
    let front = length-take-le (16 * i) text h in
    length-xor_bytes (take (16 * i) text) (key_stream key nonce i)
    (omega (arith, front, length-key_stream key nonce i)) ∙ front

-- one block more
pub stream-step : (key nonce text : List ℕ) (i : ℕ) → 16 * i ≤ length text
    → xor_bytes (take (16 * (i + 1)) text) (key_stream key nonce (i + 1))
    ≡ xor_bytes (take (16 * i) text) (key_stream key nonce i)
    ++ xor_bytes (drop (16 * i) text) (encrypt key (counter_block nonce (i + 2)))
unfolding key_stream
stream-step key nonce text i h =
    let e = encrypt key (counter_block nonce (i + 2)) in let rest = drop (16 * i) text in
    let short : take 16 e ≡ e = take_all 16 e (omega (arith, length-encrypt key (counter_block nonce (i + 2)))) in
    (λ j. xor_bytes ((ap (λ k. take k text) longer ∙ take-add (16 * i) 16 text) j) (one_more j))
    ∙ xor-append (take (16 * i) text) (key_stream key nonce i) (take 16 rest) e
    (length-take-le (16 * i) text h ∙ sym (length-key_stream key nonce i))
    ∙ ap (λ u. xor_bytes (take (16 * i) text) (key_stream key nonce i) ++ u)
    (ap (xor_bytes (take 16 rest)) (sym short)
    ∙ xor-all rest e 16 (omega (arith, length-encrypt key (counter_block nonce (i + 2)))))
  where
    longer : 16 * (i + 1) ≡ 16 * i + 16
    longer = omega arith

    one_more : key_stream key nonce (i + 1) ≡ key_stream key nonce i ++ encrypt key (counter_block nonce (i + 2))
    one_more =
        ap (key_stream key nonce) (add-one i)
        ∙ ap (λ k. key_stream key nonce i ++ encrypt key (counter_block nonce k)) (omega arith)

pub stream-whole : (key nonce text : List ℕ) (i : ℕ) → i ≡ block_count (length text)
    → xor_bytes (take (16 * i) text) (key_stream key nonce i) ≡ encrypted key nonce text
unfolding encrypted
stream-whole key nonce text i e =
    ap (λ t. xor_bytes t (key_stream key nonce i)) (take_all (16 * i) text (omega arith))
    ∙ ap (λ k. xor_bytes text (key_stream key nonce k)) e

-- ---- a text with blocks added
-- the sum of the first n bytes, where these are all that there are of a block
added_all : (s t : List ℕ) (n : ℕ) → length t ≡ 16 → n ≡ min (length s) 16 → summed s t n ≡ xor_bytes s t ++ drop 16 s
added_all s t n e is =
    (λ i. xor-all s t n reach i ++ rest i)
  where
    reach : min (length s) (length t) ≤ n
    reach = omega (arith, e, is)

    rest : drop n s ≡ drop 16 s
    rest = elim (cases_lt (length s) 16) [
      | inl below ↦ let end : n ≡ length s = omega (arith, is) in
          ap (λ k. drop k s) end ∙ drop-length s ∙ sym (drop_all 16 s (omega arith))
      | inr above ↦ let end : n ≡ 16 = omega (arith, is) in ap (λ k. drop k s) end
    ]

-- one byte more, in a text from byte `start` on
pub byte_added : (text stream : List ℕ) (start k : ℕ) → start + k < length text → k < length stream
    → set (take start text ++ summed (drop start text) stream k) (start + k)
    (bit_xor (get_or (take start text ++ summed (drop start text) stream k) (start + k) 0) (get_or stream k 0))
    ≡ take start text ++ summed (drop start text) stream (k + 1)
byte_added text stream start k h g =
    let front = take start text in let s = drop start text in
    let long : length front ≡ start = length-take-le start text (omega arith) in
    let place : start + k - start ≡ k = omega arith in
    ap (λ b. set (front ++ summed s stream k) (start + k) (bit_xor b (get_or stream k 0)))
    (get_or-append_right front (summed s stream k) start (start + k) 0 long (omega arith)
    ∙ ap (λ j. get_or (summed s stream k) j 0) place)
    ∙ set-append_right front (summed s stream k) start (start + k) _ long (omega arith)
    ∙ ap (λ j. front ++ set (summed s stream k) j (bit_xor (get_or (summed s stream k) k 0) (get_or stream k 0))) place
    ∙ ap (λ u. front ++ u) (xor-step s stream k (omega (arith, length-drop start text)) g)

pub block_added : (text stream : List ℕ) (i k : ℕ) → length stream ≡ 16 → k ≡ min (length text - 16 * i) 16
    → take (16 * i) text ++ summed (drop (16 * i) text) stream k ≡ with_block_added text i stream
block_added text stream i k e is =
    ap (λ u. take (16 * i) text ++ u) (added_all (drop (16 * i) text) stream k e (is
    ∙ ap (λ n. min n 16) (sym (length-drop (16 * i) text))))

pub length-partly : (key nonce text : List ℕ) (i : ℕ) → length (partly_encrypted key nonce text i) ≡ length text
length-partly key nonce text i =
    let front = take (16 * i) text in let stream = key_stream key nonce i in
    length-append (xor_bytes front stream) (drop (16 * i) text)
    ∙ ap (λ n. n + length (drop (16 * i) text))
    (length-xor_bytes front stream (omega (arith, length-take (16 * i) text, length-key_stream key nonce i)))
    ∙ sym (length-append front (drop (16 * i) text)) ∙ ap length (take-append-drop (16 * i) text)

-- one block more
pub block_more : (key nonce text old new stream : List ℕ) (i : ℕ) → 16 * i < length text
    → old ≡ partly_encrypted key nonce text i
    → stream ≡ encrypt key (counter_block nonce (i + 2)) → new ≡ with_block_added old i stream
    → new ≡ partly_encrypted key nonce text (i + 1)
block_more key nonce text old new stream i h e es is =
    let sum = xor_bytes (take (16 * i) text) (key_stream key nonce i) in let rest = drop (16 * i) text in
    let long : length sum ≡ 16 * i = length-sum key nonce text i (omega arith) in
    let front : take (16 * i) (sum ++ rest) ≡ sum = ap (λ n. take n (sum ++ rest)) (sym long)
    ∙ take-append_seam sum rest in
    let back : drop (16 * i) (sum ++ rest) ≡ rest = ap (λ n. drop n (sum ++ rest)) (sym long)
    ∙ drop-append_seam sum rest in
    let longer : 16 * i + 16 ≡ 16 * (i + 1) = omega arith in
    is ∙ (λ t. with_block_added (e t) i (es t))
    ∙ (λ t. front t ++ (xor_bytes (back t) (encrypt key (counter_block nonce (i + 2))) ++ drop 16 (back t)))
    ∙ sym (append_assoc sum (xor_bytes rest (encrypt key (counter_block nonce (i + 2)))) (drop 16 rest))
    ∙ (λ t. sym (stream-step key nonce text i (omega arith)) t ++ (drop-drop 16 (16 * i) text
    ∙ ap (λ n. drop n text) longer) t)

-- all blocks
pub blocks_all : (key nonce text : List ℕ) (i : ℕ) → i ≡ block_count (length text)
    → partly_encrypted key nonce text i ≡ encrypted key nonce text
blocks_all key nonce text i e =
    (λ t. stream-whole key nonce text i e t ++ drop_all (16 * i) text (omega arith) t)
    ∙ append-nil (encrypted key nonce text)

pub blocks_none : (key nonce text : List ℕ) → text ≡ partly_encrypted key nonce text 0
unfolding key_stream
blocks_none key nonce text = refl
