-- The key schedule word by word, and the rounds over it.
use Rattle.std.proofs.Common.{◌≡◌, ℕ, zero, suc, ◌+◌, ◌-◌, ◌<◌, ◌≤◌, cond, nat_lt, List, [], ◌∷◌, ◌++◌, length}
use Rattle.std.proofs.Common.{get_or, set, take, refl, sym, ◌∙◌, ap, subst, inl, inr, arith, add-one, length-append}
use Rattle.std.proofs.Math.Seq.{take-suc-set, get_or-append_seam, take-length}
use Rattle.std.proofs.lemmas.List.{get_or_append_left, get_or-take}
use Rattle.std.proofs.lemmas.Bool.{lt-ltb, le-ltb, cases_lt}
use Rattle.seal_model.specs.Bytes.{xor_bytes}
use Rattle.seal_model.specs.Aes.{key_schedule, key_word, next_word, key_step, word}
use Rattle.seal_model.specs.Aes.{rounds, round_key, mix_columns, shift_rows, sub_bytes}
use Rattle.seal_model.proofs.Lists.{bytes_from, bytes_from-is}
use Rattle.aes_block.specs.Key.{key_of}

-- ---- rounds
pub rounds-next : (words : List (List ℕ)) (block : List ℕ) (n : ℕ) → 1 ≤ n
    → rounds words block (n + 1 - 1)
    ≡ xor_bytes (mix_columns (shift_rows (sub_bytes (rounds words block (n - 1))))) (round_key words n)
unfolding rounds
rounds-next words block zero h = absurd (omega arith)
rounds-next words block (suc n) h =
    let before : suc n - 1 ≡ n = omega arith in let after : suc n + 1 - 1 ≡ suc n = omega arith in
    ap (rounds words block) after
    ∙ ap (λ k. xor_bytes (mix_columns (shift_rows (sub_bytes (rounds words block k)))) (round_key words (suc n)))
    (sym before)

-- ---- the schedule
length-key_schedule : (key : List ℕ) (n : ℕ) → length (key_schedule key n) ≡ n
unfolding key_schedule
length-key_schedule key zero = refl
length-key_schedule key (suc n) =
    length-append (key_schedule key n) _ ∙ ap (λ k. k + 1) (length-key_schedule key n) ∙ add-one n

word-key_schedule : (key : List ℕ) (n j : ℕ) → j < 8 → j < n → word (key_schedule key n) j ≡ key_word key j
unfolding key_schedule
word-key_schedule key zero j h g = absurd (omega arith)
word-key_schedule key (suc n) j h g =
    let w = cond (nat_lt n 8) (key_word key n) (next_word (key_schedule key n) n) in
    elim (cases_lt j n) [
      | inl below ↦
          get_or_append_left (key_schedule key n) (w ∷ []) [] j
          (subst (λ k. j < k) (sym (length-key_schedule key n)) below)
          ∙ word-key_schedule key n j h below
      | inr above ↦
          let same : n ≡ j = omega arith in let first : n < 8 = omega arith in
          ap (λ k. get_or (key_schedule key n ++ w ∷ []) k []) (sym (length-key_schedule key n ∙ same))
          ∙ get_or-append_seam (key_schedule key n) w [] []
          ∙ ap (λ b. cond b (key_word key n) (next_word (key_schedule key n) n)) (lt-ltb n 8 first)
          ∙ ap (key_word key) same
    ]

pub key_of-key_schedule : (key : List ℕ) → length key ≡ 32 → key_of (key_schedule key 60) ≡ key
unfolding key_of bytes_from
key_of-key_schedule key e =
    let w = λ (j : ℕ) (h : j < 8). word-key_schedule key 60 j h (omega arith) in
    (λ i. w 0 (omega arith) i ++ (w 1 (omega arith) i ++ (w 2 (omega arith) i ++ (w 3 (omega arith) i
    ++ (w 4 (omega arith) i ++ (w 5 (omega arith) i ++ (w 6 (omega arith) i ++ w 7 (omega arith) i)))))))
    ∙ bytes_from-is 32 0 key (sym e)

next_word-take : (words : List (List ℕ)) (i : ℕ) → 8 ≤ i → next_word (take i words) i ≡ next_word words i
unfolding next_word
next_word-take words i h =
    λ k. xor_bytes (get_or-take i words (i - 8) [] (omega arith) k)
    (key_step i (get_or-take i words (i - 1) [] (omega arith) k))

-- one word more, from the words so far
pub schedule-step : (words : List (List ℕ)) (key w : List ℕ) (i : ℕ) → i < length words
    → take i words ≡ key_schedule key i
    → (i < 8 → w ≡ key_word key i) → (8 ≤ i → w ≡ next_word words i)
    → take (i + 1) (set words i w) ≡ key_schedule key (i + 1)
unfolding key_schedule
schedule-step words key w i h e first later =
    ap (λ k. take k (set words i w)) (add-one i) ∙ take-suc-set words i w h
    ∙ (λ k. e k ++ chosen k ∷ []) ∙ ap (key_schedule key) (sym (add-one i))
  where
    chosen : w ≡ cond (nat_lt i 8) (key_word key i) (next_word (key_schedule key i) i)
    chosen = elim (cases_lt i 8) [
      | inl below ↦ first below
          ∙ ap (λ b. cond b (key_word key i) (next_word (key_schedule key i) i)) (sym (lt-ltb i 8 below))
      | inr above ↦ later above ∙ sym (next_word-take words i above) ∙ ap (λ s. next_word s i) e
          ∙ ap (λ b. cond b (key_word key i) (next_word (key_schedule key i) i)) (sym (le-ltb i 8 above))
    ]

pub whole_schedule : (words : List (List ℕ)) (key : List ℕ) (i : ℕ) → length words ≡ 60 → i ≡ 60
    → take i words ≡ key_schedule key i → words ≡ key_schedule key 60
whole_schedule words key i long end e =
    sym (take-length words) ∙ ap (λ k. take k words) (long ∙ sym end) ∙ e ∙ ap (key_schedule key) end

pub key_of-whole : (words : List (List ℕ)) (key : List ℕ) → length key ≡ 32
    → words ≡ key_schedule key 60 → key_of words ≡ key
key_of-whole words key long e = ap key_of e ∙ key_of-key_schedule key long
