-- How a text is cut at the first of a byte, and how its words and the text determine each other.
use Rattle.std.proofs.Common.{◌≡◌, ◌≢◌, ℕ, suc, ◌+◌, ◌-◌, ◌<◌, Bool, true, false, if◌then◌else◌, List, []}
use Rattle.std.proofs.Common.{◌∷◌, ◌++◌, length, get_or, take, drop, refl, sym, ap, ◌∙◌, arith}
use Rattle.std.specs.Prelude.{nat_eq}
use Rattle.std.specs.List.{AllByRecursion}
use Rattle.std.proofs.lemmas.List.{append-nil, take-append-drop, take_rest, drop_more, get_or-take, length-take-le}
use Rattle.std.proofs.lemmas.Bool.{eqb-true, ne_eqb}
use Rattle.script_text.specs.Words.{spaced, joined}
use Rattle.script_text.specs.Reading.{Lacks, IsSplit, in_front, words_in}

-- what is_empty tells
pub not_empty : (text : List ℕ) → false ≡ nat_eq (length text) 0 → text ≢ []
not_empty text some e = let no : false ≡ true = some ∙ ap (λ t. nat_eq (length t) 0) e in cc

-- two texts that are cut at the first of one byte are cut alike
pub same_cut : (byte : ℕ) (a b x y : List ℕ) → Lacks byte a → Lacks byte b → a ++ byte ∷ x ≡ b ++ byte ∷ y
    → (a ≡ b) × (x ≡ y)
same_cut byte [] [] x y la lb e = (refl, cc)
same_cut byte [] (c ∷ b) x y la lb e = let here : byte ≡ c = cc in absurd (lb.0 (sym here))
same_cut byte (c ∷ a) [] x y la lb e = let here : c ≡ byte = cc in absurd (la.0 here)
same_cut byte (c ∷ a) (d ∷ b) x y la lb e =
    let head : c ≡ d = cc in
    let tail : a ++ byte ∷ x ≡ b ++ byte ∷ y = cc in
    let rest = same_cut byte a b x y la.1 lb.1 tail in
    ((λ i. head i ∷ rest.0 i), rest.1)

-- a text without the byte isn't cut by it
pub uncut : (byte : ℕ) (a b y : List ℕ) → Lacks byte a → a ≢ b ++ byte ∷ y
uncut byte [] [] y la e = cc
uncut byte [] (d ∷ b) y la e = cc
uncut byte (c ∷ a) [] y la e = let here : c ≡ byte = cc in la.0 here
uncut byte (c ∷ a) (d ∷ b) y la e = let tail : a ≡ b ++ byte ∷ y = cc in uncut byte a b y la.1 tail

pub Lacks-from_reads : (byte : ℕ) (bytes : List ℕ) → ((k : ℕ) → k < length bytes → get_or bytes k 0 ≢ byte)
    → Lacks byte bytes
Lacks-from_reads byte [] reads = tt
Lacks-from_reads byte (b ∷ bytes) reads =
    (reads 0 (omega arith), Lacks-from_reads byte bytes (λ k within. reads (suc k) (omega arith)))

-- what holds of each element of two lists holds of each of both
pub each_joined : {X : Type 0} (P : X → Type 0) (xs ys : List X) → AllByRecursion P xs → AllByRecursion P ys
    → AllByRecursion P (xs ++ ys)
each_joined P [] ys each every = every
each_joined P (x ∷ xs) ys each every = (each.0, each_joined P xs ys each.1 every)

-- what a search for a byte finds
pub cut_at : (byte : ℕ) (bytes : List ℕ) (i : ℕ) → i < length bytes → get_or bytes i 0 ≡ byte
    → ((k : ℕ) → k < i → get_or bytes k 0 ≢ byte)
    → IsSplit byte bytes (take i bytes) (take (length bytes - (i + 1)) (drop (i + 1) bytes))
cut_at byte bytes i within here before = record {
  whole = sym (take-append-drop i bytes)
      ∙ ap (λ back. take i bytes ++ back)
      (drop_more bytes i 0 within ∙ ap (λ b. b ∷ drop (i + 1) bytes) here
      ∙ ap (λ back. byte ∷ back) (sym (take_rest bytes (i + 1))));
  first = Lacks-from_reads byte (take i bytes) (λ k short.
      let low : k < i = omega (arith, length-take-le i bytes) in
      λ e. before k low (sym (get_or-take i bytes k 0 low) ∙ e));
}

-- ---- words
unspaced : (b : ℕ) (bytes : List ℕ) → b ≢ 32 → words_in (b ∷ bytes) ≡ in_front b (words_in bytes)
unspaced b bytes apart =
    let test : nat_eq b 32 ≡ false = ne_eqb b 32 apart in
    ap (λ t. if t then [] ∷ words_in bytes else in_front b (words_in bytes)) test

pub words_in-split : (word others : List ℕ) → Lacks 32 word → words_in (word ++ 32 ∷ others) ≡ word ∷ words_in others
words_in-split [] others lacks = refl
words_in-split (b ∷ word) others lacks =
    unspaced b (word ++ 32 ∷ others) lacks.0 ∙ ap (in_front b) (words_in-split word others lacks.1)

pub words_in-alone : (word : List ℕ) → Lacks 32 word → words_in word ≡ word ∷ []
words_in-alone [] lacks = refl
words_in-alone (b ∷ word) lacks = unspaced b word lacks.0 ∙ ap (in_front b) (words_in-alone word lacks.1)

-- words without spaces are those of their text
pub words_in-joined : (word : List ℕ) (words : List (List ℕ)) → Lacks 32 word → AllByRecursion (Lacks 32) words
    → words_in (joined (word ∷ words)) ≡ word ∷ words
words_in-joined word [] lacks each = ap words_in (append-nil word) ∙ words_in-alone word lacks
words_in-joined word (next ∷ words) lacks each =
    words_in-split word (joined (next ∷ words)) lacks ∙ ap (λ ws. word ∷ ws) (words_in-joined next words each.0 each.1)

-- a text has a first word
pub words_in-some : (bytes : List ℕ) → spaced (words_in bytes) ≡ 32 ∷ joined (words_in bytes)
words_in-some [] = refl
words_in-some (b ∷ bytes) = by_test (nat_eq b 32) (words_in bytes)
  where
    by_test : (t : Bool) (ws : List (List ℕ))
        → spaced (if t then [] ∷ ws else in_front b ws) ≡ 32 ∷ joined (if t then [] ∷ ws else in_front b ws)
    by_test true ws = refl
    by_test false [] = refl
    by_test false (w ∷ ws) = refl

joined-in_front : (b : ℕ) (words : List (List ℕ)) → joined (in_front b words) ≡ b ∷ joined words
joined-in_front b [] = refl
joined-in_front b (word ∷ words) = refl

-- a text is that of its words
pub joined-words_in : (bytes : List ℕ) → joined (words_in bytes) ≡ bytes
joined-words_in [] = refl
joined-words_in (b ∷ bytes) = by_test (nat_eq b 32) refl (joined-words_in bytes)
  where
    by_test : (t : Bool) → nat_eq b 32 ≡ t → joined (words_in bytes) ≡ bytes
        → joined (if t then [] ∷ words_in bytes else in_front b (words_in bytes)) ≡ b ∷ bytes
    by_test true is rest =
        words_in-some bytes ∙ ap (λ back. 32 ∷ back) rest ∙ ap (λ c. c ∷ bytes) (sym (eqb-true b 32 is))
    by_test false is rest = joined-in_front b (words_in bytes) ∙ ap (λ back. b ∷ back) rest
