-- Texts that are cut at their first space or line feed, and texts of things that were read one after another.
use Rattle.std.proofs.Common.{◌≡◌, ℕ, List, [], ◌∷◌, ◌++◌, sym, ap, subst, ◌∙◌, arith, append_assoc}
use Rattle.std.specs.Prelude.{Option, Some, None, IfSome, IfNone}
use Rattle.std.specs.Borrow.{Bor}
use Rattle.std.specs.List.{flat_map}
use Rattle.std.proofs.lemmas.List.{flat_map_more}
use Rattle.std.proofs.lemmas.Str.Pattern.{IsSplitOnceResult, split_parts}
use Rattle.script_text.specs.Reading.{Lacks, words_in}
use Rattle.script_text.specs.Words.{joined}
use Rattle.script_text.proofs.Splits.{Lacks-from_reads, joined-words_in, words_in-split, words_in-alone}

-- what is cut off at the first line feed has none
pub line_cut : (text : List ℕ) (cut : Option (Bor (List ℕ) × Bor (List ℕ))) → IsSplitOnceResult 10 text cut
    → IfSome cut (λ parts. Lacks 10 parts.0.now)
line_cut text None uncut = tt
line_cut text (Some parts) found =
    Lacks-from_reads 10 parts.0.now (split_parts 10 text (Some parts) found (omega arith)).1

pub line_uncut : (text : List ℕ) (cut : Option (Bor (List ℕ) × Bor (List ℕ))) → IsSplitOnceResult 10 text cut
    → IfNone cut (Lacks 10 text)
line_uncut text None uncut = Lacks-from_reads 10 text (split_parts 10 text None uncut (omega arith))
line_uncut text (Some parts) found = tt

-- the words of a text that was cut at its first space, or at none
pub words_cut : (text : List ℕ) (cut : Option (Bor (List ℕ) × Bor (List ℕ))) (word others : Bor (List ℕ))
    → IsSplitOnceResult 32 text cut → cut ≡ Some (word, others) → words_in text ≡ word.now ∷ words_in others.now
words_cut text cut word others found is =
    let parts = split_parts 32 text (Some (word, others)) (subst (IsSplitOnceResult 32 text) is found) (omega arith) in
    ap words_in parts.0 ∙ words_in-split word.now others.now (Lacks-from_reads 32 word.now parts.1)

pub words_uncut : (text : List ℕ) (cut : Option (Bor (List ℕ) × Bor (List ℕ))) → IsSplitOnceResult 32 text cut
    → cut ≡ None → words_in text ≡ text ∷ []
words_uncut text cut found is = words_in-alone text
    (Lacks-from_reads 32 text (split_parts 32 text None (subst (IsSplitOnceResult 32 text) is found) (omega arith)))

-- a text is that of its words
pub joined_again : (text : List ℕ) (words : List (List ℕ)) → words_in text ≡ words → text ≡ joined words
joined_again text words read = sym (joined-words_in text) ∙ ap joined read

-- one more thing is read
pub one_more_read : {X : Type 0} (text_of : X → List ℕ) (things : List X) (thing : X) (text rest others : List ℕ)
    → text ≡ flat_map text_of things ++ rest → rest ≡ text_of thing ++ others
    → text ≡ flat_map text_of (things ++ thing ∷ []) ++ others
one_more_read text_of things thing text rest others read begins =
    read ∙ ap (λ r. flat_map text_of things ++ r) begins ∙ sym
    (append_assoc (flat_map text_of things) (text_of thing) others) ∙ ap (λ t. t ++ others)
    (flat_map_more text_of [] things thing)
