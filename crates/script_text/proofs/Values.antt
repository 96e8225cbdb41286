-- The values of a line's arguments: what is read by a kind, and what a value's words leave of the others.
use Rattle.std.proofs.Common.{◌≡◌, ◌≢◌, ℕ, ◌<◌, ◌≤◌, ◌^◌, List, [], ◌∷◌, ◌++◌, length, get_or, drop, sym, ap}
use Rattle.std.proofs.Common.{subst, ◌∙◌, arith}
use Rattle.std.specs.Prelude.{None}
use Rattle.std.specs.List.{AllByRecursion}
use Rattle.std.proofs.lemmas.Fmt.{decimal_injective}
use Rattle.std.proofs.lemmas.List.{length-append, length-map, nil_from_length}
use Rattle.tree_model.specs.declared.ops.Fill.{Fill}
use Rattle.script_text.specs.declared.arguments.Kind.{Kind}
use Rattle.script_text.specs.declared.arguments.Kind.TheVariants as kind
use Rattle.script_text.specs.declared.arguments.Kinds.{Kinds}
use Rattle.script_text.specs.declared.arguments.Argument.{Argument}
use Rattle.script_text.specs.Words.{decimal, fill_word, fill_words, spaced, joined}
use Rattle.script_text.specs.Arguments.{AreFills, IsFill, IsWithin, LastFit, AllFit, value_words, last_words}
use Rattle.script_text.specs.Arguments.{argument_words}
use Rattle.script_text.specs.Reading.{Reads, BeginsWith, words_in}
use Rattle.script_text.proofs.Splits.{words_in-some}

pub some_word : (text : List ℕ) → words_in text ≢ []
some_word text e = let spaces : [] ≡ 32 ∷ joined (words_in text) = ap spaced (sym e) ∙ words_in-some text in cc

-- a number that is not within a range
pub out-of-range : (least most : ℕ) (word : List ℕ) (number : ℕ) → number < 2 ^ 32 → word ≡ decimal number
    → (least ≤ number → number ≤ most → ⊥) → Reads (IsWithin least most) decimal word None
out-of-range least most word number small is out value within e =
    let same : number ≡ value = decimal_injective number value (omega arith) (omega (arith, within.0)) (sym is ∙ e) in
    out (subst (λ n. least ≤ n) (sym same) within.1) (subst (λ n. n ≤ most) (sym same) within.2)

-- ---- values in order
-- behind the values of one kind are the same words
pub behind : (kind : Kind) (one other : Argument) (more others : List (List ℕ))
    → value_words kind one ++ more ≡ value_words kind other ++ others → more ≡ others
behind kind.Nothing one other more others e = e
behind kind.Never one other more others e = e
behind (kind.Number least most) one other more others e = ap (drop 1) e
behind kind.Bytes one other more others e = ap (drop 1) e
behind kind.Actor one other more others e = ap (drop 1) e

pub left-over : (kind : Kind) (words : List (List ℕ)) (value : Argument) (more : List (List ℕ)) (other : Argument)
    (others : List (List ℕ)) → BeginsWith kind words value more → words ≡ value_words kind other ++ others
    → more ≡ others
left-over kind words value more other others begins e = behind kind value other more others (sym begins.1 ∙ e)

module _ (kinds : Kinds) (words rest others last : List (List ℕ)) where
  -- a reading of arguments whose fills are none
  pub no-fills : (first second third : Argument) → BeginsWith kinds.first words first rest
      → BeginsWith kinds.second rest second others → BeginsWith kinds.third others third last
      → Reads (LastFit kinds.fills) (last_words kinds.fills) last None
      → Reads (AllFit kinds) (argument_words kinds) words None
  no-fills first second third one two three none given fit e =
      none given.fills fit.fills (left-over kinds.third others third last given.third _ three
      (left-over kinds.second rest second others given.second _ two
      (left-over kinds.first words first rest given.first _ one e)))

-- ---- fills
fills_within : (fills value : List Fill) (text : List ℕ) → fill_words fills ++ words_in text ≡ fill_words value
    → length fills < length value
fills_within fills value text e =
    let some : length (words_in text) ≢ 0 = λ none. some_word text (nil_from_length (words_in text) none) in
    omega (
      arith,
      ap length e,
      length-append (fill_words fills) (words_in text),
      length-map fills fill_word,
      length-map value fill_word,
    )

-- more words than a stop has fills
pub too_many : (words : List (List ℕ)) (fills : List Fill) (text : List ℕ)
    → words ≡ fill_words fills ++ words_in text → length fills ≡ 32 → Reads AreFills fill_words words None
too_many words fills text whole full value are e =
    let more = fills_within fills value text (sym whole ∙ e) in
    let few : length value ≤ 32 = are.0 in
    absurd (omega arith)

fill_there : (fills value : List Fill) (word : List ℕ) (others : List (List ℕ)) → Reads IsFill fill_word word None
    → AllByRecursion IsFill value → fill_words fills ++ word ∷ others ≢ fill_words value
fill_there [] [] word others none each e = cc
fill_there [] (fill ∷ value) word others none each e = none fill each.0 (ap (λ ws. get_or ws 0 []) e)
fill_there (first ∷ fills) [] word others none each e = cc
fill_there (first ∷ fills) (fill ∷ value) word others none each e =
    fill_there fills value word others none each.1 (ap (drop 1) e)

-- a word that is no fill
pub strange_word : (words behind others : List (List ℕ)) (fills : List Fill) (word : List ℕ)
    → words ≡ fill_words fills ++ behind → behind ≡ word ∷ others → Reads IsFill fill_word word None
    → Reads AreFills fill_words words None
strange_word words behind others fills word whole first none value are e =
    fill_there fills value word others none are.1 (sym (whole ∙ ap (λ back. fill_words fills ++ back) first) ∙ e)
