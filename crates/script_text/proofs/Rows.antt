-- A line is known by its words: no two lines have the same.
use Rattle.std.proofs.Common.{◌≡◌, ◌≢◌, ℕ, suc, ◌<◌, ◌≤◌, Bool, true, false, if◌then◌else◌, List, [], ◌∷◌, ◌++◌}
use Rattle.std.proofs.Common.{get_or, drop, refl, sym, ap, subst, ◌∙◌, arith}
use Rattle.std.specs.Prelude.{nat_eq, length, Option, Some, None}
use Rattle.std.specs.Cmp.Lexicographic.{pointwise, same_text}
use Rattle.std.proofs.lemmas.Option.{none-some, same_Some}
use Rattle.std.proofs.lemmas.Fmt.{decimal_injective}
use Rattle.tree_model.specs.declared.ops.Fill.{Fill}
use Rattle.journal_model.specs.declared.commands.Command.TheVariants.{Recover}
use Rattle.script_text.specs.declared.arguments.Kind.{Kind}
use Rattle.script_text.specs.declared.arguments.Kind.TheVariants as kind
use Rattle.script_text.specs.declared.arguments.Argument.{Argument}
use Rattle.script_text.specs.declared.forms.Keyword.{Keyword}
use Rattle.script_text.specs.declared.forms.Keyword.TheVariants as keyword
use Rattle.script_text.specs.declared.script.Line.{Line}
use Rattle.script_text.specs.declared.script.Line.TheVariants.{Do, Stop}
use Rattle.script_text.specs.Arguments.{Fits, LastFit, AllFit, number_in, bytes_in, actor_in, value_words}
use Rattle.script_text.specs.Arguments.{last_words, argument_words}
use Rattle.script_text.specs.Forms.{every, word_of, kinds_of}
use Rattle.script_text.specs.Script.{IsLine, row_of, line_words, spelling}
use Rattle.script_text.specs.Reading.{words_in}
use Rattle.script_text.proofs.Spelled.{same_bytes, same_fills, same_actor}
use Rattle.script_text.proofs.Ink.{words_of_line}
use Rattle.script_text.proofs.Values.{behind}

-- the first of the keywords that has the text
abbrev pub found : List ℕ → List Keyword → Option Keyword
found text [] = None
found text (word ∷ words) = if pointwise nat_eq text (word_of word) then Some word else found text words

-- a test of the table: each keyword is in the list, and no other has its text
listed : (word : Keyword) → found (word_of word) every ≡ Some word
listed keyword.Seed = refl
listed word = refl

pub same_word : (one other : Keyword) → word_of one ≡ word_of other → one ≡ other
same_word one other e = same_Some one other (sym (listed one) ∙ ap (λ text. found text every) e ∙ listed other)

found-none : (text : List ℕ) (words : List Keyword)
    → ((k : ℕ) → k < length words → text ≢ word_of (get_or words k keyword.Seed)) → found text words ≡ None
found-none text [] reads = refl
found-none text (word ∷ words) reads =
    by_test (pointwise nat_eq text (word_of word)) refl
    (found-none text words (λ k within. reads (suc k) (omega arith)))
  where
    by_test : (t : Bool) → pointwise nat_eq text (word_of word) ≡ t → found text words ≡ None
        → (if t then Some word else found text words) ≡ None
    by_test true is rest = absurd (reads 0 (omega arith) (same_text text (word_of word) (sym is)))
    by_test false is rest = rest

-- a text that is that of none in the list is no keyword's
pub none_met : (text : List ℕ) (i : ℕ) → length every ≤ i
    → ((k : ℕ) → k < i → text ≢ word_of (get_or every k keyword.Seed))
    → (word : Keyword) → text ≢ word_of word
none_met text i past reads word e =
    none-some word
    (sym (found-none text every (λ k within. reads k (omega arith))) ∙ ap (λ t. found t every) e ∙ listed word)

-- two values of a kind are the same, as far as it wants one
abbrev pub Agree : Kind → Argument → Argument → Type 0
Agree kind.Nothing one other = Unit {0}
Agree kind.Never one other = Unit {0}
Agree (kind.Number least most) one other = number_in one ≡ number_in other
Agree kind.Bytes one other = bytes_in one ≡ bytes_in other
Agree kind.Actor one other = actor_in one ≡ actor_in other

-- and so are fills
abbrev pub LastAgree : Bool → List Fill → List Fill → Type 0
LastAgree true one other = one ≡ other
LastAgree false one other = Unit {0}

same_value : (kind : Kind) (one other : Argument) (more others : List (List ℕ)) → Fits kind one → Fits kind other
    → value_words kind one ++ more ≡ value_words kind other ++ others → Agree kind one other
same_value kind.Nothing one other more others fits fit e = tt
same_value kind.Never one other more others fits fit e = tt
same_value (kind.Number least most) one other more others fits fit e =
    decimal_injective (number_in one) (number_in other) (omega (arith, fits.0)) (omega (arith, fit.0))
    (ap (λ ws. get_or ws 0 []) e)
same_value kind.Bytes one other more others fits fit e =
    same_bytes (bytes_in one) (bytes_in other) fits.1 fit.1 (ap (λ ws. get_or ws 0 []) e)
same_value kind.Actor one other more others fits fit e =
    same_actor (actor_in one) (actor_in other) fits fit (ap (λ ws. get_or ws 0 []) e)

same_last : (any : Bool) (one other : List Fill) → LastFit any one → LastFit any other
    → last_words any one ≡ last_words any other → LastAgree any one other
same_last true one other fit fits e = same_fills one other fit.1 fits.1 e
same_last false one other fit fits e = tt

-- a line is known by its word and its arguments, as far as it wants any
same_row : (one other : Line) → (row_of one).0 ≡ (row_of other).0
    → Agree (kinds_of (row_of one).0).first (row_of one).1.first (row_of other).1.first
    → Agree (kinds_of (row_of one).0).second (row_of one).1.second (row_of other).1.second
    → Agree (kinds_of (row_of one).0).third (row_of one).1.third (row_of other).1.third
    → LastAgree (kinds_of (row_of one).0).fills (row_of one).1.fills (row_of other).1.fills → one ≡ other
same_row (Do Recover) (Do Recover) word first second third fills = refl
same_row one (Do Recover) word first second third fills = cc
same_row (Stop cut) (Stop other) word first second third fills =
    λ i. Stop (record { keep = first i; fills = fills i })
same_row one other word first second third fills = cc

same_line : (one other : Line) → IsLine one → IsLine other → line_words one ≡ line_words other → one ≡ other
same_line one other is was e =
    let row = row_of one in
    let with = row_of other in
    let kinds = kinds_of row.0 in
    let word : row.0 ≡ with.0 = same_word row.0 with.0 (ap (λ ws. get_or ws 0 []) e) in
    let fit : AllFit kinds with.1 = subst (λ k. AllFit (kinds_of k) with.1) (sym word) was in
    let first : argument_words kinds row.1 ≡ argument_words kinds with.1 =
    ap (drop 1) e ∙ ap (λ k. argument_words (kinds_of k) with.1) (sym word) in
    let second = behind kinds.first row.1.first with.1.first _ _ first in
    let third = behind kinds.second row.1.second with.1.second _ _ second in
    let last = behind kinds.third row.1.third with.1.third _ _ third in
    same_row one other word (same_value kinds.first row.1.first with.1.first _ _ is.first fit.first first)
    (same_value kinds.second row.1.second with.1.second _ _ is.second fit.second second)
    (same_value kinds.third row.1.third with.1.third _ _ is.third fit.third third)
    (same_last kinds.fills row.1.fills with.1.fills is.fills fit.fills last)

-- a line is known by its text
pub same_spelling : (one other : Line) → IsLine one → IsLine other → spelling one ≡ spelling other → one ≡ other
same_spelling one other is was e =
    same_line one other is was (sym (words_of_line one is) ∙ ap words_in e ∙ words_of_line other was)
