-- The words of a line have no spaces and no line feeds, so its text falls into them again.
use Rattle.std.proofs.Common.{◌≡◌, ◌≢◌, ℕ, zero, suc, ◌<◌, ◌≤◌, ◌^◌, ◌/◌, ◌%◌, Bool, true, false, ◌&&◌, List, []}
use Rattle.std.proofs.Common.{◌∷◌, ◌++◌, length, get_or, slice_index, map, refl, sym, ap, ◌∙◌, arith}
use Rattle.std.specs.Prelude.{codes, nat_le, Option, Some, None}
use Rattle.std.specs.List.{AllByRecursion}
use Rattle.std.proofs.lemmas.Fmt.{decimal_is_IsNumeral}
use Rattle.std.proofs.lemmas.Str.Parse.{digit_at}
use Rattle.std.proofs.lemmas.Bool.{and_parts, leb-true}
use Rattle.hex.specs.Hex.{encode_lower, encode_with, lower_digits}
use Rattle.tree_model.specs.declared.ops.Fill.{Fill}
use Rattle.tree_model.specs.declared.ops.Fill.TheVariants.{Same, Bytes}
use Rattle.journal_model.specs.declared.commands.Actor.{Actor}
use Rattle.journal_model.specs.declared.commands.Actor.TheVariants.{Boot, Cp, User}
use Rattle.script_text.specs.declared.arguments.Kind.{Kind}
use Rattle.script_text.specs.declared.arguments.Kind.TheVariants as kind
use Rattle.script_text.specs.declared.arguments.Kinds.{Kinds}
use Rattle.script_text.specs.declared.arguments.Argument.{Argument}
use Rattle.script_text.specs.declared.arguments.Arguments.{Arguments}
use Rattle.script_text.specs.declared.forms.Keyword.{Keyword}
use Rattle.script_text.specs.declared.forms.Keyword.TheVariants.{Seed}
use Rattle.script_text.specs.declared.script.Line.{Line}
use Rattle.script_text.specs.Words.{decimal, bytes_word, actor_word, fill_word, spaced, joined}
use Rattle.script_text.specs.Arguments.{AreBytes, IsFill, IsTurner, Fits, LastFit, AllFit, number_in, bytes_in}
use Rattle.script_text.specs.Arguments.{actor_in, value_words, last_words, argument_words}
use Rattle.script_text.specs.Forms.{word_of, kinds_of}
use Rattle.script_text.specs.Script.{IsLine, row_of, line_words, spelling}
use Rattle.script_text.specs.Reading.{Lacks, Reads, words_in}
use Rattle.script_text.proofs.Splits.{each_joined, words_in-joined, joined-words_in}

-- bytes that are printed with ink, so neither spaces nor line feeds
abbrev pub IsInk : List ℕ → Type 0
IsInk word = AllByRecursion (λ byte. 32 < byte) word

pub Lacks-ink : (byte : ℕ) (word : List ℕ) → byte ≤ 32 → IsInk word → Lacks byte word
Lacks-ink byte [] low ink = tt
Lacks-ink byte (b ∷ word) low ink =
    ((λ same. let dark : 32 < b = ink.0 in absurd (omega arith)), Lacks-ink byte word low ink.1)

IsInk-from_reads : (word : List ℕ) → ((k : ℕ) → k < length word → 32 < get_or word k 0) → IsInk word
IsInk-from_reads [] reads = tt
IsInk-from_reads (b ∷ word) reads =
    (reads 0 (omega arith), IsInk-from_reads word (λ k within. reads (suc k) (omega arith)))

pub IsInk-decimal : (n : ℕ) → n < 2 ^ 32 → IsInk (decimal n)
IsInk-decimal n small = IsInk-from_reads (decimal n) (λ k within.
    let range = digit_at (decimal n) k (decimal_is_IsNumeral n (omega arith)).0.1 within in omega arith)

-- as a test, which computes on literals
all_ink : List ℕ → Bool
all_ink [] = true
all_ink (b ∷ word) = nat_le 33 b && all_ink word

IsInk-literal : (word : List ℕ) → all_ink word ≡ true → IsInk word
unfolding all_ink
IsInk-literal [] e = tt
IsInk-literal (b ∷ word) e =
    let parts = and_parts (nat_le 33 b) (all_ink word) e in
    (let dark : 33 ≤ b = leb-true 33 b parts.0 in omega arith, IsInk-literal word parts.1)

IsInk-at : (word : List ℕ) (k : ℕ) → IsInk word → k < length word → 32 < get_or word k 0
IsInk-at [] k ink within = absurd (omega arith)
IsInk-at (b ∷ word) zero ink within = ink.0
IsInk-at (b ∷ word) (suc k) ink within = IsInk-at word k ink.1 (omega arith)

digit_is_ink : (d : ℕ) → d < 16 → 32 < slice_index lower_digits d
unfolding all_ink
digit_is_ink d low = IsInk-at lower_digits d (IsInk-literal lower_digits refl) low

IsInk-encode : (bytes : List ℕ) → AreBytes bytes → IsInk (encode_lower bytes)
unfolding encode_with
IsInk-encode [] are = tt
IsInk-encode (b ∷ bytes) are =
    let fits : b < 256 = are.0 in
    (digit_is_ink (b / 16) (omega arith), (digit_is_ink (b % 16) (omega arith), IsInk-encode bytes are.1))

pub IsInk-bytes : (bytes : List ℕ) → AreBytes bytes → IsInk (bytes_word bytes)
IsInk-bytes [] are = (omega arith, tt)
IsInk-bytes (b ∷ bytes) are = IsInk-encode (b ∷ bytes) are

IsInk-fill : (fill : Fill) → IsFill fill → IsInk (fill_word fill)
IsInk-fill Same is = (omega arith, tt)
IsInk-fill (Bytes bytes) is = IsInk-bytes bytes is.1

IsInk-fills : (fills : List Fill) → AllByRecursion IsFill fills → AllByRecursion IsInk (map fill_word fills)
IsInk-fills [] each = tt
IsInk-fills (fill ∷ fills) each = (IsInk-fill fill each.0, IsInk-fills fills each.1)

IsInk-actor : (actor : Actor) → IsTurner actor → IsInk (actor_word actor)
unfolding all_ink
IsInk-actor Boot is = IsInk-literal (codes "boot") refl
IsInk-actor Cp is = absurd is
IsInk-actor (User user) is = IsInk-decimal user is

IsInk-value : (kind : Kind) (value : Argument) → Fits kind value → AllByRecursion IsInk (value_words kind value)
IsInk-value kind.Nothing value fits = tt
IsInk-value kind.Never value fits = absurd fits
IsInk-value (kind.Number least most) value fits = (IsInk-decimal (number_in value) fits.0, tt)
IsInk-value kind.Bytes value fits = (IsInk-bytes (bytes_in value) fits.1, tt)
IsInk-value kind.Actor value fits = (IsInk-actor (actor_in value) fits, tt)

IsInk-last : (any : Bool) (fills : List Fill) → LastFit any fills → AllByRecursion IsInk (last_words any fills)
IsInk-last true fills fit = IsInk-fills fills fit.1
IsInk-last false fills fit = tt

IsInk-arguments : (kinds : Kinds) (given : Arguments) → AllFit kinds given
    → AllByRecursion IsInk (argument_words kinds given)
IsInk-arguments kinds given fit =
    let third = value_words kinds.third given.third in
    let second = value_words kinds.second given.second in
    let last = last_words kinds.fills given.fills in
    each_joined IsInk (value_words kinds.first given.first) (second ++ (third ++ last))
    (IsInk-value kinds.first given.first fit.first)
    (each_joined IsInk second (third ++ last) (IsInk-value kinds.second given.second fit.second)
    (each_joined IsInk third last (IsInk-value kinds.third given.third fit.third)
    (IsInk-last kinds.fills given.fills fit.fills)))

-- a test of the table
IsInk-word : (keyword : Keyword) → IsInk (word_of keyword)
unfolding all_ink
IsInk-word Seed = IsInk-literal (word_of Seed) refl
IsInk-word keyword = IsInk-literal (word_of keyword) refl

IsInk-line : (line : Line) → IsLine line → AllByRecursion IsInk (line_words line)
IsInk-line line is = let row = row_of line in (IsInk-word row.0, IsInk-arguments (kinds_of row.0) row.1 is)

Lacks-words : (words : List (List ℕ)) → AllByRecursion IsInk words → AllByRecursion (Lacks 32) words
Lacks-words [] ink = tt
Lacks-words (word ∷ words) ink = (Lacks-ink 32 word (omega arith) ink.0, Lacks-words words ink.1)

Lacks-spaced : (words : List (List ℕ)) → AllByRecursion IsInk words → Lacks 10 (spaced words)
Lacks-spaced [] ink = tt
Lacks-spaced (word ∷ words) ink = (
  (λ e. absurd (omega arith)),
  each_joined (λ b. b ≢ 10) word (spaced words) (Lacks-ink 10 word (omega arith) ink.0) (Lacks-spaced words ink.1),
)

Lacks-joined : (words : List (List ℕ)) → AllByRecursion IsInk words → Lacks 10 (joined words)
Lacks-joined [] ink = tt
Lacks-joined (word ∷ words) ink =
    each_joined (λ b. b ≢ 10) word (spaced words) (Lacks-ink 10 word (omega arith) ink.0) (Lacks-spaced words ink.1)

-- no line has a line feed in it
pub Lacks-spelling : (line : Line) → IsLine line → Lacks 10 (spelling line)
Lacks-spelling line is = Lacks-joined (line_words line) (IsInk-line line is)

-- the words of a line's text are those of the line
pub words_of_line : (line : Line) → IsLine line → words_in (spelling line) ≡ line_words line
words_of_line line is =
    let row = row_of line in
    let ink = IsInk-line line is in
    words_in-joined (word_of row.0) (argument_words (kinds_of row.0) row.1)
    (Lacks-ink 32 (word_of row.0) (omega arith) ink.0)
    (Lacks-words (argument_words (kinds_of row.0) row.1) ink.1)

-- a line read from the words of a text is read from the text
pub read_by_words : (text : List ℕ) (read : Option Line) → Reads IsLine line_words (words_in text) read
    → Reads IsLine spelling text read
read_by_words text None none = λ line is e. none line is (ap words_in e ∙ words_of_line line is)
read_by_words text (Some line) found = (found.0, sym (joined-words_in text) ∙ ap joined found.1)
