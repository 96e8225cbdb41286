-- A text of lines has one reading: lines end at their line feeds, and each stands where it may.
use Rattle.std.proofs.Common.{◌≡◌, ◌≢◌, ℕ, ◌-◌, ◌≤◌, true, false, List, [], ◌∷◌, ◌++◌, length, refl, sym, ap}
use Rattle.std.proofs.Common.{subst, ◌∙◌, arith}
use Rattle.std.specs.Prelude.{Option, Some, None, slice_get}
use Rattle.std.specs.List.{AllByRecursion}
use Rattle.std.proofs.lemmas.List.{append_assoc, append-nil, length-append, nil_from_length}
use Rattle.script_text.specs.declared.script.Line.{Line}
use Rattle.script_text.specs.Script.{IsLine, AreInOrder, IsPlaced, IsScript, IsNoScript, OneReading, may_follow}
use Rattle.script_text.specs.Script.{most_lines}
use Rattle.script_text.specs.Script.{spelling, text_of}
use Rattle.script_text.specs.Reading.{Lacks, IsSplit, Reads, BeginsNoLine}
use Rattle.script_text.proofs.Splits.{same_cut, uncut, each_joined}
use Rattle.script_text.proofs.Ink.{Lacks-spelling}
use Rattle.script_text.proofs.Rows.{same_spelling}

front_line : (line : Line) (lines : List Line) (rest : List ℕ)
    → text_of (line ∷ lines) ++ rest ≡ spelling line ++ 10 ∷ (text_of lines ++ rest)
front_line line lines rest =
    append_assoc (spelling line ++ 10 ∷ []) (text_of lines) rest
    ∙ append_assoc (spelling line) (10 ∷ []) (text_of lines ++ rest)

front_alone : (line : Line) (lines : List Line) → text_of (line ∷ lines) ≡ spelling line ++ 10 ∷ text_of lines
front_alone line lines = append_assoc (spelling line) (10 ∷ []) (text_of lines)

-- ---- the line before
-- the last of the lines, or what stands before them
abbrev pub last_of : Option Line → List Line → Option Line
last_of before [] = before
last_of before (line ∷ lines) = last_of (Some line) lines

last_at : (before : Option Line) (line : Line) (lines : List Line)
    → slice_get (line ∷ lines) (length lines) ≡ last_of before (line ∷ lines)
last_at before line [] = refl
last_at before line (next ∷ lines) = last_at (Some line) next lines

last_there : (lines : List Line) → slice_get lines (length lines - 1) ≡ last_of None lines
last_there [] = refl
last_there (line ∷ lines) =
    let behind : length (line ∷ lines) - 1 ≡ length lines = omega arith in
    ap (slice_get (line ∷ lines)) behind ∙ last_at None line lines

-- the last of the lines as code finds it
pub last_found : (lines items : List Line) (last : Option Line) → last ≡ slice_get items (length items - 1)
    → items ≡ lines → last ≡ last_of None lines
last_found lines items last found same = found ∙ ap (λ s. slice_get s (length s - 1)) same ∙ last_there lines

order_joined : (before : Option Line) (lines more : List Line) → AreInOrder before lines
    → AreInOrder (last_of before lines) more → AreInOrder before (lines ++ more)
order_joined before [] more order next = next
order_joined before (line ∷ lines) more order next = (order.0, order_joined (Some line) lines more order.1 next)

order_after : (before : Option Line) (lines more : List Line) → AreInOrder before (lines ++ more)
    → AreInOrder (last_of before lines) more
order_after before [] more order = order
order_after before (line ∷ lines) more order = order_after (Some line) lines more order.1

-- ---- what comes after lines that were read
pub record Continues (lines others : List Line) (rest : List ℕ) : Type 0 where
  pub more : List Line
  pub joined : others ≡ lines ++ more
  pub left : rest ≡ text_of more
  pub each : AllByRecursion IsLine more

-- lines whose text begins with that of other lines begin with those
continued : (lines others : List Line) (rest : List ℕ) → AllByRecursion IsLine lines → AllByRecursion IsLine others
    → text_of others ≡ text_of lines ++ rest → Continues lines others rest
continued [] others rest each every e = record { more = others; joined = refl; left = sym e; each = every }
continued (line ∷ lines) [] rest each every e =
    absurd (uncut 10 [] (spelling line) (text_of lines ++ rest) tt (e ∙ front_line line lines rest))
continued (line ∷ lines) (other ∷ others) rest each every e =
    let cut =
    same_cut 10 (spelling other) (spelling line) (text_of others) (text_of lines ++ rest)
    (Lacks-spelling other every.0) (Lacks-spelling line each.0)
    (sym (front_alone other others) ∙ e ∙ front_line line lines rest) in
    let same = same_spelling other line every.0 each.0 cut.0 in
    let on = continued lines others rest each.1 every.1 cut.1 in
    record { more = on.more; joined = λ i. same i ∷ on.joined i; left = on.left; each = on.each }

no_lines : (lines : List Line) → [] ≡ text_of lines → lines ≡ []
no_lines [] e = refl
no_lines (line ∷ lines) e = absurd (uncut 10 [] (spelling line) (text_of lines) tt (e ∙ front_alone line lines))

pub one_way : OneReading
one_way one other placed ranged same =
    let on = continued other one [] ranged.1 placed.1 (same ∙ sym (append-nil (text_of other))) in
    on.joined ∙ ap (λ more. other ++ more) (no_lines on.more on.left) ∙ append-nil other

-- ---- where a reading ends
begins : (rest : List ℕ) (more : List Line) → rest ≢ [] → BeginsNoLine rest → AllByRecursion IsLine more
    → rest ≢ text_of more
begins rest [] some strange each e = some e
begins rest (line ∷ more) some strange each e = strange line (text_of more) each.0 (e ∙ front_alone line more)

next_is : (before : Option Line) (line : Line) (more : List Line) (others : List ℕ) → IsLine line
    → may_follow before line ≡ false → AllByRecursion IsLine more → AreInOrder before more
    → spelling line ++ 10 ∷ others ≢ text_of more
next_is before line [] others is misplaced each order e = uncut 10 [] (spelling line) others tt (sym e)
next_is before line (next ∷ more) others is misplaced each order e =
    let cut =
    same_cut 10 (spelling line) (spelling next) others (text_of more) (Lacks-spelling line is)
    (Lacks-spelling next each.0) (e ∙ front_alone next more) in
    let same = same_spelling line next is each.0 cut.0 in
    let holds : may_follow before line ≡ true = subst (λ l. may_follow before l ≡ true) (sym same) order.0 in
    cc

module _ (bytes rest : List ℕ) (lines : List Line) (placed : IsPlaced lines)
    (read : bytes ≡ text_of lines ++ rest) where
  on : (others : List Line) → IsScript bytes others → Continues lines others rest
  on others script = continued lines others rest placed.1 script.0.1 (sym script.1 ∙ read)

  -- no script has more lines than it may
  pub refused-full : length lines ≡ most_lines → rest ≢ [] → IsNoScript bytes
  refused-full full some others script =
      let more = on others script in
      let count = ap length more.joined ∙ length-append lines more.more in
      let few : length others ≤ most_lines = script.0.0 in
      let none : length more.more ≡ 0 = omega arith in
      some (more.left ∙ ap text_of (nil_from_length more.more none))

  -- a rest that begins with no line ends every reading
  pub refused-strange : rest ≢ [] → BeginsNoLine rest → IsNoScript bytes
  refused-strange some strange others script =
      let more = on others script in begins rest more.more some strange more.each more.left

  -- a line that may not follow ends every reading
  pub refused-misplaced : (others : List ℕ) (line : Line) → IsLine line → rest ≡ spelling line ++ 10 ∷ others
      → may_follow (last_of None lines) line ≡ false → IsNoScript bytes
  refused-misplaced others line is begins_with misplaced scripted script =
      let more = on scripted script in
      let order : AreInOrder None (lines ++ more.more) = subst (AreInOrder None) more.joined script.0.2 in
      next_is (last_of None lines) line more.more others is misplaced more.each
      (order_after None lines more.more order) (sym begins_with ∙ more.left)

-- one more line is read
pub placed_on : (lines : List Line) (line : Line) → IsPlaced lines → IsLine line
    → may_follow (last_of None lines) line ≡ true → length lines ≢ most_lines → IsPlaced (lines ++ line ∷ [])
placed_on lines line placed is follows few =
    let short : length lines ≤ most_lines = placed.0 in (
      omega (arith, length-append lines (line ∷ [])),
      each_joined IsLine lines (line ∷ []) placed.1 (is, tt),
      order_joined None lines (line ∷ []) placed.2 (follows, tt),
    )

text_on : (lines : List Line) (line : Line)
    → text_of (lines ++ line ∷ []) ≡ text_of lines ++ (spelling line ++ 10 ∷ [])
text_on [] line = append-nil (spelling line ++ 10 ∷ [])
text_on (first ∷ lines) line =
    ap (λ rest. (spelling first ++ 10 ∷ []) ++ rest) (text_on lines line)
    ∙ sym (append_assoc (spelling first ++ 10 ∷ []) (text_of lines) (spelling line ++ 10 ∷ []))

pub read_on : (bytes rest others : List ℕ) (lines : List Line) (line : Line) → bytes ≡ text_of lines ++ rest
    → rest ≡ spelling line ++ 10 ∷ others → bytes ≡ text_of (lines ++ line ∷ []) ++ others
read_on bytes rest others lines line read begins_with =
    read
    ∙ ap (λ r. text_of lines ++ r) (begins_with ∙ sym (append_assoc (spelling line) (10 ∷ []) others))
    ∙ sym (append_assoc (text_of lines) (spelling line ++ 10 ∷ []) others)
    ∙ ap (λ t. t ++ others) (sym (text_on lines line))

-- without a line feed there is no line
pub strange-unended : (bytes : List ℕ) → Lacks 10 bytes → BeginsNoLine bytes
strange-unended bytes lacks line others is e = uncut 10 bytes (spelling line) others lacks e

-- where the first text is of no line, there is none
pub strange-text : (bytes text others : List ℕ) → IsSplit 10 bytes text others → Reads IsLine spelling text None
    → BeginsNoLine bytes
strange-text bytes text others split strange line behind is e =
    let cut =
    same_cut 10 text (spelling line) others behind split.first (Lacks-spelling line is) (sym split.whole ∙ e) in
    strange line is cut.0
