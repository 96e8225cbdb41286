-- The text of a case from its parts, and a script with one line more.
use Rattle.std.proofs.Common.{◌≡◌, ◌≢◌, ℕ, List, [], ◌∷◌, ◌++◌, sym, ap, ◌∙◌, append_assoc}
use Rattle.std.specs.Prelude.{codes}
use Rattle.std.proofs.lemmas.List.{flat_map_more}
use Rattle.std.proofs.lemmas.List.Elements.{All-push}
use Rattle.script_text.specs.Reading.{Lacks}
use Rattle.vold_cases.specs.Case.{ended, ends_case, IsScriptLine, IsScriptText}

-- a case is read part by part
pub case_read : (text line body faults lines script others : List ℕ) → text ≡ line ++ 10 ∷ body
    → body ≡ faults ++ lines → lines ≡ script ++ (ends_case ++ others)
    → text ≡ (ended line ++ (faults ++ (script ++ ends_case))) ++ others
case_read text line body faults lines script others first second third =
    first
    ∙ ap (λ b. line ++ 10 ∷ b)
    (second
    ∙ ap (λ ls. faults ++ ls) (third ∙ sym (append_assoc script ends_case others))
    ∙ sym (append_assoc faults (script ++ ends_case) others))
    ∙ sym (append_assoc line (10 ∷ []) ((faults ++ (script ++ ends_case)) ++ others))
    ∙ sym (append_assoc (ended line) (faults ++ (script ++ ends_case)) others)

-- a script's text with one line more
pub script_more : (script line : List ℕ) → IsScriptText script → Lacks 10 line → line ≢ codes "."
    → IsScriptText ((script ++ line) ++ 10 ∷ [])
script_more script line text lacks other = (
  text.0 ++ line ∷ [],
  append_assoc script line (10 ∷ []) ∙ ap (λ s. s ++ ended line) text.1 ∙ flat_map_more ended [] text.0 line,
  All-push IsScriptLine text.0 line text.2 (lacks, other),
)

-- and what is left behind it
pub line_taken : (text script rest line others : List ℕ) → text ≡ script ++ rest → rest ≡ line ++ 10 ∷ others
    → text ≡ ((script ++ line) ++ 10 ∷ []) ++ others
line_taken text script rest line others read begins =
    read ∙ ap (λ r. script ++ r) begins ∙ sym (append_assoc script line (10 ∷ others)) ∙ sym
    (append_assoc (script ++ line) (10 ∷ []) others)
