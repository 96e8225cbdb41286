-- What came whole as the text of a script isn't refused.
use Rattle.std.proofs.Common.{◌≡◌, ℕ, ◌≤◌, List, ◌++◌, length, inl, inr, sym, ap, subst, ◌∙◌, arith}
use Rattle.std.specs.Prelude.{Option, Some, None, IfSome}
use Rattle.std.proofs.lemmas.List.{append-nil}
use Rattle.script_text.specs.declared.script.Line.{Line}
use Rattle.script_text.specs.Script.{IsScript}
use Rattle.vold_run.specs.Input.{most_bytes, IsRefused, ScriptCame}

accepted : (bytes told : List ℕ) (lines : List Line) → told ≡ bytes → length bytes ≤ most_bytes
    → IsScript bytes lines → ¬ (IsRefused told)
accepted bytes told lines same few script (inl many) =
    let long : length told ≡ length bytes = ap length same in omega arith
accepted bytes told lines same few script (inr none) =
    none lines (subst (λ text. IsScript text lines) (sym same) script)

pub came-accepted : (before after : Option (List ℕ)) (lines : List Line) → ScriptCame before after lines
    → IfSome before (λ told. ¬ (IsRefused told))
came-accepted None after lines came = tt
came-accepted (Some told) None lines came =
    let taken = came.taken in absurd (let never : Some told ≡ None = taken in cc)
came-accepted (Some told) (Some rest) lines came =
    let taken : Some told ≡ Some (came.bytes ++ rest) = came.taken in
    let whole : told ≡ came.bytes ++ rest = cc in
    accepted came.bytes told lines
    (whole ∙ ap (λ more. came.bytes ++ more) came.ended ∙ append-nil came.bytes) came.few came.script
