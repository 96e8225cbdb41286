use Rattle.std.proofs.Common.{rules, ◌≡◌, ◌≢◌, ◌∷◌, [], ◌++◌, subst, sym, ap, ◌∙◌, arith}
use Rattle.std.specs.Prelude.{codes}
use Rattle.std.specs.String.{string_bytes}
use Rattle.std.proofs.lemmas.Str.{encode_ascii}
use Rattle.vold_cases.specs.Case.{IsScriptText}
use Rattle.vold_cases.proofs.Cases.{script_more, line_taken}
use Rattle.vold_cases.proofs.reading.script_of.Goals as goal

pub loop-line-preserved : goal.loop-line-preserved
loop-line-preserved c =
    let before = string_bytes c.loop-line.script in
    let line = c.in-Some.line.now in
    let more : string_bytes c.push.new.self ≡ (before ++ line) ++ 10 ∷ [] = c.in_ok-push.ensures.bytes ∙ ap
    (λ end. string_bytes c.push_str.new.self ++ end) (encode_ascii 10 (omega arith)) ∙ ap (λ s. s ++ 10 ∷ [])
    c.in_ok-push_str.ensures.bytes in
    let other : line ≢ codes "." = search rules in
    record {
      read = line_taken c.args.text.now before c.loop-line.rest.now line c.in-Some.others.now
          c.loop-line.invariant.read c.in-Some.ensures.line ∙ ap (λ s. s ++ c.in-Some.others.now) (sym more);
      utf8 = search rules;
      script = subst IsScriptText (sym more)
          (script_more before line c.loop-line.invariant.script c.in-Some.ensures.first other);
    }
