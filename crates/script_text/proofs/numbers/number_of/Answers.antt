use Rattle.std.proofs.Common.{◌≡◌, false, true, refl, subst}
use Rattle.std.specs.Str.Parse.{ParsesUnsigned}
use Rattle.script_text.proofs.Decimals.{none-plain, none-utf8, parsed, none-given, given}
use Rattle.script_text.proofs.numbers.number_of.Goals as goal

pub returns-then-not-is_plain : goal.returns-then-not-is_plain
returns-then-not-is_plain c =
    none-plain c.args.word.now (λ plain. let no : false ≡ true = c.if-not-is_plain.ensures.1 plain in cc)

pub returns-in_err-text : goal.returns-in_err-text
returns-in_err-text c =
    rw c.from_residual.ensures
    (none-utf8 c.args.word.now
    (none-given c.from_utf8.result _ _ _ c.from_utf8.ensures.cases c.in_err-text.ensures.value))

pub returns : goal.returns
returns c =
    let same : c.in_ok-text.text.now ≡ c.args.word.now =
    given (λ s. s.now) c.args.word.now c.from_utf8.result _ _ c.in_ok-text.text c.from_utf8.ensures.cases
    c.in_ok-text.ensures.value in
    rw c.ok-2.ensures.value
    (parsed c.args.word.now c.parse.result (c.if-not-is_plain.ensures.0 refl)
    (subst (λ w. ParsesUnsigned 32 10 w c.parse.result) same c.parse.ensures.value.0))
