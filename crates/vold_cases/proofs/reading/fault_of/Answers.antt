use Rattle.std.proofs.Common.{rules, ◌≡◌, ◌<◌, ◌^◌, sym, ap, ◌∙◌}
use Rattle.std.specs.Prelude.{codes}
use Rattle.std.specs.Option.{option_copied}
use Rattle.vold_cases.proofs.Faults.{two_words, no_fault-number, no_fault-zero, fault_read}
use Rattle.vold_cases.proofs.reading.fault_of.Goals as goal

pub returns-in_err-call : goal.returns-in_err-call
returns-in_err-call c =
    let word = c.first_word.result.0.now in
    let name = c.first_word-2.result.0.now in
    let text = c.in_ok-number.field-0.now in
    let split = two_words _ word c.in_ok-words.field-0.now name text _ _ c.first_word.ensures
    (ap option_copied c.in_ok-words.was) c.first_word-2.ensures (ap option_copied c.in_ok-number.was) in
    rw c.from_residual-in_err-call.ensures
    (no_fault-number _ word name text split (λ n small is.
    c.in_err-call.ensures n small (c.as_bytes.ensures.value ∙ is)))

pub returns-then-call-eq0 : goal.returns-then-call-eq0
returns-then-call-eq0 c =
    let word = c.first_word.result.0.now in
    let name = c.first_word-2.result.0.now in
    let text = c.in_ok-number.field-0.now in
    let split = two_words _ word c.in_ok-words.field-0.now name text _ _ c.first_word.ensures
    (ap option_copied c.in_ok-words.was) c.first_word-2.ensures (ap option_copied c.in_ok-number.was) in
    no_fault-zero _ word name text c.in_ok-call.call split (sym c.as_bytes.ensures.value ∙ c.in_ok-call.ensures)
    c.if-call-eq0.true

pub returns : goal.returns
returns c =
    let word = c.first_word.result.0.now in
    let name = c.first_word-2.result.0.now in
    let text = c.in_ok-number.field-0.now in
    let split = two_words _ word c.in_ok-words.field-0.now name text _ _ c.first_word.ensures
    (ap option_copied c.in_ok-words.was) c.first_word-2.ensures (ap option_copied c.in_ok-number.was) in
    let plans : word ≡ codes "plan" = search rules in
    let small : c.in_ok-call.call < 2 ^ 32 = search rules in
    let number = sym c.as_bytes.ensures.value ∙ c.in_ok-call.ensures in (
      small,
      fault_read _ word name text c.in_ok-device.device c.in_ok-call.call split plans c.in_ok-device.ensures.1
          small number,
    )
