use Rattle.std.proofs.Common.{◌≡◌, inl, inr, length, sym, ap, ◌∙◌}
use Rattle.std.specs.Cmp.Lexicographic.{other_text, same_text}
use Rattle.std.proofs.lemmas.Bool.{eqb-true}
use Rattle.std.proofs.lemmas.List.{nil_from_length}
use Rattle.hex.specs.Hex.{encode_lower}
use Rattle.script_text.proofs.Splits.{not_empty}
use Rattle.script_text.proofs.Spelled.{some_bytes, no_decoding, other_digits, spelled, bytes_decoded}
use Rattle.script_text.proofs.byte_words.bytes_of.Goals as goal

pub returns-then-is_empty : goal.returns-then-is_empty
returns-then-is_empty c =
    λ value are e. some_bytes value
    (sym e ∙ nil_from_length c.args.word.now (eqb-true (length c.args.word.now) 0 (sym c.if-is_empty.ensures)))

pub returns-in_default : goal.returns-in_default
returns-in_default c =
    elim c.in-Err.ensures.err [
      | inl want ↦ absurd (c.in_default.not-OutOfMemory want)
      | inr failed ↦ no_decoding c.args.word.now c.in-Err.fault
          (λ e. other_text c.args.word.now c.as_slice.result.now c.if-eq.ensures (e ∙ sym c.as_slice.ensures)) failed
    ]

pub returns-then-eq-2 : goal.returns-then-eq-2
returns-then-eq-2 c =
    let some = not_empty c.args.word.now c.if-is_empty.ensures in
    let digits : c.as_bytes.result.now ≡ encode_lower c.in-Ok.bytes.items =
    c.as_bytes.ensures.value ∙ c.in_ok-digits.ensures ∙ ap encode_lower c.as_slice-2.ensures.value in
    let word = sym (same_text c.as_bytes.result.now c.args.word.now c.if-eq-2.ensures) ∙ digits in
    rw c.from_vec-then-eq-2.ensures (
      bytes_decoded c.args.word.now c.in-Ok.bytes.items c.in-Ok.ensures.ok,
      spelled c.args.word.now c.in-Ok.bytes.items some word,
    )

pub returns : goal.returns
returns c =
    let digits : c.as_bytes.result.now ≡ encode_lower c.in-Ok.bytes.items =
    c.as_bytes.ensures.value ∙ c.in_ok-digits.ensures ∙ ap encode_lower c.as_slice-2.ensures.value in
    other_digits c.args.word.now c.in-Ok.bytes.items c.as_bytes.result.now
    (λ e. other_text c.args.word.now c.as_slice.result.now c.if-eq.ensures (e ∙ sym c.as_slice.ensures))
    c.in-Ok.ensures.ok digits (other_text c.as_bytes.result.now c.args.word.now c.if-eq-2.ensures)
