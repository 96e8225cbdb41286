use Rattle.std.proofs.Common.{rules, ◌≡◌, false, true, length, vec_len, subst, ◌∙◌, sym}
use Rattle.std.specs.Option.{option_copied}
use Rattle.script_text.specs.Script.{may_follow}
use Rattle.script_text.proofs.Splits.{not_empty}
use Rattle.script_text.proofs.Readings.{last_found, refused-full, refused-strange, refused-misplaced}
use Rattle.script_text.proofs.Readings.{placed_on, read_on}
use Rattle.script_text.proofs.script.read_script.Goals as goal

pub returns-then-len-eq-MOST_LINES-clause-refused : goal.returns-then-len-eq-MOST_LINES-clause-refused
returns-then-len-eq-MOST_LINES-clause-refused c =
    let count : vec_len c.loop-rest.lines ≡ length c.loop-rest.lines.items = search rules in
    let some = not_empty c.loop-rest.rest.now c.loop-rest-test.ensures in
    refused-full c.args.bytes.now c.loop-rest.rest.now c.loop-rest.lines.items c.loop-rest.invariant.placed
    c.loop-rest.invariant.read
    (sym count ∙ sym c.len.ensures ∙ c.if-len-eq-MOST_LINES.true) some

pub returns-in_default-clause-refused : goal.returns-in_default-clause-refused
returns-in_default-clause-refused c =
    let some = not_empty c.loop-rest.rest.now c.loop-rest-test.ensures in
    let none = rw c.in_default.is at c.in_ok-line.ensures in
    refused-strange c.args.bytes.now c.loop-rest.rest.now c.loop-rest.lines.items c.loop-rest.invariant.placed
    c.loop-rest.invariant.read some none

pub returns-then-not-may_follow-clause-refused : goal.returns-then-not-may_follow-clause-refused
returns-then-not-may_follow-clause-refused c =
    let lines = c.loop-rest.lines.items in
    let found = rw c.in-Some.is at c.in_ok-line.ensures in
    let last = option_copied c.last.result in
    let before = last_found lines c.as_slice.result.now last c.last.ensures.value c.as_slice.ensures.value in
    let misplaced : may_follow (option_copied c.last.result) c.in-Some.line ≡ false =
    sym c.may_follow.ensures ∙ c.if-not-may_follow.true in
    refused-misplaced c.args.bytes.now c.loop-rest.rest.now lines c.loop-rest.invariant.placed
    c.loop-rest.invariant.read c.in-Some.others.now c.in-Some.line found.0 found.1
    (subst (λ b. may_follow b c.in-Some.line ≡ false) before misplaced)

pub loop-rest-preserved : goal.loop-rest-preserved
loop-rest-preserved c =
    let lines = c.loop-rest.lines.items in
    let found = rw c.in-Some.is at c.in_ok-line.ensures in
    let last = option_copied c.last.result in
    let before = last_found lines c.as_slice.result.now last c.last.ensures.value c.as_slice.ensures.value in
    let follows : may_follow (option_copied c.last.result) c.in-Some.line ≡ true =
    sym c.may_follow.ensures ∙ c.if-not-may_follow.false in
    let count : vec_len c.loop-rest.lines ≡ length lines = search rules in
    rw c.in_ok-push.ensures.items (record {
      placed =
          placed_on lines c.in-Some.line c.loop-rest.invariant.placed found.0
          (subst (λ b. may_follow b c.in-Some.line ≡ true) before follows)
          (λ full. c.if-len-eq-MOST_LINES.false (c.len.ensures ∙ count ∙ full));
      read =
          read_on c.args.bytes.now c.loop-rest.rest.now c.in-Some.others.now lines c.in-Some.line
          c.loop-rest.invariant.read found.1;
    })
