use Rattle.std.proofs.Common.{rules}
use Rattle.std.proofs.lemmas.List.Elements.{All-push}
use Rattle.vold_cases.specs.Case.{case_text, IsCase}
use Rattle.vold_cases.proofs.Lines.{one_more_read}
use Rattle.vold_cases.proofs.reading.read_cases.Goals as goal

pub loop-rest-preserved : goal.loop-rest-preserved
loop-rest-preserved c =
    let before = c.loop-rest.cases.items in
    rw c.in_ok-push.ensures.items (record {
      read = one_more_read case_text before c.in_ok-case.case c.args.text.now c.loop-rest.rest.now
          c.in_ok-case.others.now c.loop-rest.invariant.read c.in_ok-case.ensures.text;
      utf8 = search rules;
      cases = All-push IsCase before c.in_ok-case.case c.loop-rest.invariant.cases c.in_ok-case.ensures.case;
    })
