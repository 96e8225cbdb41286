use Rattle.std.proofs.Common.{◌∷◌, ◌++◌, ap, subst, sym, ◌∙◌, map}
use Rattle.std.specs.List.{flat_map}
use Rattle.std.specs.String.{string_bytes}
use Rattle.script_text.specs.Reading.{Lacks, words_in}
use Rattle.script_text.specs.Words.{joined}
use Rattle.vold_cases.specs.Case.{fault_text, head_words}
use Rattle.vold_cases.proofs.Lines.{joined_again}
use Rattle.vold_cases.proofs.Cases.{case_read}
use Rattle.vold_cases.proofs.reading.next_case.Goals as goal

pub returns-clause-text : goal.returns-clause-text
returns-clause-text c =
    let words = head_words (string_bytes c.in-Some-2.name) (map string_bytes c.in-Some-2.words.items) in
    let read = rw c.in-Some-2.is at c.in_ok-name.ensures.read in
    let line = joined_again c.in-Some.line.now words read in
    case_read c.args.text.now (joined words) c.in-Some.body.now (flat_map fault_text c.in_ok-faults.faults.items)
    c.in_ok-faults.lines.now (string_bytes c.in_ok-script.script) c.in_ok-script.others.now
    (c.in-Some.ensures.line ∙ ap (λ l. l ++ 10 ∷ c.in-Some.body.now) line) c.in_ok-faults.ensures
    c.in_ok-script.ensures.text

pub returns-clause-case : goal.returns-clause-case
returns-clause-case c =
    let words = head_words (string_bytes c.in-Some-2.name) (map string_bytes c.in-Some-2.words.items) in
    let read = rw c.in-Some-2.is at c.in_ok-name.ensures.read in
    let line = joined_again c.in-Some.line.now words read in
    record {
      words = ap words_in (sym line) ∙ read;
      line = subst (Lacks 10) line c.in-Some.ensures.first;
      script = c.in_ok-script.ensures.script;
    }
