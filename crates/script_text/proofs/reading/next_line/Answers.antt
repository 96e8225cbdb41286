use Rattle.std.proofs.Common.{◌∷◌, ◌++◌, ap, ◌∙◌}
use Rattle.script_text.proofs.Ink.{read_by_words}
use Rattle.script_text.proofs.Readings.{strange-unended, strange-text}
use Rattle.script_text.proofs.reading.next_line.Goals as goal

pub returns-in_default : goal.returns-in_default
returns-in_default c = strange-unended c.args.bytes.now c.in_default.ensures

pub returns-in_default-2 : goal.returns-in_default-2
returns-in_default-2 c =
    let none = rw c.in_default-2.is at (read_by_words c.in-Some.text.now c.in_ok-line.field-0 c.in_ok-line.ensures) in
    strange-text c.args.bytes.now c.in-Some.text.now c.in-Some.others.now c.in-Some.ensures none

pub returns : goal.returns
returns c =
    let read = rw c.in-Some-2.is at (read_by_words c.in-Some.text.now c.in_ok-line.field-0 c.in_ok-line.ensures) in
    (read.0, c.in-Some.ensures.whole ∙ ap (λ front. front ++ 10 ∷ c.in-Some.others.now) read.1)
