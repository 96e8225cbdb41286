use Rattle.script_text.proofs.Values.{no-fills}
use Rattle.script_text.proofs.reading.arguments_of.Goals as goal

pub returns-in_default-4 : goal.returns-in_default-4
returns-in_default-4 c =
    let one = rw c.in-Some.is at c.in_ok-first.ensures in
    let two = rw c.in-Some-2.is at c.in_ok-second.ensures in
    let three = rw c.in-Some-3.is at c.in_ok-third.ensures in
    let none = rw c.in_default-4.is at c.in_ok-fills.ensures in
    no-fills c.args.kinds _ _ _ _ c.in-Some.first c.in-Some-2.second c.in-Some-3.third one two three none
