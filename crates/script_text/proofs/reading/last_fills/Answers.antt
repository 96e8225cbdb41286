use Rattle.script_text.proofs.Values.{some_word}
use Rattle.script_text.proofs.reading.last_fills.Goals as goal

pub returns-in-Some : goal.returns-in-Some
returns-in-Some c = rw (c.if-wanted.false, c.in-Some.is) (λ value fit. some_word c.in-Some.field-0.now)
