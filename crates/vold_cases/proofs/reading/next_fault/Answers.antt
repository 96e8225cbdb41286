use Rattle.std.proofs.Common.{ap, ◌∷◌, ◌++◌, ◌∙◌}
use Rattle.vold_cases.specs.Case.{fault_words}
use Rattle.vold_cases.proofs.Lines.{joined_again}
use Rattle.vold_cases.proofs.reading.next_fault.Goals as goal

pub returns : goal.returns
returns c = c.in_ok-line.ensures.line ∙ ap (λ line. line ++ 10 ∷ c.in_ok-line.others.now)
    (joined_again c.in_ok-line.line.now (fault_words c.in_ok-fault_of.field-0) c.in_ok-fault_of.ensures.1)
