use Rattle.vold_cases.proofs.Lines.{line_cut, line_uncut}
use Rattle.vold_cases.proofs.reading.first_line.Goals as goal

pub returns-clause-first : goal.returns-clause-first
returns-clause-first c = line_cut c.args.text.now c.split_once.result c.split_once.ensures.cases

pub returns-clause-none : goal.returns-clause-none
returns-clause-none c = line_uncut c.args.text.now c.split_once.result c.split_once.ensures.cases
