use Rattle.vold_cases.proofs.Lines.{words_cut, words_uncut}
use Rattle.vold_cases.proofs.reading.first_word.Goals as goal

pub returns-in-Some : goal.returns-in-Some
returns-in-Some c = words_cut c.args.text.now c.split_once.result c.in-Some.word c.in-Some.others
    c.split_once.ensures.cases c.in-Some.is

pub returns-in-None : goal.returns-in-None
returns-in-None c = words_uncut c.args.text.now c.split_once.result c.split_once.ensures.cases c.in-None.is
