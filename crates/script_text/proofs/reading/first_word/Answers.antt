use Rattle.std.proofs.Common.{ap, ◌∙◌}
use Rattle.script_text.specs.Reading.{words_in}
use Rattle.script_text.proofs.Splits.{words_in-split, words_in-alone}
use Rattle.script_text.proofs.reading.first_word.Goals as goal

pub returns-in-Some : goal.returns-in-Some
returns-in-Some c =
    ap words_in c.in-Some.ensures.whole
    ∙ words_in-split c.in-Some.word.now c.in-Some.others.now c.in-Some.ensures.first

pub returns-in-None : goal.returns-in-None
returns-in-None c = words_in-alone c.args.text.now c.in-None.ensures
