use Rattle.script_text.proofs.Rows.{none_met}
use Rattle.script_text.proofs.forms.Keyword.named.Goals as goal

pub returns : goal.returns
returns c = none_met c.args.text.now c.loop-keyword.keyword-index c.loop-keyword-test.false c.loop-keyword.invariant
