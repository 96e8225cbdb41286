use Rattle.task_turns.proofs.Lasting.{facts-last}
use Rattle.task_turns.proofs.laws.law_of_lasting.Goals as goal

pub returns : goal.returns
returns c = facts-last
