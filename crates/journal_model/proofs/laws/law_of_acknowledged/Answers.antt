use Rattle.journal_model.proofs.Acknowledged.{acknowledged}
use Rattle.journal_model.proofs.laws.law_of_acknowledged.Goals as goal

pub returns : goal.returns
returns c = acknowledged
