use Rattle.journal_model.proofs.Durable.{answered}
use Rattle.journal_model.proofs.laws.law_of_answered.Goals as goal

pub returns : goal.returns
returns c = answered
