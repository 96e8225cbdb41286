use Rattle.journal_model.proofs.Durable.{survives}
use Rattle.journal_model.proofs.laws.law_of_survival.Goals as goal

pub returns : goal.returns
returns c = survives
