use Rattle.journal_model.proofs.DefinedReply.{defined_reply_is_verdict}
use Rattle.journal_model.proofs.laws.law_of_defined_reply.Goals as goal

pub returns : goal.returns
returns c = defined_reply_is_verdict
