use Rattle.blob_custody.proofs.Steps.{clean-reply}
use Rattle.blob_custody.proofs.laws.law_of_replies.Goals as goal

pub returns : goal.returns
returns c = clean-reply
