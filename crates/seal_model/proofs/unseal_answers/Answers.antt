use Rattle.seal_model.proofs.Sealing.{unseal_answers}
use Rattle.seal_model.proofs.unseal_answers.Goals as goal

pub returns : goal.returns
returns c = unseal_answers
