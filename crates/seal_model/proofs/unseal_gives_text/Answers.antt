use Rattle.seal_model.proofs.Sealing.{unseal_gives_text}
use Rattle.seal_model.proofs.unseal_gives_text.Goals as goal

pub returns : goal.returns
returns c = unseal_gives_text
