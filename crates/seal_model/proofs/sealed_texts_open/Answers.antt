use Rattle.seal_model.proofs.Sealing.{unsealed-sealed_text}
use Rattle.seal_model.proofs.sealed_texts_open.Goals as goal

pub returns : goal.returns
returns c = unsealed-sealed_text
