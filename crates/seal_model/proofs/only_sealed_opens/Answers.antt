use Rattle.seal_model.proofs.OnlySealed.{only_sealed_opens}
use Rattle.seal_model.proofs.only_sealed_opens.Goals as goal

pub returns : goal.returns
returns c = only_sealed_opens
