use Rattle.journal_model.proofs.SealedKeys.{sealed_keys_open}
use Rattle.journal_model.proofs.laws.law_of_sealed_keys.Goals as goal

pub returns : goal.returns
returns c = sealed_keys_open
