use Rattle.keystore_model.proofs.Stores.{store-empty, store-at_level}
use Rattle.keystore_model.proofs.laws.law_of_levels.Goals as goal

pub returns : goal.returns
returns c = record { empty = store-empty; moved = store-at_level }
