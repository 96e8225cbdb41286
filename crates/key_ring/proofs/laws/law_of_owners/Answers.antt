use Rattle.key_ring.proofs.Owners.{owned}
use Rattle.key_ring.proofs.laws.law_of_owners.Goals as goal

pub returns : goal.returns
returns c = owned
