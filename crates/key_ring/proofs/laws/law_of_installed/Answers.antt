use Rattle.key_ring.proofs.Rings.{law}
use Rattle.key_ring.proofs.laws.law_of_installed.Goals as goal

pub returns : goal.returns
returns c = law
