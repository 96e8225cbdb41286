use Rattle.bench.proofs.Known.{knows-view}
use Rattle.bench.proofs.laws.law_of_known_places.Goals as goal

pub returns : goal.returns
returns c = knows-view
