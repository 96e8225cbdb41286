use Rattle.bench.proofs.Known.{knows-made}
use Rattle.bench.proofs.laws.law_of_known_calls.Goals as goal

pub returns : goal.returns
returns c = knows-made
