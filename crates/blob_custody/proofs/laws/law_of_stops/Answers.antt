use Rattle.blob_custody.proofs.Recoveries.{clean-stop}
use Rattle.blob_custody.proofs.laws.law_of_stops.Goals as goal

pub returns : goal.returns
returns c = clean-stop
