use Rattle.script_text.proofs.Readings.{one_way}
use Rattle.script_text.proofs.script.one_reading.Goals as goal

pub returns : goal.returns
returns c = one_way
