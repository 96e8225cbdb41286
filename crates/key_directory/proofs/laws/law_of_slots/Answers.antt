use Rattle.key_directory.proofs.Opened.{slots-tell}
use Rattle.key_directory.proofs.laws.law_of_slots.Goals as goal

pub returns : goal.returns
returns c = slots-tell
