use Rattle.journal_model.proofs.HeldSlots.{held-slots}
use Rattle.journal_model.proofs.laws.law_of_slots.Goals as goal

pub returns : goal.returns
returns c = held-slots
