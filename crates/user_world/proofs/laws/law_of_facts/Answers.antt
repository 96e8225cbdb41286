use Rattle.user_world.proofs.Facts.{later-facts}
use Rattle.user_world.proofs.laws.law_of_facts.Goals as goal

pub returns : goal.returns
returns c = later-facts
