use Rattle.std.proofs.Common.{inr}
use Rattle.user_world.specs.Meaning.{opened_by}
use Rattle.user_world.proofs.Timelines.{line-settled, own-synced}
use Rattle.user_world.proofs.laws.law_of_settling.Goals as goal

pub returns : goal.returns
returns c = λ opening line stands. record {
  stands = line-settled (opened_by opening) line stands;
  later = λ user. inr (own-synced (opened_by opening) line user stands);
}
