use Rattle.std.proofs.Common.{subst}
use Rattle.user_world.specs.Meaning.{opened_by, PartStands}
use Rattle.user_world.proofs.laws.law_of_locality.Goals as goal

pub returns : goal.returns
returns c =
    λ opening tree other user known same stands. subst
    (λ part. PartStands (opened_by opening) user part known) same stands
