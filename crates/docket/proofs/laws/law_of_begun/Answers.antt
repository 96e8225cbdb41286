use Rattle.docket.proofs.Accounts.{accounted-begun}
use Rattle.docket.proofs.laws.law_of_begun.Goals as goal

pub returns : goal.returns
returns g c = λ actor_of taken docket actor number numbers work queue stand.
    accounted-begun g.met.A.Ord.total g.met.A.ExactOrd.exact actor_of docket taken stand actor number
    numbers queue work
