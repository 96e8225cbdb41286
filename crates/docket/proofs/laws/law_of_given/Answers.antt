use Rattle.docket.proofs.Accounts.{accounted-empty, accounted-given, accounted-given_first}
use Rattle.docket.proofs.laws.law_of_given.Goals as goal

pub returns : goal.returns
returns g c = record {
  empty = λ actor_of. accounted-empty g.met.A.Ord.total g.met.A.ExactOrd.exact actor_of;
  last = λ actor_of taken docket command stand.
      accounted-given g.met.A.Ord.total g.met.A.ExactOrd.exact actor_of docket taken stand command;
  first = λ actor_of taken docket command stand.
      accounted-given_first g.met.A.Ord.total g.met.A.ExactOrd.exact actor_of docket taken stand command;
}
