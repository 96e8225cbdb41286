use Rattle.sorted_map.proofs.Places.{placed}
use Rattle.sorted_map.proofs.place.Goals as goal

pub returns-clause-there : goal.returns-clause-there
returns-clause-there g c =
    (placed g.met.K.Ord.total c.args.key c.args.keys.now _ c.requires c.binary_search.ensures.bound
    c.binary_search.ensures.position).0

pub returns-clause-absent : goal.returns-clause-absent
returns-clause-absent g c =
    (placed g.met.K.Ord.total c.args.key c.args.keys.now _ c.requires c.binary_search.ensures.bound
    c.binary_search.ensures.position).1
