use Rattle.std.proofs.Common.{sym, add-one, rules}
use Rattle.sorted_map.proofs.Places.{after-none, after-stands, after-belongs, stands-within}
use Rattle.sorted_map.proofs.place_after.Goals as goal

pub overflow_add-result : goal.overflow_add-result
overflow_add-result g c =
    let within = stands-within g.K.Ord.cmp c.in-Some.key c.args.keys.now c.in-Ok.at c.in-Ok.ensures.there in
    search rules

pub returns-in-None : goal.returns-in-None
returns-in-None g c = rw c.in-None.is (sym (after-none g.K.Ord.cmp c.args.keys.now))

pub returns-in-Ok : goal.returns-in-Ok
returns-in-Ok g c =
    rw (c.in-Some.is, add-one)
    (sym (after-stands g.met.K.Ord.total c.in-Some.key c.args.keys.now c.in-Ok.at c.in-Ok.ensures.there))

pub returns-in-Err : goal.returns-in-Err
returns-in-Err g c =
    rw c.in-Some.is
    (sym (after-belongs g.met.K.Ord.total c.in-Some.key c.args.keys.now c.in-Err.at c.in-Err.ensures.absent))
