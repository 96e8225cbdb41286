use Rattle.std.proofs.Common.{◌≡◌, ◌∷◌, length, sym, ap, ◌∙◌, subst}
use Rattle.std.specs.FinMap as map
use Rattle.sorted_map.specs.Maps.{held}
use Rattle.docket.specs.Docket.{AllQueues, queue_of}
use Rattle.docket.proofs.Queues.{one-more, queues-first}
use Rattle.docket.proofs.Docket.enqueue_first.Goals as goal

pub invariant_of-self-2 : goal.invariant_of-self-2
invariant_of-self-2 g c =
    let before = held g.A.Ord.cmp c.self.inside.waiting in
    let given = c.self.inside.commands.items in
    let is : c.len-number.result ≡ length given = c.len-number.ensures ∙ c.self.inside.commands.ok.0 in
    let more = one-more given _ c.push.new.self.items c.args.command c.in_ok-reserve.ensures.items
    (rw c.unwrap.ensures at c.push.ensures.items) in
    subst (λ n. AllQueues n (held g.A.Ord.cmp c.add_first.new.waiting)) (sym more)
    (queues-first g.met.A.Ord.total g.met.A.ExactOrd.exact (length given) before _ c.args.actor c.self.invariant
    (c.in_ok-add_first.ensures.added ∙ ap (λ n. map.insert before c.args.actor (n ∷ queue_of before c.args.actor)) is))
