use Rattle.std.proofs.Common.{◌∷◌}
use Rattle.std.proofs.lemmas.Result.{on_ok_weaker, on_err_weaker}
use Rattle.sorted_map.specs.Maps.{held}
use Rattle.sorted_map.proofs.Maps.{there-insert}
use Rattle.docket.proofs.Queues.{changes-queue, keeps-queue}
use Rattle.docket.proofs.waiting.add_first.Goals as goal

pub replace-requires : goal.replace-requires
replace-requires g c =
    there-insert g.met.A.Ord.total g.met.A.ExactOrd.exact _ _ c.args.actor _ c.replace-queue.ensures.held

pub returns-then-contains_key-clause-added : goal.returns-then-contains_key-clause-added
returns-then-contains_key-clause-added g c = on_ok_weaker c.push_first-pushed.result (changes-queue
    g.met.A.Ord.total g.met.A.ExactOrd.exact _
    (held g.A.Ord.cmp c.replace-queue.new.self) (held g.A.Ord.cmp c.replace.new.self)
    c.args.actor _ c.replace-queue.result c.replace-queue.ensures.held
    (λ queue. c.args.number ∷ queue) c.push_first-pushed.new.self c.replace-queue.ensures.value c.replace.ensures.held)
    c.push_first-pushed.ensures.pushed

pub returns-then-contains_key-clause-refused : goal.returns-then-contains_key-clause-refused
returns-then-contains_key-clause-refused g c = on_err_weaker c.push_first-pushed.result (keeps-queue
    g.met.A.Ord.total g.met.A.ExactOrd.exact _
    (held g.A.Ord.cmp c.replace-queue.new.self) (held g.A.Ord.cmp c.replace.new.self)
    c.args.actor _ c.replace-queue.result c.replace-queue.ensures.held
    c.push_first-pushed.new.self c.replace-queue.ensures.value c.replace.ensures.held)
    c.push_first-pushed.ensures.refused
