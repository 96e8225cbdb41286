use Rattle.std.proofs.Common.{sym, ◌∙◌}
use Rattle.std.proofs.lemmas.Bool.{false≢true}
use Rattle.sorted_map.proofs.Maps.{there-insert}
use Rattle.docket.proofs.Queues.{drops-last, drops-one}
use Rattle.docket.proofs.waiting.take_first.Goals as goal

pub replace-requires : goal.replace-requires
replace-requires g c =
    there-insert g.met.A.Ord.total g.met.A.ExactOrd.exact _ _ c.args.actor _ c.replace-queue.ensures.held

pub returns-then-is_empty : goal.returns-then-is_empty
returns-then-is_empty g c = drops-last g.met.A.Ord.total g.met.A.ExactOrd.exact _ _ _ c.args.actor _ _
    c.replace-queue.ensures.held c.pop-number.result c.pop-number.new.self c.replace-queue.ensures.value
    c.pop-number.ensures (c.is_empty.ensures.0 c.if-is_empty.true) c.remove.ensures.held

pub returns-else-is_empty : goal.returns-else-is_empty
returns-else-is_empty g c = drops-one g.met.A.Ord.total g.met.A.ExactOrd.exact _ _ _ c.args.actor _ _
    c.replace-queue.ensures.held c.pop-number.result c.pop-number.new.self c.replace-queue.ensures.value
    c.pop-number.ensures (λ none. false≢true (sym c.if-is_empty.false ∙ c.is_empty.ensures.1 none))
    c.replace.ensures.held
