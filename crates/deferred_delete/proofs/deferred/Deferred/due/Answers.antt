use Rattle.std.proofs.Common.{◌≡◌, rules, subst}
use Rattle.std.specs.List.{find}
use Rattle.std.proofs.lemmas.Option.{IfSome_then}
use Rattle.deferred_delete.specs.Deferral.{IsNumbered, may_go}
use Rattle.deferred_delete.proofs.Found.{found-first, found-none}
use Rattle.deferred_delete.proofs.deferred.Deferred.due.Goals as goal

pub returns-clause-first : goal.returns-clause-first
returns-clause-first c =
    let is : c.copied.result ≡ find (may_go c.args.from) c.args.self.now.items = search rules in
    IfSome_then c.copied.result
    (found-first c.args.self.now c.args.from (subst IsNumbered c.self.view_is c.self.invariant.numbered) _ is)
    (λ item first. (c.if-active.false, first))

pub returns-clause-none : goal.returns-clause-none
returns-clause-none c = found-none c.args.self.now c.args.from c.args.active c.copied.result (search rules)
