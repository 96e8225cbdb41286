use Rattle.std.proofs.Common.{◌≡◌, rules, sym, ap, ◌∙◌, subst}
use Rattle.std.specs.Vec.{vec_capacity}
use Rattle.std.proofs.lemmas.List.Sorted.{answers_always}
use Rattle.deferred_delete.specs.Deferral.{IsKept, taken}
use Rattle.deferred_delete.proofs.Found.{taken-found, taken-absent, kept-taken}
use Rattle.deferred_delete.proofs.deferred.Deferred.take.Goals as goal

left : (c : goal.After-remove) → c.remove.new.self.items ≡ taken c.self.inside.items.items c.args.number
left c = c.remove.ensures.items
    ∙ sym (taken-found c.args.number c.self.inside.items.items c.self.invariant.numbered.rising c.in-Ok.at
    (search rules)
    (rw (← c.deref.ensures.value) (c.in-Ok.ensures.position (λ item. item.number)
    (answers_always _ _ _ (λ f a r g called. search rules)))))

pub invariant_of-self : goal.invariant_of-self
invariant_of-self c =
    subst (λ items. IsKept items c.self.inside.next c.self.inside.promised (vec_capacity c.remove.new.self))
    (sym (left c))
    (subst (IsKept (taken c.self.inside.items.items c.args.number) c.self.inside.next c.self.inside.promised)
    (sym c.remove.ensures.capacity) (kept-taken c.args.number c.self.invariant))

pub returns-in-Ok : goal.returns-in-Ok
returns-in-Ok c =
    let items = left c ∙ ap (λ list. taken list.items c.args.number) c.self.view_is in
    λ i. record (c.self.view_is i) { items = items i }

pub returns-in-Err : goal.returns-in-Err
returns-in-Err c =
    let same = taken-absent c.args.number c.self.inside.items.items c.self.invariant.numbered.rising c.in-Err.field-0
    (rw (← c.deref.ensures.value) (c.in-Err.ensures.position (λ item. item.number)
    (answers_always _ _ _ (λ f a r g called. search rules)))) in
    let items = subst (λ list. list.items ≡ taken list.items c.args.number) c.self.view_is (sym same) in
    λ i. record c.args.self.now { items = items i }
