use Rattle.std.proofs.Common.{◌^◌, ◌<◌, refl, sym, ap, ◌∙◌, subst, inl, inr}
use Rattle.std.specs.Prelude.{IfSome, IsSome, Contains}
use Rattle.std.specs.Ordering.{nat_cmp}
use Rattle.std.specs.FinMap as map
use Rattle.sorted_map.specs.Maps.{held}
use Rattle.tree_model.specs.Counted.{planned_more}
use Rattle.call_counter.proofs.Planned.{planned-insert}
use Rattle.call_counter.proofs.counter.Counter.plan.Goals as goal

pub returns-in_ok-insert-clause-planned : goal.returns-in_ok-insert-clause-planned
returns-in_ok-insert-clause-planned c =
    let before = held nat_cmp c.self.inside.planned in
    let after = held nat_cmp c.insert.new.self in
    let inserted = c.in_ok-insert.ensures.held in
    let more : planned_more (map.keys before) c.self.inside.calls c.args.nth (map.keys after) = λ call.
    let is = planned-insert before c.in-Some.call tt call in (
      λ planned. elim (is.0 (subst (λ m. Contains (map.keys m) call) inserted planned)) [
        | inl earlier ↦ inl earlier
        | inr same ↦
            let sum = same ∙ c.in-Some.ensures.1 in inr (sum, subst (λ n. n < 2 ^ 64) (sym sum) c.in-Some.ensures.0)
      ],
      λ either. subst (λ m. Contains (map.keys m) call) (sym inserted) (is.1 (elim either [
        | inl earlier ↦ inl earlier
        | inr same ↦ inr (same.0 ∙ sym c.in-Some.ensures.1)
      ])),
    ) in
    record {
      same_calls = ap (λ counts. counts.calls) c.self.view_is;
      same_faults = ap (λ counts. counts.faults) c.self.view_is;
      planned = subst (λ counts. IfSome counts.plan
          (λ planned. planned_more planned counts.calls c.args.nth (map.keys after))) c.self.view_is more;
      told = (λ _. refl, λ _. subst (λ counts. IsSome counts.plan) c.self.view_is refl);
    }
