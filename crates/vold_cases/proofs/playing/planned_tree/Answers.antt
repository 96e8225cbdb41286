use Rattle.std.proofs.Common.{rules, ◌≡◌, ◌<◌, ◌^◌, ◌∙◌, subst}
use Rattle.journal_model.specs.declared.entries.Device.TheVariants.{Tree as TreeDevice}
use Rattle.vold_cases.specs.Played.{Plans}
use Rattle.vold_cases.proofs.Plans.{fault_planned}
use Rattle.vold_cases.proofs.playing.planned_tree.Goals as goal

pub loop-fault-preserved : goal.loop-fault-preserved
loop-fault-preserved c =
    let small : c.fault-item.result.call < 2 ^ 64 = search rules in
    let same : c.from.result ≡ c.fault-item.result.call = search rules in
    record {
      empty = c.plan_in_tree.ensures.same ∙ c.loop-fault.invariant.empty;
      planned =
          fault_planned TreeDevice c.args.faults.now c.loop-fault.fault-index c.fault-item.result
          c.loop-fault.tree.counts c.plan_in_tree.new.tree.counts c.loop-fault-test.true c.fault-item.is small
          c.loop-fault.invariant.planned
          (subst (λ call. Plans TreeDevice c.fault-item.result.device call c.loop-fault.tree.counts
          c.plan_in_tree.new.tree.counts) same c.in_ok-plan_in_tree.ensures.planned);
    }
