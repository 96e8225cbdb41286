use Rattle.std.proofs.Common.{rules, ◌≡◌, ◌<◌, ◌^◌, ◌∙◌, subst}
use Rattle.journal_model.specs.declared.entries.Device.TheVariants.{Store as StoreDevice}
use Rattle.vold_cases.specs.Played.{Plans}
use Rattle.vold_cases.proofs.Plans.{fault_planned}
use Rattle.vold_cases.proofs.playing.planned_store.Goals as goal

pub loop-fault-preserved : goal.loop-fault-preserved
loop-fault-preserved c =
    let small : c.fault-item.result.call < 2 ^ 64 = search rules in
    let same : c.from.result ≡ c.fault-item.result.call = search rules in
    record {
      empty = c.plan_in_store.ensures.same ∙ c.loop-fault.invariant.empty;
      planned =
          fault_planned StoreDevice c.args.faults.now c.loop-fault.fault-index c.fault-item.result
          c.loop-fault.store.counts c.plan_in_store.new.store.counts c.loop-fault-test.true c.fault-item.is small
          c.loop-fault.invariant.planned
          (subst (λ call. Plans StoreDevice c.fault-item.result.device call c.loop-fault.store.counts
          c.plan_in_store.new.store.counts) same c.in_ok-plan_in_store.ensures.planned);
    }
