use Rattle.std.proofs.Common.{rules, ◌≡◌, ◌<◌, ◌^◌, ◌∙◌, subst}
use Rattle.journal_model.specs.declared.entries.Device.TheVariants.{Ring as RingDevice}
use Rattle.vold_cases.specs.Played.{Plans}
use Rattle.vold_cases.proofs.Plans.{fault_planned}
use Rattle.vold_cases.proofs.playing.planned_ring.Goals as goal

pub loop-fault-preserved : goal.loop-fault-preserved
loop-fault-preserved c =
    let small : c.fault-item.result.call < 2 ^ 64 = search rules in
    let same : c.from.result ≡ c.fault-item.result.call = search rules in
    record {
      empty = c.plan_in_ring.ensures.same ∙ c.loop-fault.invariant.empty;
      planned =
          fault_planned RingDevice c.args.faults.now c.loop-fault.fault-index c.fault-item.result
          c.loop-fault.ring.counts c.plan_in_ring.new.ring.counts c.loop-fault-test.true c.fault-item.is small
          c.loop-fault.invariant.planned
          (subst (λ call. Plans RingDevice c.fault-item.result.device call c.loop-fault.ring.counts
          c.plan_in_ring.new.ring.counts) same c.in_ok-plan_in_ring.ensures.planned);
    }
