use Rattle.std.proofs.Common.{arith}
use Rattle.vold_book.proofs.Tracked.{count-more}
use Rattle.vold_book.proofs.tracker.changes_among.Goals as goal
use Rattle.vold_book.proofs.tracker.changes_among.Goals.{then-change, else-change}

pub loop-change-preserved : goal.loop-change-preserved
loop-change-preserved c =
    let more = count-more c.args.pending.now c.loop-change.change-index (omega arith) in
    let was = c.loop-change.invariant.count in
    let bound = c.loop-change.invariant.bound in
    elim c.if-change.branch [
      | then-change w ↦ let now = rw w.if-change.true at more in
          record { count = omega (arith, now, was, w.count-is); bound = omega (arith, bound, w.count-is) }
      | else-change w ↦ let now = rw w.if-change.false at more in
          record { count = omega (arith, now, was, w.count-is); bound = omega (arith, bound, w.count-is) }
    ]
