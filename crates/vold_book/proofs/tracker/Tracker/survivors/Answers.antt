use Rattle.std.proofs.Common.{arith, ap, sym, subst, ◌∙◌, ◌+◌, ◌^◌, ◌<◌, take}
use Rattle.vold_book.specs.Parts.{count_changes}
use Rattle.vold_book.proofs.Tracked.{count-take}
use Rattle.vold_book.proofs.tracker.Tracker.survivors.Goals as goal

pub overflow_add-result : goal.overflow_add-result
overflow_add-result c =
    let fewer = count-take c.self.inside.pending.items c.min-kept.result in
    let count = c.changes_among.ensures
    ∙ ap (λ pending. count_changes (take c.min-kept.result pending)) c.as_slice-pending.ensures.value in
    let fit = subst (λ tracker. tracker.now.durable + count_changes tracker.now.pending < 2 ^ 64)
    (sym c.self.view_is) c.requires in
    omega (arith, fewer, count, fit)
