use Rattle.std.proofs.Common.{ap, ◌∙◌, arith}
use Rattle.journal_model.specs.Log.{log_after}
use Rattle.journal_model.proofs.Folds.{log_of-more}
use Rattle.journal_model.proofs.user_map.surviving_changes.Goals as goal

pub loop-entry-preserved : goal.loop-entry-preserved
loop-entry-preserved c =
    log_of-more c.args.entries.now c.loop-entry.entry-index c.entry-item.result c.loop-entry.log.items _
    (omega arith) (c.in_ok-follow.ensures ∙ ap (log_after c.loop-entry.log.items) c.entry-item.is)
    c.loop-entry.invariant
