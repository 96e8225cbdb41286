use Rattle.std.proofs.Common.{ap, ◌∙◌, arith}
use Rattle.std.proofs.lemmas.List.{take_all}
use Rattle.journal_model.specs.Users.{after_change, fold_changes}
use Rattle.journal_model.specs.Machine.{log_of}
use Rattle.journal_model.proofs.Folds.{fold_changes-more}
use Rattle.journal_model.proofs.user_map.fold.Goals as goal

pub loop-change-preserved : goal.loop-change-preserved
loop-change-preserved c =
    fold_changes-more c.deref-change-items.result.now c.loop-change.change-index c.change-item.result
    c.loop-change.users _ (omega arith)
    (c.in_ok-apply.ensures ∙ ap (after_change c.loop-change.users) c.change-item.is) c.loop-change.invariant

pub returns : goal.returns
returns c =
    c.loop-change.invariant
    ∙ ap fold_changes (take_all c.loop-change.change-index c.deref-change-items.result.now c.loop-change-test.false
    ∙ c.deref-change-items.ensures.value ∙ c.in_ok-log.ensures ∙ ap log_of c.as_slice.ensures)
