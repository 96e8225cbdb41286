use Rattle.std.proofs.Common.{rules, ap, ◌∙◌}
use Rattle.std.specs.Cmp.Rules.{comparing}
use Rattle.std.proofs.lemmas.Fn.{filter_same}
use Rattle.fixate_task.specs.Task.{Fixing, first}
use Rattle.fixate_task.proofs.task.FixateTask.keep.Goals as goal

pub returns : goal.returns
returns c =
    ap (λ items. record { kept = c.args.kept; others = items })
    (filter_same _ _ _ (λ x b f' is. search (rules, comparing)) _ _ c.retain.ensures.filtered)
    ∙ ap (λ (task : Fixing). first task.others c.args.kept) c.self.view_is
