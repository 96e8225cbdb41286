use Rattle.std.proofs.Common.{rules, ap, sym, ◌∙◌}
use Rattle.std.specs.Prelude.{slice_get}
use Rattle.std.specs.Cmp.Rules.{comparing}
use Rattle.std.proofs.lemmas.Fn.{filter_same}
use Rattle.fixate_task.specs.Task.{after}
use Rattle.fixate_task.proofs.Without.{after-drop}
use Rattle.fixate_task.proofs.task.FixateTask.heard.Goals as goal

pub returns-in-Some : goal.returns-in-Some
returns-in-Some c = record {
  after =
      ap (λ items. record { kept = c.self.inside.kept; others = items })
      (filter_same _ _ _ (λ x b f' is. search (rules, comparing)) _ _ c.retain.ensures.filtered)
      ∙ after-drop c.self.inside.kept c.in-Some.slot c.self.inside.others.items
      (ap (λ items. slice_get items 0) (sym c.deref.ensures.value) ∙ sym c.first.ensures.value
      ∙ sym c.copied.ensures ∙ c.in-Some.is)
      ∙ ap after c.self.view_is;
}
