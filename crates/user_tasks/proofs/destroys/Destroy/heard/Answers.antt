use Rattle.std.proofs.Common.{rules, ap, sym, ◌∙◌}
use Rattle.std.specs.Prelude.{slice_get}
use Rattle.std.specs.Cmp.Rules.{comparing}
use Rattle.std.proofs.lemmas.Fn.{filter_same}
use Rattle.user_tasks.specs.Destroy.{after}
use Rattle.user_tasks.proofs.DestroyTurns.{view_of, after-sweep}
use Rattle.user_tasks.proofs.destroys.Destroy.heard.Goals as goal

pub returns-in-Some : goal.returns-in-Some
returns-in-Some c = record {
  after =
      ap (λ items. record (view_of c.self.inside) { slots = items })
      (filter_same _ _ _ (λ x b f' is. search (rules, comparing)) _ _ c.retain.ensures.filtered)
      ∙ after-sweep (view_of c.self.inside) c.in-Some.slot c.in-Sweeping.is
      (ap (λ items. slice_get items 0) (sym c.deref.ensures.value) ∙ sym c.first.ensures.value
      ∙ sym c.copied.ensures ∙ c.in-Some.is)
      ∙ ap after c.self.view_is;
}
