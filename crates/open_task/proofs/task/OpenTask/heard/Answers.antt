use Rattle.std.proofs.Common.{refl, sym, ap, ◌∙◌, subst, drop}
use Rattle.open_task.specs.Task.{Opening, IsAnswer, after, stage_after}
use Rattle.open_task.proofs.Slots.{heard-after, heard-well}
use Rattle.open_task.proofs.task.OpenTask.heard.Goals as goal

abbrev before : goal.Joined-self-stage → Opening
before c = record {
  user = c.self.inside.user;
  secret = c.self.inside.secret;
  job = c.self.inside.job;
  left = drop c.self.inside.at c.self.inside.slots.items;
  stage = c.self.inside.stage;
}

pub invariant_of-self : goal.invariant_of-self
invariant_of-self c =
    heard-well (before c) c.self.inside.slots.items c.self.inside.at c.skips.result c.after-stage.result c.args.answer
    refl
    (c.after-stage.ensures ∙ ap (λ stage. stage_after stage c.args.answer) c.replace.ensures.value) c.skips.ensures
    c.self.invariant (subst (λ task. IsAnswer task c.args.answer) (sym c.self.view_is) c.requires.hears)

pub returns : goal.returns
returns c = record {
  after =
      heard-after (before c) c.self.inside.slots.items c.self.inside.at c.skips.result c.after-stage.result
      c.args.answer refl
      (c.after-stage.ensures ∙ ap (λ stage. stage_after stage c.args.answer) c.replace.ensures.value) c.skips.ensures
      ∙ ap (λ task. after task c.args.answer) c.self.view_is;
}
