use Rattle.std.proofs.Common.{refl, sym, ◌∙◌}
use Rattle.step_core.proofs.Marks.{unmarks-insert}
use Rattle.step_core.proofs.table.unmark.Goals as goal

pub returns-clause-unmarked : goal.returns-clause-unmarked
returns-clause-unmarked c = unmarks-insert _ _ c.args.place c.in-Some.field-0 _
    (sym c.get.ensures ∙ sym c.copied.ensures ∙ c.in-Some.is) refl refl c.replace.ensures.held
