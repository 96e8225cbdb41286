use Rattle.std.proofs.Common.{refl, sym, ap, ◌∙◌}
use Rattle.std.specs.Prelude.{is_some}
use Rattle.std.specs.FinMap as map
use Rattle.std.specs.FinSet as set
use Rattle.std.proofs.lemmas.Bool.{false≢true}
use Rattle.tree_model.specs.declared.places.Place.TheVariants.{De}
use Rattle.step_core.specs.Table.{TableState}
use Rattle.step_core.proofs.Tables.{there-table, table-marked}
use Rattle.step_core.proofs.table.Table.mark.Goals as goal

pub unreachable-requires : goal.unreachable-requires
unreachable-requires c =
    let none = sym c.in-None.is ∙ c.copied.ensures ∙ c.get.ensures in
    false≢true (ap is_some none ∙ sym (there-table _ (De c.args.user))
    ∙ ap (λ (table : TableState). is_some (map.get table.places (De c.args.user))) c.self.view_is ∙ c.requires.there)

pub returns : goal.returns
returns c =
    table-marked c.self.inside.dirty c.self.inside.room _ _ c.args.user c.in-Some.field-0 _
    (sym c.get.ensures ∙ sym c.copied.ensures ∙ c.in-Some.is) refl refl c.replace.ensures.held
    ∙ ap (λ (table : TableState). record table { marks = set.insert table.marks c.args.user }) c.self.view_is
