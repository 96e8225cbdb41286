use Rattle.std.proofs.Common.{refl, sym, ap, ◌∙◌, arith}
use Rattle.step_core.specs.Table.{TableState, with_place}
use Rattle.step_core.proofs.Tables.{room-table, table-replaced, table-inserted}
use Rattle.step_core.proofs.table.Table.put.Goals as goal

pub unwrap-requires : goal.unwrap-requires
unwrap-requires c =
    let none = sym c.get.ensures ∙ sym c.copied.ensures ∙ c.in-None.is in
    let free = room-table _ c.args.place c.self.inside.dirty c.self.inside.room _ c.self.view_is
    none c.requires.room in
    c.insert.ensures.succeeds (omega (arith, free, c.self.invariant))

pub overflow_sub-self : goal.overflow_sub-self
overflow_sub-self c =
    let none = sym c.get.ensures ∙ sym c.copied.ensures ∙ c.in-None.is in
    room-table _ c.args.place c.self.inside.dirty c.self.inside.room _ c.self.view_is none c.requires.room

pub returns-in-Some : goal.returns-in-Some
returns-in-Some c =
    table-replaced c.self.inside.dirty c.self.inside.room _ _ c.args.place c.in-Some.field-0 _
    (sym c.get.ensures ∙ sym c.copied.ensures ∙ c.in-Some.is) c.replace.ensures.held refl
    ∙ ap (λ (table : TableState). with_place table c.args.place c.args.named) c.self.view_is

pub returns-in-None : goal.returns-in-None
returns-in-None c =
    table-inserted c.self.inside.dirty c.self.inside.room _ _ c.args.place _
    (sym c.get.ensures ∙ sym c.copied.ensures ∙ c.in-None.is) (rw c.unwrap.ensures at c.insert.ensures.held) refl
    ∙ ap (λ (table : TableState). with_place table c.args.place c.args.named) c.self.view_is
