use Rattle.std.proofs.Common.{ap, ◌∙◌}
use Rattle.std.specs.Prelude.{Some, None, slice_get}
use Rattle.key_ring.specs.Ring.{owners}
use Rattle.key_ring.proofs.Rows.{owner-row}
use Rattle.key_ring.proofs.keys.Keys.at.Goals as goal

pub returns-in-Some : goal.returns-in-Some
returns-in-Some c =
    ap (λ class. Some (c.in-Some.owner.now.0, class)) c.class_of.ensures
    ∙ owner-row c.self.inside.rows.entries c.args.place (Some (c.in-Some.owner.now, c.in-Some.field-0-1.now))
    c.in-Some.ensures.entry
    ∙ ap (λ shelf. slice_get (owners shelf.ring) c.args.place) c.self.view_is

pub returns-in-None : goal.returns-in-None
returns-in-None c = owner-row c.self.inside.rows.entries c.args.place None c.in-None.ensures.entry
    ∙ ap (λ shelf. slice_get (owners shelf.ring) c.args.place) c.self.view_is
