use Rattle.std.proofs.Common.{ap, ◌∙◌}
use Rattle.key_ring.specs.Kept.{ring_of}
use Rattle.key_ring.specs.Ring.{key_of}
use Rattle.key_ring.proofs.Rows.{key-row}
use Rattle.key_ring.proofs.keys.Keys.get.Goals as goal

pub returns : goal.returns
returns c = c.get.ensures.value
    ∙ key-row c.args.user c.is_credential.result c.self.inside.rows.entries
    ∙ ap (λ class. key_of (ring_of c.self.inside.rows.entries) c.args.user class) c.is_credential.ensures
    ∙ ap (λ shelf. key_of shelf.ring c.args.user c.args.class) c.self.view_is
