use Rattle.std.proofs.Common.{◌≡◌, sym, ap, ◌∙◌, subst}
use Rattle.key_ring.specs.Kept.{ring_of}
use Rattle.key_ring.specs.Ring.{IsRing, installed}
use Rattle.key_ring.proofs.Rings.{ring-added}
use Rattle.key_ring.proofs.Rows.{ring-insert}
use Rattle.key_ring.proofs.keys.Keys.add.Goals as goal

more : (c : goal.After-unwrap) → ring_of c.insert.new.self.entries
    ≡ installed (ring_of c.self.inside.rows.entries) c.args.user c.args.class c.args.key.now
more c = ap ring_of (rw c.unwrap.ensures at c.insert.ensures.entries)
    ∙ ring-insert c.args.user c.is_credential.result c.self.inside.rows.entries c.args.key.now
    ∙ ap (λ class. installed (ring_of c.self.inside.rows.entries) c.args.user class c.args.key.now)
    c.is_credential.ensures

whole : (c : goal.After-unwrap) → IsRing (ring_of c.insert.new.self.entries)
whole c = subst IsRing (sym (more c)) (ring-added c.args.user c.args.class c.args.key.now _ c.self.invariant)

pub invariant_of-self : goal.invariant_of-self
invariant_of-self c = whole c

pub returns-clause-added : goal.returns-clause-added
returns-clause-added c =
    more c ∙ ap (λ shelf. installed shelf.ring c.args.user c.args.class c.args.key.now) c.self.view_is

pub returns-clause-whole : goal.returns-clause-whole
returns-clause-whole c = whole c
