use Rattle.std.proofs.Common.{◌≡◌, sym, ap, ◌∙◌, subst}
use Rattle.key_ring.specs.Kept.{ring_of}
use Rattle.key_ring.specs.Ring.{IsRing, removed}
use Rattle.key_ring.proofs.Rings.{ring-removed}
use Rattle.key_ring.proofs.Rows.{ring-remove}
use Rattle.key_ring.proofs.keys.Keys.remove.Goals as goal

left : (c : goal.After-shift_remove) → ring_of c.shift_remove.new.self.entries
    ≡ removed (ring_of c.self.inside.rows.entries) c.args.user c.args.class
left c = ap ring_of c.shift_remove.ensures.entries
    ∙ ring-remove c.args.user c.is_credential.result c.self.inside.rows.entries
    ∙ ap (removed (ring_of c.self.inside.rows.entries) c.args.user) c.is_credential.ensures

whole : (c : goal.After-shift_remove) → IsRing (ring_of c.shift_remove.new.self.entries)
whole c = subst IsRing (sym (left c)) (ring-removed c.args.user c.args.class _ c.self.invariant)

pub invariant_of-self : goal.invariant_of-self
invariant_of-self c = whole c

pub returns-clause-removed : goal.returns-clause-removed
returns-clause-removed c = left c ∙ ap (λ shelf. removed shelf.ring c.args.user c.args.class) c.self.view_is

pub returns-clause-whole : goal.returns-clause-whole
returns-clause-whole c = whole c
