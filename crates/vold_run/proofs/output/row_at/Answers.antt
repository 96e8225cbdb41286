use Rattle.std.proofs.Common.{sym, ap, ◌∙◌}
use Rattle.std.specs.Prelude.{Some, option_copied}
use Rattle.vold_run.proofs.Keys.{key-there, row-there}
use Rattle.vold_run.proofs.output.row_at.Goals as goal

pub unreachable-requires-in_default-get : goal.unreachable-requires-in_default-get
unreachable-requires-in_default-get g c =
    let ring = c.args.ring.now in
    key-there (g.G.KeyRing.ring ring) c.args.place c.requires (g.met.G.KeyRing.whole ring)
    (c.in-Some.user, c.in-Some.class) (sym c.at.ensures.owner ∙ c.in-Some.is)
    (sym c.get.ensures.key ∙ ap option_copied c.in_default-get.is)

pub returns : goal.returns
returns g c =
    let ring = c.args.ring.now in
    row-there (g.G.KeyRing.ring ring) c.args.place c.requires (g.met.G.KeyRing.whole ring)
    (c.in-Some.user, c.in-Some.class) (sym c.at.ensures.owner ∙ c.in-Some.is) c.in-Some-get.key.now
    (sym c.get.ensures.key ∙ ap option_copied c.in-Some-get.is)
    ∙ ap (λ reference. Some (record { user = c.in-Some.user; class = c.in-Some.class; reference = reference }))
    (sym c.key_ref.ensures)
