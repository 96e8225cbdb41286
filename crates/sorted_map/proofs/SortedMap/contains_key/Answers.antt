use Rattle.std.proofs.Common.{sym, ap, ◌∙◌, subst}
use Rattle.std.specs.Prelude.{is_some}
use Rattle.std.specs.FinMap as map
use Rattle.std.specs.List.Sorted.{IsStrictlySortedBy}
use Rattle.sorted_map.specs.Maps.{held}
use Rattle.sorted_map.proofs.Places.{rising}
use Rattle.sorted_map.proofs.Held.{is-held}
use Rattle.sorted_map.proofs.SortedMap.contains_key.Goals as goal

pub place-requires : goal.place-requires
place-requires g c = subst (IsStrictlySortedBy g.K.Ord.cmp) (sym c.as_slice.ensures.value) (rising c.self.invariant)

pub returns : goal.returns
returns g c =
    let R = g.K.Ord.cmp in
    let is = c.is_ok.ensures.value
    ∙ is-held g.met.K.Ord.total c.self.invariant c.as_slice.ensures.value c.args.key _
    c.place.ensures.there c.place.ensures.absent
    ∙ ap (λ stored. is_some (map.get (held R stored) c.args.key)) c.self.view_is in
    (λ t. sym is ∙ t, λ t. is ∙ t)
