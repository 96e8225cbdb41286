use Rattle.std.proofs.Common.{length, sym, ap, ◌∙◌, subst, arith}
use Rattle.std.specs.FinMap as map
use Rattle.std.specs.List.Sorted.{IsStrictlySortedBy}
use Rattle.sorted_map.specs.Maps.{held}
use Rattle.sorted_map.proofs.Places.{rising, stands-within}
use Rattle.sorted_map.proofs.Held.{get-held, get-absent}
use Rattle.sorted_map.proofs.SortedMap.get.Goals as goal

pub place-requires : goal.place-requires
place-requires g c = subst (IsStrictlySortedBy g.K.Ord.cmp) (sym c.as_slice.ensures.value) (rising c.self.invariant)

pub index-requires : goal.index-requires
index-requires g c =
    let within = stands-within g.K.Ord.cmp c.args.key _ c.in-Ok.at c.in-Ok.ensures.there in
    omega (arith, within, ap length c.as_slice.ensures.value, c.self.invariant.lengths, c.self.inside.values.ok.0)

pub returns-in-Ok : goal.returns-in-Ok
returns-in-Ok g c =
    sym (get-held g.met.K.Ord.total c.self.invariant c.as_slice.ensures.value c.args.key c.in-Ok.at _
    c.in-Ok.ensures.there c.index.ensures)
    ∙ ap (λ stored. map.get (held g.K.Ord.cmp stored) c.args.key) c.self.view_is

pub returns-in-Err : goal.returns-in-Err
returns-in-Err g c =
    sym (get-absent g.met.K.Ord.total c.self.invariant c.as_slice.ensures.value c.args.key c.in-Err.field-0
    c.in-Err.ensures.absent)
    ∙ ap (λ stored. map.get (held g.K.Ord.cmp stored) c.args.key) c.self.view_is
