use Rattle.std.proofs.Common.{◌≡◌, length, get_or, sym, ap, ◌∙◌, subst, arith}
use Rattle.std.specs.Prelude.{IsSome}
use Rattle.std.specs.FinMap as map
use Rattle.std.specs.List.Sorted.{IsStrictlySortedBy}
use Rattle.sorted_map.specs.Maps.{held}
use Rattle.sorted_map.proofs.Places.{rising, stands-within, aligned-written}
use Rattle.sorted_map.proofs.Held.{get-held, not-there, held-written}
use Rattle.sorted_map.proofs.SortedMap.replace.Goals as goal

pub place-requires : goal.place-requires
place-requires g c = subst (IsStrictlySortedBy g.K.Ord.cmp) (sym c.as_slice.ensures.value) (rising c.self.invariant)

pub index_mut-requires : goal.index_mut-requires
index_mut-requires g c =
    let within = stands-within g.K.Ord.cmp c.args.key _ c.in-Ok.at c.in-Ok.ensures.there in
    omega (arith, within, ap length c.as_slice.ensures.value, c.self.invariant.lengths, c.self.inside.values.ok.0)

pub invariant_of-self : goal.invariant_of-self
invariant_of-self g c =
    aligned-written g.met.K.Ord.total c.self.invariant c.as_slice.ensures.value c.args.key c.in-Ok.at
    c.in-Ok.ensures.there _ _ c.replace.ensures.after

pub unreachable-requires : goal.unreachable-requires
unreachable-requires g c =
    not-there g.met.K.Ord.total c.self.invariant c.as_slice.ensures.value c.args.key c.in-Err.field-0
    c.in-Err.ensures.absent
    (subst (λ stored. IsSome (map.get (held g.K.Ord.cmp stored) c.args.key)) (sym c.self.view_is) c.requires)

pub returns-clause-value : goal.returns-clause-value
returns-clause-value g c =
    let read = subst (λ v. v ≡ get_or c.self.inside.values.items c.in-Ok.at v) (sym c.replace.ensures.value)
    c.index_mut.ensures.value in
    ap (λ stored. map.get (held g.K.Ord.cmp stored) c.args.key) (sym c.self.view_is)
    ∙ get-held g.met.K.Ord.total c.self.invariant c.as_slice.ensures.value c.args.key c.in-Ok.at _
    c.in-Ok.ensures.there read

pub returns-clause-held : goal.returns-clause-held
returns-clause-held g c =
    held-written g.met.K.Ord.total c.self.invariant c.as_slice.ensures.value c.args.key c.in-Ok.at
    c.in-Ok.ensures.there _ _ c.replace.ensures.after
    ∙ ap (λ stored. map.insert (held g.K.Ord.cmp stored) c.args.key c.args.value) c.self.view_is
