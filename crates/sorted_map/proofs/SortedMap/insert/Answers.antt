use Rattle.std.proofs.Common.{◌≡◌, length, get_or, sym, ap, ◌∙◌, subst, arith}
use Rattle.std.specs.Prelude.{IsSome}
use Rattle.std.specs.List.{insert}
use Rattle.std.specs.FinMap as map
use Rattle.std.specs.List.Sorted.{IsStrictlySortedBy}
use Rattle.sorted_map.specs.Maps.{held}
use Rattle.sorted_map.proofs.Places.{rising, stands-within, belongs-within, aligned-written, aligned-inserted}
use Rattle.sorted_map.proofs.Held.{get-held, get-absent, not-there, held-written, held-inserted}
use Rattle.sorted_map.proofs.SortedMap.insert.Goals as goal

pub place-requires : goal.place-requires
place-requires g c = subst (IsStrictlySortedBy g.K.Ord.cmp) (sym c.as_slice.ensures.value) (rising c.self.invariant)

pub index_mut-requires : goal.index_mut-requires
index_mut-requires g c =
    let within = stands-within g.K.Ord.cmp c.args.key _ c.in-Ok.at c.in-Ok.ensures.there in
    omega (arith, within, ap length c.as_slice.ensures.value, c.self.invariant.lengths, c.self.inside.values.ok.0)

pub invariant_of-self : goal.invariant_of-self
invariant_of-self g c =
    aligned-written g.met.K.Ord.total c.self.invariant c.as_slice.ensures.value c.args.key c.in-Ok.at
    c.in-Ok.ensures.there _ _ c.replace.ensures.after

pub returns-in-Ok-clause-held : goal.returns-in-Ok-clause-held
returns-in-Ok-clause-held g c =
    held-written g.met.K.Ord.total c.self.invariant c.as_slice.ensures.value c.args.key c.in-Ok.at
    c.in-Ok.ensures.there _ _ c.replace.ensures.after
    ∙ ap (λ stored. map.insert (held g.K.Ord.cmp stored) c.args.key c.args.value) c.self.view_is

pub returns-in-Ok-clause-before : goal.returns-in-Ok-clause-before
returns-in-Ok-clause-before g c =
    let read = subst (λ v. v ≡ get_or c.self.inside.values.items c.in-Ok.at v) (sym c.replace.ensures.value)
    c.index_mut.ensures.value in
    sym (get-held g.met.K.Ord.total c.self.invariant c.as_slice.ensures.value c.args.key c.in-Ok.at _
    c.in-Ok.ensures.there read)
    ∙ ap (λ stored. map.get (held g.K.Ord.cmp stored) c.args.key) c.self.view_is

pub returns-in_err-reserve-in-Err-clause-there : goal.returns-in_err-reserve-in-Err-clause-there
returns-in_err-reserve-in-Err-clause-there g c there =
    absurd (not-there g.met.K.Ord.total c.self.invariant c.as_slice.ensures.value c.args.key c.in-Err.at
    c.in-Err.ensures.absent
    (subst (λ stored. IsSome (map.get (held g.K.Ord.cmp stored) c.args.key)) (sym c.self.view_is) there))

pub returns-in_err-reserve-in-Err-2-clause-there : goal.returns-in_err-reserve-in-Err-2-clause-there
returns-in_err-reserve-in-Err-2-clause-there g c there =
    absurd (not-there g.met.K.Ord.total c.self.invariant c.as_slice.ensures.value c.args.key c.in-Err.at
    c.in-Err.ensures.absent
    (subst (λ stored. IsSome (map.get (held g.K.Ord.cmp stored) c.args.key)) (sym c.self.view_is) there))

pub insert-requires : goal.insert-requires
insert-requires g c =
    let within = belongs-within g.K.Ord.cmp c.args.key _ c.in-Err.at c.in-Err.ensures.absent in
    omega (arith, within, c.as_slice.ensures.len, c.in_ok-reserve-in-Err.ensures.len)

pub insert-requires-in-Err : goal.insert-requires-in-Err
insert-requires-in-Err g c =
    let within = belongs-within g.K.Ord.cmp c.args.key _ c.in-Err.at c.in-Err.ensures.absent in
    let long = ap length c.as_slice.ensures.value in
    omega (
      arith,
      within,
      long,
      c.self.invariant.lengths,
      c.self.inside.values.ok.0,
      c.in_ok-reserve-in-Err-2.ensures.len,
    )

pub invariant_of-self-in-Err : goal.invariant_of-self-in-Err
invariant_of-self-in-Err g c =
    aligned-inserted g.met.K.Ord.total c.self.invariant c.as_slice.ensures.value c.args.key c.in-Err.at
    c.in-Err.ensures.absent c.args.value _ _
    (rw c.unwrap.ensures at c.insert.ensures.items
    ∙ ap (λ ks. insert ks c.in-Err.at c.args.key) c.in_ok-reserve-in-Err.ensures.items)
    (rw c.unwrap-in-Err.ensures at c.insert-in-Err.ensures.items
    ∙ ap (λ vs. insert vs c.in-Err.at c.args.value) c.in_ok-reserve-in-Err-2.ensures.items)

pub returns-in_ok-reserve-in-Err-2-clause-held : goal.returns-in_ok-reserve-in-Err-2-clause-held
returns-in_ok-reserve-in-Err-2-clause-held g c =
    held-inserted g.met.K.Ord.total c.self.invariant c.as_slice.ensures.value c.args.key c.in-Err.at
    c.in-Err.ensures.absent c.args.value _ _
    (rw c.unwrap.ensures at c.insert.ensures.items
    ∙ ap (λ ks. insert ks c.in-Err.at c.args.key) c.in_ok-reserve-in-Err.ensures.items)
    (rw c.unwrap-in-Err.ensures at c.insert-in-Err.ensures.items
    ∙ ap (λ vs. insert vs c.in-Err.at c.args.value) c.in_ok-reserve-in-Err-2.ensures.items)
    ∙ ap (λ stored. map.insert (held g.K.Ord.cmp stored) c.args.key c.args.value) c.self.view_is

pub returns-in_ok-reserve-in-Err-2-clause-before : goal.returns-in_ok-reserve-in-Err-2-clause-before
returns-in_ok-reserve-in-Err-2-clause-before g c =
    sym (get-absent g.met.K.Ord.total c.self.invariant c.as_slice.ensures.value c.args.key c.in-Err.at
    c.in-Err.ensures.absent) ∙ ap (λ stored. map.get (held g.K.Ord.cmp stored) c.args.key) c.self.view_is

pub returns-in_ok-reserve-in-Err-2-clause-kept : goal.returns-in_ok-reserve-in-Err-2-clause-kept
returns-in_ok-reserve-in-Err-2-clause-kept g c there =
    absurd (not-there g.met.K.Ord.total c.self.invariant c.as_slice.ensures.value c.args.key c.in-Err.at
    c.in-Err.ensures.absent
    (subst (λ stored. IsSome (map.get (held g.K.Ord.cmp stored) c.args.key)) (sym c.self.view_is) there))
