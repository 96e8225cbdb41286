use Rattle.std.proofs.Common.{◌≡◌, sym, ap, ◌∙◌, subst, arith}
use Rattle.std.specs.FinMap as map
use Rattle.std.specs.List.Sorted.{IsStrictlySortedBy}
use Rattle.tree_model.proofs.Maps.{remove_absent}
use Rattle.sorted_map.specs.Maps.{held}
use Rattle.sorted_map.proofs.Places.{rising, stands-within, aligned-removed}
use Rattle.sorted_map.proofs.Held.{get-held, get-absent, held-removed}
use Rattle.sorted_map.proofs.SortedMap.remove.Goals as goal

pub place-requires : goal.place-requires
place-requires g c = subst (IsStrictlySortedBy g.K.Ord.cmp) (sym c.as_slice.ensures.value) (rising c.self.invariant)

pub remove-requires : goal.remove-requires
remove-requires g c =
    let within = stands-within g.K.Ord.cmp c.args.key _ c.in-Ok.at c.in-Ok.ensures.there in
    omega (arith, within, c.as_slice.ensures.len)

pub invariant_of-self : goal.invariant_of-self
invariant_of-self g c =
    aligned-removed g.met.K.Ord.total c.self.invariant c.as_slice.ensures.value c.args.key c.in-Ok.at
    c.in-Ok.ensures.there _ _ c.remove.ensures.items
    c.remove-in-Ok.ensures.items

pub returns-in-Ok-clause-value : goal.returns-in-Ok-clause-value
returns-in-Ok-clause-value g c =
    sym (get-held g.met.K.Ord.total c.self.invariant c.as_slice.ensures.value c.args.key c.in-Ok.at _
    c.in-Ok.ensures.there c.remove-in-Ok.ensures.value)
    ∙ ap (λ stored. map.get (held g.K.Ord.cmp stored) c.args.key) c.self.view_is

pub returns-in-Ok-clause-held : goal.returns-in-Ok-clause-held
returns-in-Ok-clause-held g c =
    held-removed g.met.K.Ord.total c.self.invariant c.as_slice.ensures.value c.args.key g.met.K.ExactOrd.exact
    c.in-Ok.at c.in-Ok.ensures.there _ _
    c.remove.ensures.items c.remove-in-Ok.ensures.items
    ∙ ap (λ stored. map.remove (held g.K.Ord.cmp stored) c.args.key) c.self.view_is

pub returns-in-Err-clause-value : goal.returns-in-Err-clause-value
returns-in-Err-clause-value g c =
    sym (get-absent g.met.K.Ord.total c.self.invariant c.as_slice.ensures.value c.args.key c.in-Err.field-0
    c.in-Err.ensures.absent)
    ∙ ap (λ stored. map.get (held g.K.Ord.cmp stored) c.args.key) c.self.view_is

pub returns-in-Err-clause-held : goal.returns-in-Err-clause-held
returns-in-Err-clause-held g c =
    let none = get-absent g.met.K.Ord.total c.self.invariant c.as_slice.ensures.value c.args.key c.in-Err.field-0
    c.in-Err.ensures.absent in
    subst (λ stored. held g.K.Ord.cmp stored ≡ map.remove (held g.K.Ord.cmp stored) c.args.key) c.self.view_is
    (sym (remove_absent g.met.K.Ord.total g.met.K.ExactOrd.exact _ c.args.key none))
