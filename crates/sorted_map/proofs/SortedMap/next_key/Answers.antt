use Rattle.std.proofs.Common.{◌<◌, Some, None, length, refl, sym, ap, ◌∙◌, subst, arith}
use Rattle.std.proofs.lemmas.Option.{slice_get_read, slice_get_past}
use Rattle.std.proofs.lemmas.Slice.Zip.{firsts-zip}
use Rattle.std.specs.List.{find as find_first}
use Rattle.std.specs.List.Sorted.{IsStrictlySortedBy}
use Rattle.sorted_map.specs.Maps.{held, IsNextKey}
use Rattle.sorted_map.specs.Rows.{is_after}
use Rattle.sorted_map.proofs.Places.{rising}
use Rattle.sorted_map.proofs.Next.{next-key}
use Rattle.sorted_map.proofs.SortedMap.next_key.Goals as goal

pub place_after-at-requires : goal.place_after-at-requires
place_after-at-requires g c = record {
  rising = subst (IsStrictlySortedBy g.K.Ord.cmp) (sym c.as_slice-keys.ensures.value) (rising c.self.invariant);
  few = c.as_slice-keys.type_inv.0;
}

pub returns-then-at-keys : goal.returns-then-at-keys
returns-then-at-keys g c =
    let within : c.place_after-at.result < length c.as_slice-keys.result.now = omega arith in
    let read = slice_get_read c.as_slice-keys.result.now _ c.place_after-at.result _ refl within c.index-keys-at.is in
    let keys_are = c.as_slice-keys.ensures.value ∙ sym (firsts-zip _ _ c.self.invariant.lengths) in
    subst (λ stored. IsNextKey (held g.K.Ord.cmp stored) c.args.after (Some c.index-keys-at.result)) c.self.view_is
    (next-key g.met.K.Ord.total g.met.K.ExactOrd.exact _ c.self.invariant.sorted c.args.after _
    (sym read ∙ c.place_after-at.ensures ∙ ap (find_first (is_after g.K.Ord.cmp c.args.after)) keys_are))

pub returns-else-at-keys : goal.returns-else-at-keys
returns-else-at-keys g c =
    let past = slice_get_past c.as_slice-keys.result.now c.place_after-at.result (omega arith) in
    let keys_are = c.as_slice-keys.ensures.value ∙ sym (firsts-zip _ _ c.self.invariant.lengths) in
    subst (λ stored. IsNextKey (held g.K.Ord.cmp stored) c.args.after None) c.self.view_is
    (next-key g.met.K.Ord.total g.met.K.ExactOrd.exact _ c.self.invariant.sorted c.args.after _
    (sym past ∙ c.place_after-at.ensures ∙ ap (find_first (is_after g.K.Ord.cmp c.args.after)) keys_are))
