use Rattle.std.proofs.Common.{◌+◌, sym, ap, ◌∙◌, subst, arith}
use Rattle.step_core.specs.Table.{TableState}
use Rattle.bench.proofs.Listing.{IsListedTo, listed-more, room-put}
use Rattle.bench.proofs.follow.list_anew.Goals as goal

pub loop-place-preserved : goal.loop-place-preserved
loop-place-preserved c = record {
  listed = subst (λ (t : TableState). IsListedTo t.places c.args.places.now (c.loop-place.place-index + 1))
      (sym c.put.ensures)
      (listed-more c.loop-place.table.places c.args.places.now c.loop-place.place-index _ c.loop-place-test.true
      c.loop-place.invariant.listed);
  marks = ap (λ (t : TableState). t.marks) c.put.ensures ∙ c.loop-place.invariant.marks;
  dirty = ap (λ (t : TableState). t.dirty) c.put.ensures ∙ c.loop-place.invariant.dirty;
  room = omega (arith, c.loop-place.invariant.room, room-put _ _ _ _ c.put.ensures);
}
