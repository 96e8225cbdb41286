use Rattle.std.proofs.Common.{arith}
use Rattle.vold_book.specs.Sweeping.{IsDebris}
use Rattle.vold_book.proofs.Left.{denied, none_in-more, none-left, found-left, found-below}
use Rattle.vold_book.proofs.sweeping.first_debris.Goals as goal

pub returns-then-is_debris : goal.returns-then-is_debris
returns-then-is_debris c =
    let places = c.args.table.now.places in
    let items = c.places-place-items.result.now in
    let i = c.loop-place.place-index in
    let is = c.loop-place.invariant.keys in (
      c.is_debris.ensures.0 c.if-is_debris.true,
      found-left places items is i _ (omega arith),
      found-below places items is i _ (omega arith)
          (IsDebris (c.args.table.now.places)) c.loop-place.invariant.none,
    )

pub loop-place-preserved : goal.loop-place-preserved
loop-place-preserved c = record {
  keys = c.loop-place.invariant.keys;
  none =
      none_in-more (IsDebris (c.args.table.now.places)) c.places-place-items.result.now
      c.loop-place.place-index _ (omega arith)
      c.loop-place.invariant.none (denied _ _ c.is_debris.ensures c.if-is_debris.false);
}

pub returns : goal.returns
returns c = none-left (c.args.table.now.places) c.places-place-items.result.now c.loop-place.invariant.keys
    c.loop-place.place-index (IsDebris (c.args.table.now.places)) (omega arith) c.loop-place.invariant.none
