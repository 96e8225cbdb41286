use Rattle.vold_run.proofs.Keys.{row-more}
use Rattle.vold_run.proofs.output.key_rows.Goals as goal

pub loop-place-preserved : goal.loop-place-preserved
loop-place-preserved g c =
    row-more (g.G.KeyRing.ring c.args.ring.now) c.loop-place.place c.row_at.result c.loop-place.rows.items
    c.push.new.self.items c.row_at.ensures c.loop-place.invariant c.in_ok-push.ensures.items
