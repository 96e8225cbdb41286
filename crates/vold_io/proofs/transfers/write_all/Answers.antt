use Rattle.std.proofs.Common.{rules}
use Rattle.vold_io.proofs.Pieces.{append-piece}
use Rattle.vold_io.proofs.transfers.write_all.Goals as goal

pub loop-written-preserved : goal.loop-written-preserved
loop-written-preserved g c = record {
  within = search rules;
  taken = append-piece _ _ _ _ _ _ c.loop-written.invariant.taken c.in_ok-written.ensures.took;
  same = search rules;
  steady = search rules;
  sparing = search rules;
}
