use Rattle.std.proofs.Common.{◌≡◌, ◌-◌, ◌≤◌, vec_len}
use Rattle.std.specs.Io.KnownBytes.{prepend_known}
use Rattle.vold_io.proofs.transfers.read_at_most.Given as goal

abbrev pub invariant-loop-buffer : goal.invariant-loop-buffer
invariant-loop-buffer g l = record {
  within : vec_len l.bytes ≤ l.limit;
  taken : g.S.Source.rest l.initial.source ≡ prepend_known l.bytes.items (g.S.Source.rest l.source);
  same : g.S.Source.fault_count l.source ≡ g.S.Source.fault_count l.initial.source;
  steady : g.S.Source.never_fails l.initial.source → g.S.Source.never_fails l.source;
}

abbrev pub decreases-loop-buffer : goal.decreases-loop-buffer
decreases-loop-buffer g l = l.limit - vec_len l.bytes
