use Rattle.std.proofs.Common.{◌≡◌, ◌-◌, ◌≤◌, length, take}
use Rattle.std.specs.Io.KnownBytes.{append_known}
use Rattle.vold_io.proofs.transfers.write_all.Given as goal

abbrev pub invariant-loop-written : goal.invariant-loop-written
invariant-loop-written g l = record {
  within : l.written ≤ length l.bytes;
  taken : g.K.Sink.taken l.sink ≡ append_known (g.K.Sink.taken l.initial.sink) (take l.written l.bytes);
  same : g.K.Sink.fault_count l.sink ≡ g.K.Sink.fault_count l.initial.sink;
  steady : g.K.Sink.never_fails l.initial.sink → g.K.Sink.never_fails l.sink;
  sparing : g.K.Sink.wants_no_memory l.initial.sink → g.K.Sink.wants_no_memory l.sink;
}

abbrev pub decreases-loop-written : goal.decreases-loop-written
decreases-loop-written g l = length l.bytes - l.written
