use Rattle.std.proofs.Common.{ap, ◌∙◌}
use Rattle.std.specs.Prelude.{length}
use Rattle.journal_model.proofs.Streams.{length-stream_bytes}
use Rattle.user_tasks.proofs.protects.Protect.first.Goals as goal

pub new-requires-clause-discard : goal.new-requires-clause-discard
new-requires-clause-discard c = ap length c.in_ok-spec.ensures.made.discard ∙ length-stream_bytes _ _ _ 4096
