use Rattle.std.proofs.Common.{arith}
use Rattle.journal_model.proofs.Streams.{discardable-within}
use Rattle.journal_model.proofs.made.made_discardable.Goals as goal

pub made_bytes-requires : goal.made_bytes-requires
made_bytes-requires c = omega (arith, discardable-within c.args.class)

pub returns : goal.returns
returns c = rw (c.discardable_place-place.ensures) at c.made_bytes.ensures
