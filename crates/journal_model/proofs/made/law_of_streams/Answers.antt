use Rattle.std.proofs.Common.{arith}
use Rattle.journal_model.specs.Made.{stream_number}
use Rattle.journal_model.proofs.made.law_of_streams.Goals as goal

pub returns : goal.returns
unfolding stream_number
returns c user other index next index_fits next_fits same = (omega arith, omega arith)
