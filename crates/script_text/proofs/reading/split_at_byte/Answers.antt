use Rattle.script_text.proofs.Splits.{cut_at}
use Rattle.script_text.proofs.reading.split_at_byte.Goals as goal

pub returns-then-b-byte : goal.returns-then-b-byte
returns-then-b-byte c =
    cut_at c.args.byte c.args.bytes.now c.loop-i.i c.loop-i-test.true c.if-b-byte.true c.loop-i.invariant
