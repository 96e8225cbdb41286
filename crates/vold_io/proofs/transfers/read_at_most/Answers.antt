use Rattle.std.proofs.Common.{◌+◌, ◌≤◌, ◌++◌, length, take, arith, rules}
use Rattle.vold_io.proofs.Pieces.{prepend-piece, length-with_piece}
use Rattle.vold_io.proofs.transfers.read_at_most.Goals as goal

pub returns-in_err-append-clause-at_most : goal.returns-in_err-append-clause-at_most
returns-in_err-append-clause-at_most g c =
    let piece = take c.in_ok-count.count c.read.new.buf in
    let asked : length c.read.new.buf ≤ c.min-room.result = search rules in
    let room : length c.loop-buffer.bytes.items + length c.read.new.buf ≤ c.args.limit =
    omega (arith, c.loop-buffer.bytes.ok.0) in (
      c.loop-buffer.bytes.items ++ piece,
      length-with_piece _ _ _ _ c.in_ok-count.ensures.bound room,
      prepend-piece _ _ _ _ _ c.loop-buffer.invariant.taken c.in_ok-count.ensures.taken,
    )
