use Rattle.std.proofs.Common.{◌+◌, ◌%◌, ◌^◌}
use Rattle.seal_model.proofs.Pointwise.{lanes_of}
use Rattle.aes_block.proofs.lanes.added.Goals as goal

pub returns : goal.returns
returns c = lanes_of 16 (λ x y. (x + y) % 2 ^ 8) c.args.a c.args.b c.fits-a.0 c.fits-b.0
