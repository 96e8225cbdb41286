use Rattle.std.proofs.Common.{◌*◌, ◌%◌, ◌^◌}
use Rattle.seal_model.proofs.Pointwise.{lanes_with}
use Rattle.aes_gcm.proofs.lanes.lowest_on_top.Goals as goal

pub returns : goal.returns
returns c = lanes_with 8 (λ x n. x * 2 ^ n % 2 ^ 64) c.args.a 63 c.fits-a.0
