use Rattle.std.proofs.Common.{◌/◌, ◌^◌}
use Rattle.seal_model.proofs.Pointwise.{lanes_with}
use Rattle.aes_gcm.proofs.lanes.halved.Goals as goal

pub returns : goal.returns
returns c = lanes_with 8 (λ x n. x / 2 ^ n) c.args.a 1 c.fits-a.0
