use Rattle.std.proofs.Common.{◌-◌, arith}
use Rattle.aes_block.proofs.Tables.{power_of_two}
use Rattle.aes_block.proofs.key.round_constant.Goals as goal

pub returns : goal.returns
returns c = power_of_two (c.args.i - 1) (omega arith)
