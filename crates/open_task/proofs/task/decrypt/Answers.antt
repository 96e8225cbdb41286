use Rattle.open_task.proofs.ShownTurns.{fitting-named}
use Rattle.open_task.proofs.task.decrypt.Goals as goal

pub unreachable-requires : goal.unreachable-requires
unreachable-requires c = let named = fitting-named c.args.dir.now c.requires.bound in cc
