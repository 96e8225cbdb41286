use Rattle.user_tasks.proofs.LockTurns.{evict-turn, reply-turn, asks-none}
use Rattle.user_tasks.proofs.locks.Lock.next.Goals as goal

pub returns-in-Evicting : goal.returns-in-Evicting
returns-in-Evicting c = record {
  turn = evict-turn c.args.self c.quiet.result c.in-Evicting.is c.quiet.ensures;
  asks = asks-none c.args.self c.quiet.result c.quiet.ensures;
}

pub returns-in-Ended : goal.returns-in-Ended
returns-in-Ended c = record { turn = reply-turn c.args.self c.in-Ended.is; asks = tt }
