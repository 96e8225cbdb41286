use Rattle.std.proofs.Common.{rules}
use Rattle.bench.proofs.bench.Bench.make.Goals as goal

pub returns-in-Delete-clause-made : goal.returns-in-Delete-clause-made
returns-in-Delete-clause-made g c = rw c.in-Delete.is ((c.delete.ensures c.in-Delete.tells).made)

pub returns-in-Delete-clause-counted : goal.returns-in-Delete-clause-counted
returns-in-Delete-clause-counted g c = let made = c.delete.ensures c.in-Delete.tells in search rules

pub returns-in-Delete-clause-seed : goal.returns-in-Delete-clause-seed
returns-in-Delete-clause-seed g c = (c.delete.ensures c.in-Delete.tells).seed

pub returns-in-Delete-clause-dirty : goal.returns-in-Delete-clause-dirty
returns-in-Delete-clause-dirty g c = (c.delete.ensures c.in-Delete.tells).dirty
