use Rattle.keystore_memory.proofs.Rows.{store-none, kept-none}
use Rattle.keystore_memory.proofs.entries.Entries.new.Goals as goal

pub invariant_of-result : goal.invariant_of-result
invariant_of-result c = kept-none _ 1 c.new.ensures

pub returns-clause-store : goal.returns-clause-store
returns-clause-store c = store-none _ 1 c.new.ensures

pub returns-clause-whole : goal.returns-clause-whole
returns-clause-whole c = (kept-none _ 1 c.new.ensures).whole
