use Rattle.journal_model.specs.Hashes.{padded_prefix, prefixed_hash}
use Rattle.journal_model.proofs.hashes.prefixed_hash.Goals as goal

pub returns : goal.returns
unfolding prefixed_hash
returns c = c.finalize.ensures _ (c.update.ensures (padded_prefix c.args.prefix.now) c.after_prefix-hasher.ensures)
