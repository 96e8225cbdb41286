use Rattle.std.proofs.Common.{sym, ◌∙◌}
use Rattle.tree_memory.proofs.Trees.{renamed_file-absent}
use Rattle.tree_memory.proofs.folders.rename_within.Goals as goal

pub returns-in_default : goal.returns-in_default
returns-in_default c =
    c.take.ensures.rest
    ∙ renamed_file-absent c.args.dir.now c.args.from c.args.to (sym c.take.ensures.taken ∙ c.in_default.is)
