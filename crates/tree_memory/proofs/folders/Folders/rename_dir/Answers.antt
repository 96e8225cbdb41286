use Rattle.std.proofs.Common.{sym, ap, ◌∙◌}
use Rattle.std.specs.FinMap as map
use Rattle.tree_memory.proofs.Trees.{renamed_dir-absent}
use Rattle.tree_memory.proofs.folders.Folders.rename_dir.Goals as goal

pub returns-in_default-clause-tree : goal.returns-in_default-clause-tree
returns-in_default-clause-tree c =
    let none = ap (λ shelf. map.get shelf.tree c.args.from) (sym c.self.view_is) ∙ sym c.remove.ensures.value
    ∙ c.in_default.is in
    c.remove.ensures.held ∙ ap (λ shelf. map.remove shelf.tree c.args.from) c.self.view_is
    ∙ renamed_dir-absent c.args.self.now.tree c.args.from c.args.to none
