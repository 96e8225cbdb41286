use Rattle.std.proofs.Common.{sym}
use Rattle.std.specs.FinMap as map
use Rattle.tree_model.specs.Order.{place_total, place_exact}
use Rattle.tree_model.specs.Tree.{renamed_file}
use Rattle.sorted_map.proofs.Maps.{there-insert}
use Rattle.tree_memory.proofs.Trees.{changed-back}
use Rattle.tree_memory.proofs.folders.Folders.rename_file.Goals as goal

pub put_dir-requires : goal.put_dir-requires
put_dir-requires c =
    there-insert place_total place_exact c.args.self.now.tree _ c.args.place map.empty c.in-Some.ensures.left

pub returns-in-Some-clause-tree : goal.returns-in-Some-clause-tree
returns-in-Some-clause-tree c =
    changed-back c.args.self.now.tree _ _ c.args.place c.in-Some.dir _
    (λ files. renamed_file files c.args.from c.args.to)
    (sym c.in-Some.ensures.taken) c.in-Some.ensures.left c.rename_within.ensures c.put_dir.ensures.tree
