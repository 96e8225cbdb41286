-- The text so far and those of the directories to come are the whole text.
use Rattle.std.proofs.Common.{◌≡◌, ◌++◌, drop}
use Rattle.std.specs.List.{flat_map}
use Rattle.script_text.specs.Tree.{dir_text, tree_section}
use Rattle.script_text.proofs.tree_lines.print_tree.Given as goal

abbrev pub invariant-loop-dir : goal.invariant-loop-dir
invariant-loop-dir l =
    l.out.items ++ flat_map dir_text (drop l.dir-index l.dirs) ≡ tree_section l.fn.first l.dirs l.fn.tries
