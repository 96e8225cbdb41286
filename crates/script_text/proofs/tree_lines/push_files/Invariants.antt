-- The text so far and the lines of the files to come are the whole text.
use Rattle.std.proofs.Common.{◌≡◌, ◌++◌, drop}
use Rattle.std.specs.List.{flat_map}
use Rattle.std.specs.FinMap as map
use Rattle.script_text.specs.Tree.{file_line}
use Rattle.script_text.proofs.tree_lines.push_files.Given as goal

abbrev pub invariant-loop-name : goal.invariant-loop-name
invariant-loop-name l =
    l.out.items ++ flat_map file_line (drop l.name-index (map.entries l.dir))
    ≡ l.initial.out.items ++ flat_map file_line (map.entries l.dir)
