-- The text so far and the words of the fills to come are the whole text.
use Rattle.std.proofs.Common.{◌≡◌, ◌++◌, drop}
use Rattle.script_text.specs.Words.{spaced}
use Rattle.script_text.specs.Words.{fill_words}
use Rattle.script_text.proofs.shown.push_fills.Given as goal

abbrev pub invariant-loop-fill : goal.invariant-loop-fill
invariant-loop-fill l =
    l.out.items ++ spaced (fill_words (drop l.fill-index l.fills)) ≡ l.initial.out.items ++ spaced (fill_words l.fills)
