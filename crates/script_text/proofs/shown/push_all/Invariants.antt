-- The text so far and the words of what is to come are the whole text.
use Rattle.std.proofs.Common.{◌≡◌, ◌++◌, drop}
use Rattle.script_text.specs.Words.{spaced}
use Rattle.script_text.specs.Shown.{all_words}
use Rattle.script_text.proofs.shown.push_all.Given as goal

abbrev pub invariant-loop-shown : goal.invariant-loop-shown
invariant-loop-shown l =
    l.out.items ++ spaced (all_words (drop l.shown-index l.all)) ≡ l.initial.out.items ++ spaced (all_words l.all)
