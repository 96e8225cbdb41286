-- The words are those so far, then those of the rest.
use Rattle.std.proofs.Common.{◌≡◌, ◌++◌, length, map}
use Rattle.std.specs.Prelude.{option_copied}
use Rattle.std.specs.String.{string_bytes}
use Rattle.script_text.specs.Reading.{words_after}
use Rattle.vold_cases.proofs.reading.words_of.Given as goal

abbrev pub invariant-loop-rest : goal.invariant-loop-rest
invariant-loop-rest l = map string_bytes l.read.items ++ words_after (option_copied l.rest) ≡ words_after
    (option_copied l.fn.words)

abbrev pub decreases-loop-rest : goal.decreases-loop-rest
decreases-loop-rest l = length (words_after (option_copied l.rest))
