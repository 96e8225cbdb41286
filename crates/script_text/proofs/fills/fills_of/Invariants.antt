-- The words are those of the fills so far, then the rest.
use Rattle.std.proofs.Common.{◌≡◌, ◌++◌, length}
use Rattle.std.specs.Prelude.{option_copied}
use Rattle.script_text.specs.Words.{fill_words}
use Rattle.script_text.specs.Arguments.{AreFills}
use Rattle.script_text.specs.Reading.{words_after}
use Rattle.script_text.proofs.fills.fills_of.Given as goal

abbrev pub invariant-loop-rest : goal.invariant-loop-rest
invariant-loop-rest l =
    record {
      few : AreFills l.fills.items;
      read : words_after (option_copied l.fn.words)
          ≡ fill_words l.fills.items ++ words_after (option_copied l.rest);
    }

abbrev pub decreases-loop-rest : goal.decreases-loop-rest
decreases-loop-rest l = length (words_after (option_copied l.rest))
