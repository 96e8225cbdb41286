-- The text so far and the lines of the entries to come are the whole text.
use Rattle.std.proofs.Common.{◌≡◌, ◌++◌, drop}
use Rattle.std.specs.List.{flat_map}
use Rattle.script_text.specs.Journal.{entry_line, journal_text}
use Rattle.script_text.proofs.journal_lines.print_journal.Given as goal

abbrev pub invariant-loop-entry : goal.invariant-loop-entry
invariant-loop-entry l = l.out.items ++ flat_map entry_line (drop l.entry-index l.entries) ≡ journal_text l.entries
