-- The text is that of the script so far, then the rest.
use Rattle.std.proofs.Common.{◌≡◌, ◌++◌, length}
use Rattle.std.specs.String.{string_bytes}
use Rattle.std.specs.Str.{IsUtf8}
use Rattle.vold_cases.specs.Case.{IsScriptText}
use Rattle.vold_cases.proofs.reading.script_of.Given as goal

abbrev pub invariant-loop-line : goal.invariant-loop-line
invariant-loop-line l = record {
  read : l.fn.text ≡ string_bytes l.script ++ l.rest;
  utf8 : IsUtf8 l.rest;
  script : IsScriptText (string_bytes l.script);
}

abbrev pub decreases-loop-line : goal.decreases-loop-line
decreases-loop-line l = length l.rest
