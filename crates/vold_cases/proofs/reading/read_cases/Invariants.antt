-- The text is that of the cases so far, then the rest.
use Rattle.std.proofs.Common.{◌≡◌, ◌++◌, length}
use Rattle.std.specs.Prelude.{All}
use Rattle.std.specs.List.{flat_map}
use Rattle.std.specs.Str.{IsUtf8}
use Rattle.vold_cases.specs.Case.{case_text, IsCase}
use Rattle.vold_cases.proofs.reading.read_cases.Given as goal

abbrev pub invariant-loop-rest : goal.invariant-loop-rest
invariant-loop-rest l = record {
  read : l.fn.text ≡ flat_map case_text l.cases.items ++ l.rest;
  utf8 : IsUtf8 l.rest;
  cases : All IsCase l.cases.items;
}

abbrev pub decreases-loop-rest : goal.decreases-loop-rest
decreases-loop-rest l = length l.rest
