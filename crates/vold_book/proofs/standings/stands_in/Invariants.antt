use Rattle.std.proofs.Common.{◌≡◌, take}
use Rattle.vold_book.specs.Stands.{stands_in}
use Rattle.vold_book.proofs.standings.stands_in.Given as goal

abbrev pub invariant-loop-entry : goal.invariant-loop-entry
invariant-loop-entry l = l.standing ≡ stands_in (take l.entry-index l.entries) l.number
