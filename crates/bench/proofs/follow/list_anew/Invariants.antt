-- So far the table has exactly the places that were put, and room for the others.
use Rattle.std.proofs.Common.{◌≡◌, ◌≤◌, ◌+◌, length}
use Rattle.std.specs.FinSet as set
use Rattle.bench.proofs.Listing.{IsListedTo}
use Rattle.bench.proofs.follow.list_anew.Given as goal

abbrev pub invariant-loop-place : goal.invariant-loop-place
invariant-loop-place l = record {
  listed : IsListedTo l.table.places l.places l.place-index;
  marks : l.table.marks ≡ set.empty;
  dirty : l.table.dirty ≡ l.fn.table.dirty;
  room : length l.places ≤ l.table.room + l.place-index;
}
