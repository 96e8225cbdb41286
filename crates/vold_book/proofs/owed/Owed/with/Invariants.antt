-- So far there are items of the blobs before this one, and the next number is behind theirs.
use Rattle.std.proofs.Common.{◌≡◌, ◌+◌, ◌++◌, take}
use Rattle.vold_book.specs.Owed.{items_from}
use Rattle.vold_book.proofs.owed.Owed.with.Given as goal

abbrev pub invariant-loop-blob : goal.invariant-loop-blob
invariant-loop-blob l = record {
  items : l.items.items ≡ l.self.items ++ items_from l.next (take l.blob-index l.blobs);
  number : l.number ≡ l.next + l.blob-index;
}
