-- What holds of what a Book holds, in numbers that the code can count.
use Rattle.std.proofs.Common.{◌+◌, ◌^◌, ◌<◌, ◌≤◌, length, arith}
use Rattle.std.specs.FinMap as map
use Rattle.tree_model.specs.Disk.{view}
use Rattle.blob_custody.proofs.Left.{view-left}
use Rattle.vold_book.specs.Recovery.{max_commands, max_places}
use Rattle.vold_book.specs.State.{Plain}
use Rattle.vold_book.specs.Whole.{IsSmall}

pub record Bounds (book : Plain) : Type 0 where
  pub given : length book.bench.store.given < 2 ^ 63
  pub entries : length book.bench.store.entries ≤ max_places
  -- the list has places for whatever a look at the keystore may find, and for what a failed command held
  pub room : book.bench.list.next + book.bench.list.promised + length book.bench.store.entries < 2 ^ 63
  pub room_held : book.bench.list.next + book.bench.list.promised + 2 < 2 ^ 63
  -- and for what a user's directories name
  pub room_dropped : book.bench.list.next + book.bench.list.promised + max_places + 1 < 2 ^ 63
  pub places : map.len (view book.bench.disk) ≤ max_places

pub small-bounds : (book : Plain) → IsSmall book → length book.docket.commands ≤ max_commands → Bounds book
small-bounds book small commands =
    let given = small.given in
    let entries = small.entries in
    let listed = small.listed in
    let unpromised = small.unpromised in
    let places = small.trees (view book.bench.disk) (view-left book.bench.disk) in record {
      given = omega (arith, given, commands);
      entries = omega (arith, entries, commands);
      room = omega (arith, listed, unpromised, entries, commands);
      room_held = omega (arith, listed, unpromised, commands);
      room_dropped = omega (arith, listed, unpromised, commands);
      places = omega (arith, places, commands);
    }
