use Rattle.std.proofs.Common.{◌≡◌, ◌≤◌, length, take}
use Rattle.std.specs.List.{flat_map}
use Rattle.std.specs.FinMap as map
use Rattle.docket.specs.Docket.{docket_of}
use Rattle.journal_model.specs.Actor.{actor_cmp}
use Rattle.vold_book.specs.Crowds.{coming_of}
use Rattle.vold_book.proofs.crowds.users_coming.Given as goal

abbrev pub invariant-loop-it : goal.invariant-loop-it
invariant-loop-it l = record {
  works : l.it-items ≡ map.values (docket_of actor_cmp l.docket).running;
  count : l.count ≡ length (flat_map (coming_of (l.table.places) (docket_of actor_cmp l.docket).commands)
      (take l.it-index l.it-items));
  bound : l.count ≤ l.it-index;
}
