-- Trees in memory through an operation and through a sync.
use Rattle.std.proofs.Common.{◌≡◌, ℕ, ◌<◌, List, [], ◌∷◌, ◌++◌, length, refl}
use Rattle.std.proofs.Common.{sym, ap, ◌∙◌, subst, arith, length-append}
use Rattle.std.specs.Prelude.{Option, Some, None}
use Rattle.tree_model.specs.declared.ops.Op.{Op}
use Rattle.tree_model.specs.declared.ops.Fill.{Fill}
use Rattle.tree_model.specs.Tree.{Tree, after_op, applied}
use Rattle.tree_model.specs.Disk.{image}
use Rattle.tree_memory.specs.Shelf.{Shelf}
use Rattle.tree_memory.specs.Held.{shown, room_of, IsLayered}
use Rattle.tree_model.proofs.Images.{applied-append}
use Rattle.tree_memory.proofs.Trees.{image-none}

-- one more operation, applied to the view
pub layered-more : {stable : Shelf} {view : Option Shelf} {pending : List Op} → IsLayered stable view pending
    → (seen after : Shelf) (op : Op) (pending' : List Op) (capacity : ℕ)
    → view ≡ Some seen → 0 < room_of stable.room view (length pending) capacity → after.tree ≡ after_op seen.tree op
    → pending' ≡ pending ++ op ∷ [] → IsLayered stable (Some after) pending'
layered-more {stable} {view} {pending} layered seen after op pending' capacity is room applies are =
    let enough : 0 < room_of stable.room (Some seen) (length pending) capacity =
    subst (λ v. 0 < room_of stable.room v (length pending) capacity) is room in
    let shows : seen.tree ≡ applied stable.tree pending = ap (shown stable.tree) (sym is) ∙ layered.seen in
    record {
      few = omega (arith, ap length are, length-append pending (op ∷ []), enough);
      seen =
          applies ∙ ap (λ tree. after_op tree op) shows
          ∙ sym (ap (applied stable.tree) are ∙ applied-append stable.tree pending op);
    }

seen-synced : (before after : Tree) (view : Option Shelf) → after ≡ shown before view → shown after view ≡ after
seen-synced before after None is = refl
seen-synced before after (Some shelf) is = sym is

-- all that waited is stable
pub layered-synced : {stable : Shelf} {view : Option Shelf} {pending : List Op} → IsLayered stable view pending
    → (stable' : Shelf) (pending' : List Op) (fills : List Fill)
    → stable'.tree ≡ image stable.tree pending fills → fills ≡ [] → pending' ≡ [] → IsLayered stable' view pending'
layered-synced {stable} {view} {pending} layered stable' pending' fills is no_fills done = record {
  few = omega (arith, ap length done);
  seen =
      seen-synced stable.tree stable'.tree view (is ∙ ap (image stable.tree pending) no_fills
      ∙ image-none stable.tree pending ∙ sym layered.seen) ∙ sym (ap (applied stable'.tree) done);
}
