-- An operation changes no place that it doesn't touch, so no other user's part of a tree.
use Rattle.std.proofs.Common.{◌≡◌, ◌≢◌, inl, inr, ℕ, refl, sym, ap, ◌∙◌}
use Rattle.std.specs.Prelude.{Option, Some, None, List}
use Rattle.std.specs.FinMap as map
use Rattle.tree_model.specs.declared.files.FileName.{FileName}
use Rattle.tree_model.specs.declared.places.Place.{Place}
use Rattle.tree_model.specs.declared.ops.Op.{Op}
use Rattle.tree_model.specs.declared.ops.Op.TheVariants.{MakeDir, Write, RenameFile, RenameDir, RemoveFile, RemoveDir}
use Rattle.tree_model.specs.declared.ops.Fill.{Fill}
use Rattle.tree_model.specs.declared.ops.Fill.TheVariants.{Same, Bytes}
use Rattle.tree_model.specs.Order.{place_total, place_exact}
use Rattle.tree_model.specs.Dir.{Files}
use Rattle.tree_model.specs.Tree.{Tree, if_there, at_dir, renamed_dir, renamed_file, after_op}
use Rattle.tree_model.specs.Disk.{filled}
use Rattle.tree_model.specs.Touch.{Touches, IsOf, PartIs, SameFor}
use Rattle.tree_model.proofs.Maps.{get-insert_same, get-insert_other, get-remove_same, get-remove_other}

get-at_dir_other : (tree : Tree) (place : Place) (change : Files → Files) (at : Place) → at ≢ place
    → map.get (at_dir tree place change) at ≡ map.get tree at
get-at_dir_other tree place change at differ =
    elim (map.get tree place) as (λ found.
    map.get (if_there found tree (λ files. map.insert tree place (change files))) at ≡ map.get tree at) [
      | None ↦ refl
      | Some files ↦ get-insert_other place_total place_exact tree place (change files) at differ
    ]

get-renamed_other : (tree : Tree) (from to : Place) (at : Place) → at ≢ from → at ≢ to
    → map.get (renamed_dir tree from to) at ≡ map.get tree at
get-renamed_other tree from to at not_from not_to =
    elim (map.get tree from) as (λ found.
    map.get (if_there found tree (λ files. map.insert (map.remove tree from) to files)) at ≡ map.get tree at) [
      | None ↦ refl
      | Some files ↦ get-insert_other place_total place_exact (map.remove tree from) to files at not_to
          ∙ get-remove_other place_total place_exact tree from at not_from
    ]

-- what the operation doesn't touch stays
pub get-after_other : (tree : Tree) (op : Op) (at : Place) → ¬ (Touches op at)
    → map.get (after_op tree op) at ≡ map.get tree at
get-after_other tree (MakeDir place) at apart = get-insert_other place_total place_exact tree place map.empty at apart
get-after_other tree (Write place file bytes) at apart =
    get-at_dir_other tree place (λ files. map.insert files file bytes) at apart
get-after_other tree (RenameFile place from to) at apart =
    get-at_dir_other tree place (λ files. renamed_file files from to) at apart
get-after_other tree (RenameDir from to) at apart =
    get-renamed_other tree from to at (λ e. apart (inl e)) (λ e. apart (inr e))
get-after_other tree (RemoveFile place file) at apart =
    get-at_dir_other tree place (λ files. map.remove files file) at apart
get-after_other tree (RemoveDir place) at apart = get-remove_other place_total place_exact tree place at apart

-- a fill changes no place that an operation touches
pub touches-filled : (fill : Fill) (op : Op) (at : Place) → Touches (filled fill op) at → Touches op at
touches-filled Same op at touches = touches
touches-filled (Bytes other) (MakeDir place) at touches = touches
touches-filled (Bytes other) (Write place file bytes) at touches = touches
touches-filled (Bytes other) (RenameFile place from to) at touches = touches
touches-filled (Bytes other) (RenameDir from to) at touches = touches
touches-filled (Bytes other) (RemoveFile place file) at touches = touches
touches-filled (Bytes other) (RemoveDir place) at touches = touches

pub of_user-filled : (user : ℕ) (fill : Fill) (op : Op) → IsOf user op → IsOf user (filled fill op)
of_user-filled user fill op own =
    record { own = λ place touches. own.own place (touches-filled fill op place touches) }

-- an operation of one user keeps the part of each other
pub same-other : (user other : ℕ) (tree : Tree) (op : Op) → IsOf user op → other ≢ user
    → SameFor other tree (after_op tree op)
same-other user other tree op own differ =
    record {
      same = λ place of_other. get-after_other tree op place
          (λ touches. differ (sym of_other ∙ own.own place touches));
    }

-- and so do facts on that part
pub part-same : (user : ℕ) (before after : Tree) (part : Place → Option Files) → SameFor user before after
    → PartIs before user part → PartIs after user part
part-same user before after part same holds =
    record { holds = λ place of_user. same.same place of_user ∙ holds.holds place of_user }

pub get-make_dir : (tree : Tree) (place : Place) → map.get (after_op tree (MakeDir place)) place ≡ Some map.empty
get-make_dir tree place = get-insert_same place_total place_exact tree place map.empty

pub get-write : (tree : Tree) (place : Place) (file : FileName) (bytes : List ℕ) (files : Files) → map.get tree place
    ≡ Some files → map.get (after_op tree (Write place file bytes)) place ≡ Some (map.insert files file bytes)
get-write tree place file bytes files there =
    ap (λ found. map.get (if_there found tree (λ fs. map.insert tree place (map.insert fs file bytes))) place) there
    ∙ get-insert_same place_total place_exact tree place (map.insert files file bytes)

pub get-renamed_to : (tree : Tree) (from to : Place) (files : Files) → map.get tree from ≡ Some files
    → map.get (after_op tree (RenameDir from to)) to ≡ Some files
get-renamed_to tree from to files there =
    ap (λ found. map.get (if_there found tree (λ fs. map.insert (map.remove tree from) to fs)) to) there
    ∙ get-insert_same place_total place_exact (map.remove tree from) to files

pub get-renamed_from : (tree : Tree) (from to : Place) (files : Files) → from ≢ to → map.get tree from ≡ Some files
    → map.get (after_op tree (RenameDir from to)) from ≡ None
get-renamed_from tree from to files differ there =
    ap (λ found. map.get (if_there found tree (λ fs. map.insert (map.remove tree from) to fs)) from) there
    ∙ get-insert_other place_total place_exact (map.remove tree from) to files from differ
    ∙ get-remove_same place_total place_exact tree from

pub get-remove_dir : (tree : Tree) (place : Place) → map.get (after_op tree (RemoveDir place)) place ≡ None
get-remove_dir tree place = get-remove_same place_total place_exact tree place
