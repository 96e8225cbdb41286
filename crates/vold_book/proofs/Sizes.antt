-- How calls change the number of directories, in the view and in whatever tree a stop can leave.
use Rattle.std.proofs.Common.{◌≡◌, inl, inr, zero, suc, ℕ, ◌+◌, ◌-◌, ◌<◌, ◌≤◌, Bool, true, false, cond}
use Rattle.std.proofs.Common.{List, [], length, take, refl, sym, ap, ◌∙◌, subst, arith}
use Rattle.std.specs.Prelude.{min, Option, Some, None, IsSome, IsNone, is_some}
use Rattle.std.specs.FinMap as map
use Rattle.std.specs.Ordering.{eq_by_cmp}
use Rattle.tree_model.specs.declared.ops.Fill.{Fill}
use Rattle.tree_model.specs.declared.ops.Fill.TheVariants.{Same, Bytes}
use Rattle.tree_model.specs.declared.places.Place.{Place}
use Rattle.tree_model.specs.declared.sites.LocalOp.{LocalOp}
use Rattle.tree_model.specs.declared.sites.LocalOp.TheVariants.{MakeDir, Write, RenameFile}
use Rattle.tree_model.specs.declared.sites.LocalOp.TheVariants.{RenameDir, RemoveFile, RemoveDir}
use Rattle.tree_model.specs.Dir.{Files}
use Rattle.tree_model.specs.Order.{place_cmp, place_total}
use Rattle.tree_model.specs.Tree.{Tree, if_there, after_op, at_dir, renamed_file, renamed_dir}
use Rattle.tree_model.specs.Disk.{Disk, view, with_op, synced, stopped, filled}
use Rattle.tree_model.specs.Sites.{place_of, op_of}
use Rattle.tree_model.specs.Parts.{part_of, LocalFits}
use Rattle.tree_model.proofs.Images.{image-IsImage}
use Rattle.blob_custody.specs.Custody.{IsLeft}
use Rattle.blob_custody.proofs.Left.{nothing-pending, all-left, view-left, view-op, left-op}
use Rattle.user_world.specs.Turns.{adds_local, takes_local}

module _ (tree : Tree) (place : Place) where
  len-new : (files : Files) → IsNone (map.get tree place) → map.len (map.insert tree place files) ≡ map.len tree + 1
  len-new files none =
      map.len-insert place_total tree place files ∙ ap (λ t. cond t (map.len tree) (map.len tree + 1)) none

  len-there : (files : Files) → IsSome (map.get tree place) → map.len (map.insert tree place files) ≡ map.len tree
  len-there files there =
      map.len-insert place_total tree place files ∙ ap (λ t. cond t (map.len tree) (map.len tree + 1)) there

  len-more : (files : Files) → map.len (map.insert tree place files) ≤ map.len tree + 1
  len-more files =
      subst (λ n. n ≤ map.len tree + 1) (sym (map.len-insert place_total tree place files))
      (either (is_some (map.get tree place)))
    where
      either : (there : Bool) → cond there (map.len tree) (map.len tree + 1) ≤ map.len tree + 1
      either true = omega arith
      either false = omega arith

  some_len : IsSome (map.get tree place) → 0 < map.len tree
  some_len there = above (map.len tree) refl
    where
      nothing : map.len tree ≡ 0 → ⊥
      nothing e = none (sym there ∙ ap (λ t. is_some (map.get t place)) (map.empty_of_len tree e)
          ∙ ap is_some (map.get-empty {X = Files} place_cmp place))
        where
          none : true ≡ false → ⊥
          none e = cc

      above : (n : ℕ) → map.len tree ≡ n → 0 < n
      above zero e = absurd (nothing e)
      above (suc n) e = omega arith

  len-gone : IsSome (map.get tree place) → map.len (map.remove tree place) + 1 ≡ map.len tree
  len-gone there =
      let gone = map.len-remove place_total tree place ∙ ap (λ t. cond t (map.len tree - 1) (map.len tree)) there in
      let some = some_len there in
      omega (arith, gone, some)

  len-less : map.len (map.remove tree place) ≤ map.len tree
  len-less =
      subst (λ n. n ≤ map.len tree) (sym (map.len-remove place_total tree place))
      (either (is_some (map.get tree place)))
    where
      either : (there : Bool) → cond there (map.len tree - 1) (map.len tree) ≤ map.len tree
      either true = omega arith
      either false = omega arith

  -- one directory changed
  len-at_dir : (change : Files → Files) → map.len (at_dir tree place change) ≡ map.len tree
  len-at_dir change = by (map.get tree place) refl
    where
      by : (found : Option Files) → map.get tree place ≡ found
          → map.len (if_there found tree (λ files. map.insert tree place (change files))) ≡ map.len tree
      by None e = refl
      by (Some files) e = len-there (change files) (ap is_some e)

-- a directory at another place
len-renamed : (tree : Tree) (from to : Place) → map.len (renamed_dir tree from to) ≤ map.len tree
len-renamed tree from to = by (map.get tree from) refl
  where
    by : (found : Option Files) → map.get tree from ≡ found
        → map.len (if_there found tree (λ files. map.insert (map.remove tree from) to files)) ≤ map.len tree
    by None e = omega arith
    by (Some files) e =
        let less = len-gone tree from (ap is_some e) in
        let more = len-more (map.remove tree from) to files in
        omega (arith, less, more)

-- an operation adds no more than it says
len-most : (tree : Tree) (user : ℕ) (op : LocalOp)
    → map.len (after_op tree (op_of user op)) ≤ map.len tree + adds_local op
len-most tree user (MakeDir site) = len-more tree (place_of user site) map.empty
len-most tree user (Write site file bytes) =
    let same = len-at_dir tree (place_of user site) (λ files. map.insert files file bytes) in omega (arith, same)
len-most tree user (RenameFile site from to) =
    let same = len-at_dir tree (place_of user site) (λ files. renamed_file files from to) in omega (arith, same)
len-most tree user (RenameDir from to) =
    let less = len-renamed tree (place_of user from) (place_of user to) in omega (arith, less)
len-most tree user (RemoveFile site file) =
    let same = len-at_dir tree (place_of user site) (λ files. map.remove files file) in omega (arith, same)
len-most tree user (RemoveDir site) = let less = len-less tree (place_of user site) in omega (arith, less)

-- and no more with other bytes
len-filled : (tree : Tree) (user : ℕ) (op : LocalOp) (fill : Fill)
    → map.len (after_op tree (filled fill (op_of user op))) ≤ map.len tree + adds_local op
len-filled tree user op Same = len-most tree user op
len-filled tree user (MakeDir site) (Bytes other) = len-most tree user (MakeDir site)
len-filled tree user (Write site file bytes) (Bytes other) = len-most tree user (Write site file other)
len-filled tree user (RenameFile site from to) (Bytes other) = len-most tree user (RenameFile site from to)
len-filled tree user (RenameDir from to) (Bytes other) = len-most tree user (RenameDir from to)
len-filled tree user (RemoveFile site file) (Bytes other) = len-most tree user (RemoveFile site file)
len-filled tree user (RemoveDir site) (Bytes other) = len-most tree user (RemoveDir site)

-- a tree has no more directories than so many and one that a stop can leave of the disk
pub record Exceeds (disk : Disk) (more : ℕ) (left : Tree) : Type 0 where
  pub from : Tree
  pub is : IsLeft disk from
  pub few : map.len left ≤ map.len from + more

pub exceeds-none : (disk : Disk) (left : Tree) → IsLeft disk left → Exceeds disk 0 left
exceeds-none disk left is = record { from = left; is = is; few = omega arith }

-- with one more operation, of whatever bytes, the others may have left it or what it was done on
pub exceeds-op : (disk : Disk) (user : ℕ) (op : LocalOp) (left : Tree)
    → IsLeft (with_op disk (op_of user op)) left → Exceeds disk (adds_local op) left
exceeds-op disk user op left is = elim (left-op disk (op_of user op) left is) [
  | inr new ↦ record {
    from = new.0;
    is = all-left disk new.0 new.1.1.0;
    few = subst (λ tree. map.len tree ≤ map.len new.0 + adds_local op) (sym new.1.1.1)
        (len-filled new.0 user op new.1.0);
  }
  | inl below ↦ record { from = left; is = below; few = omega arith }
]

-- where nothing is pending, a stop leaves what is stable
pub left-still : (tree left : Tree) → IsLeft (record { stable = tree; pending = [] }) left → left ≡ tree
left-still tree left is = nothing-pending tree is.keep left is.image

pub exceeds-synced : (disk : Disk) (left : Tree) → IsLeft (synced disk) left → Exceeds disk 0 left
exceeds-synced disk left is = record {
  from = view disk;
  is = view-left disk;
  few = let same = ap (λ t. map.len t) (left-still (view disk) left is) in omega (arith, same);
}

-- what a stop leaves of a stopped disk, the stop before could leave too
pub left-stopped : (disk : Disk) (keep : ℕ) (fills : List Fill) (left : Tree)
    → IsLeft (stopped disk keep fills) left → IsLeft disk left
left-stopped disk keep fills left is = subst (IsLeft disk) (sym (left-still (stopped disk keep fills).stable left is))
    (record {
      keep = min keep (length disk.pending);
      short = omega arith;
      image = image-IsImage disk.stable (take (min keep (length disk.pending)) disk.pending) fills;
    })

pub exceeds-stopped : (disk : Disk) (keep : ℕ) (fills : List Fill) (left : Tree)
    → IsLeft (stopped disk keep fills) left → Exceeds disk 0 left
exceeds-stopped disk keep fills left is = exceeds-none disk left (left-stopped disk keep fills left is)

-- what an operation makes of the view, where it may be made
len-op : (tree : Tree) (user : ℕ) (op : LocalOp) → LocalFits (part_of tree user) op
    → map.len (after_op tree (op_of user op)) + takes_local op ≡ map.len tree + adds_local op
len-op tree user (MakeDir site) fits =
    let e = len-new tree (place_of user site) map.empty fits in omega (arith, e)
len-op tree user (Write site file bytes) fits =
    let same = len-at_dir tree (place_of user site) (λ files. map.insert files file bytes) in omega (arith, same)
len-op tree user (RenameFile site from to) fits = absurd fits
len-op tree user (RenameDir from to) fits = renamed (map.get tree here) refl
  where
    here : Place
    here = place_of user from

    there : Place
    there = place_of user to

    free : IsNone (map.get (map.remove tree here) there)
    free =
        ap is_some (map.get-remove place_total tree here there)
        ∙ either (eq_by_cmp place_cmp there here) (map.get tree there) fits.1
      where
        either : (t : Bool) (found : Option Files) → IsNone found → is_some (cond t None found) ≡ false
        either true found none = refl
        either false found none = none

    renamed : (found : Option Files) → map.get tree here ≡ found
        → map.len (if_there found tree (λ files. map.insert (map.remove tree here) there files)) + 0 ≡ map.len tree + 0
    renamed None e = refl
    renamed (Some files) e =
        let l = len-new (map.remove tree here) there files free in
        let r = len-gone tree here fits.0 in
        omega (arith, l, r)
len-op tree user (RemoveFile site file) fits = absurd fits
len-op tree user (RemoveDir site) fits = let r = len-gone tree (place_of user site) fits in omega (arith, r)

pub len-with_op : (disk : Disk) (user : ℕ) (op : LocalOp) → LocalFits (part_of (view disk) user) op
    → map.len (view (with_op disk (op_of user op))) + takes_local op ≡ map.len (view disk) + adds_local op
len-with_op disk user op fits =
    ap (λ t. map.len t + takes_local op) (view-op disk (op_of user op)) ∙ len-op (view disk) user op fits
