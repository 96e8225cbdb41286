-- A user's part after an operation of the user's, after one of another user's, and where an operation doesn't touch
-- it.
use Rattle.std.proofs.Common.{◌≡◌, ◌≢◌, ℕ, true, false, cond, refl, ap, ◌∙◌, inl, inr, eq-eqb}
use Rattle.std.specs.Prelude.{◌&&◌, ◌||◌, Bool, Option, Some, None}
use Rattle.std.specs.Cmp.{nat_cmp_total}
use Rattle.std.specs.FinMap as map
use Rattle.std.specs.FinMap.{nat_cmp-IsAntisymmetric}
use Rattle.std.specs.declared.cmp.Ordering.TheVariants.{Equal}
use Rattle.std.specs.Ordering.{nat_cmp, eq_by_cmp}
use Rattle.tree_model.specs.declared.places.Slot.TheVariants.{Current, Cx}
use Rattle.tree_model.specs.declared.sites.Site.{Site}
use Rattle.tree_model.specs.declared.sites.Site.TheVariants.{De, Ce, Temp}
use Rattle.tree_model.specs.declared.sites.LocalOp.{LocalOp}
use Rattle.tree_model.specs.declared.sites.LocalOp.TheVariants.{MakeDir, Write, RenameFile}
use Rattle.tree_model.specs.declared.sites.LocalOp.TheVariants.{RenameDir, RemoveFile, RemoveDir}
use Rattle.tree_model.specs.declared.ops.Fill.{Fill}
use Rattle.tree_model.specs.declared.ops.Fill.TheVariants.{Same, Bytes}
use Rattle.tree_model.specs.Order.{place_cmp, place_total, place_exact}
use Rattle.tree_model.specs.Dir.{Files}
use Rattle.tree_model.specs.Tree.{Tree, if_there, after_op, kind_of, kind_if}
use Rattle.tree_model.specs.Tree.{Create, Add, Settle, user_of, renamed_file}
use Rattle.tree_model.specs.Touch.{IsOf}
use Rattle.tree_model.specs.Disk.{filled}
use Rattle.tree_model.specs.Sites.{place_of, site_of, op_of, user_of_op, local_op, same_site, touches}
use Rattle.tree_model.specs.Parts.{Part, part_of, set, at_site, after_local}
use Rattle.tree_model.specs.Parts.{filled_local, has_device, local_kind, IsOwnOp}
use Rattle.tree_model.proofs.Logic.{is_equal}
use Rattle.tree_model.proofs.Maps.{tied}
use Rattle.tree_model.proofs.Touch.{same-other}

pub fun_ext : {A B : Type 0} (f g : A → B) → ((a : A) → f a ≡ g a) → f ≡ g
fun_ext f g h = λ i a. h a i

-- two of a user's places are one where their sites are
same_place : (user : ℕ) (a b : Site) → eq_by_cmp place_cmp (place_of user a) (place_of user b) ≡ same_site a b
same_place user De De = tied place_total place_exact (place_of user De) (place_of user De) refl
same_place user De (Ce slot) = refl
same_place user De Temp = refl
same_place user (Ce slot) De = refl
same_place user (Ce slot) (Ce other) =
    let same : nat_cmp user user ≡ Equal =
    is_equal (nat_cmp user user) (tied nat_cmp_total nat_cmp-IsAntisymmetric user user refl) in rw same refl
same_place user (Ce slot) Temp = refl
same_place user Temp De = refl
same_place user Temp (Ce slot) = refl
same_place user Temp Temp = tied place_total place_exact (place_of user Temp) (place_of user Temp) refl

module _ (tree : Tree) (user : ℕ) where
  part-insert : (site : Site) (files : Files)
      → part_of (map.insert tree (place_of user site) files) user ≡ set (part_of tree user) site (Some files)
  part-insert site files =
      fun_ext _ _ (λ at. map.get-insert place_total tree (place_of user site) files (place_of user at)
      ∙ ap (λ t. cond t (Some files) (map.get tree (place_of user at))) (same_place user at site))

  part-remove : (site : Site) → part_of (map.remove tree (place_of user site)) user ≡ set (part_of tree user) site None
  part-remove site = fun_ext _ _ (λ at. map.get-remove place_total tree (place_of user site) (place_of user at)
      ∙ ap (λ t. cond t None (map.get tree (place_of user at))) (same_place user at site))

  part-at : (site : Site) (change : Files → Files)
      → part_of (if_there (map.get tree (place_of user site)) tree
      (λ files. map.insert tree (place_of user site) (change files))) user
      ≡ at_site (part_of tree user) site change
  part-at site change =
      elim (map.get tree (place_of user site)) as (λ found.
      part_of (if_there found tree (λ files. map.insert tree (place_of user site) (change files))) user
      ≡ if_there found (part_of tree user) (λ files. set (part_of tree user) site (Some (change files)))) [
        | None ↦ refl
        | Some files ↦ part-insert site (change files)
      ]

-- a user's operation does to the user's part what its local operation does
pub part-own : (tree : Tree) (user : ℕ) (op : LocalOp)
    → part_of (after_op tree (op_of user op)) user ≡ after_local (part_of tree user) op
part-own tree user (MakeDir site) = part-insert tree user site map.empty
part-own tree user (Write site file bytes) = part-at tree user site (λ files. map.insert files file bytes)
part-own tree user (RenameFile site from to) = part-at tree user site (λ files. renamed_file files from to)
part-own tree user (RenameDir from to) =
    elim (map.get tree (place_of user from)) as (λ found.
    part_of (if_there found tree
    (λ files. map.insert (map.remove tree (place_of user from)) (place_of user to) files)) user
    ≡ if_there found (part_of tree user) (λ files. set (set (part_of tree user) from None) to (Some files))) [
      | None ↦ refl
      | Some files ↦ part-insert (map.remove tree (place_of user from)) user to files
          ∙ ap (λ part. set part to (Some files)) (part-remove tree user from)
    ]
part-own tree user (RemoveFile site file) = part-at tree user site (λ files. map.remove files file)
part-own tree user (RemoveDir site) = part-remove tree user site

pub user-place : (user : ℕ) (site : Site) → user_of (place_of user site) ≡ user
user-place user De = refl
user-place user (Ce slot) = refl
user-place user Temp = refl

pub site-place : (user : ℕ) (site : Site) → site_of (place_of user site) ≡ site
site-place user De = refl
site-place user (Ce slot) = refl
site-place user Temp = refl

-- whose a user's operation is, and what it is to that user
pub user-op : (user : ℕ) (op : LocalOp) → user_of_op (op_of user op) ≡ user
user-op user (MakeDir site) = user-place user site
user-op user (Write site file bytes) = user-place user site
user-op user (RenameFile site from to) = user-place user site
user-op user (RenameDir from to) = user-place user from
user-op user (RemoveFile site file) = user-place user site
user-op user (RemoveDir site) = user-place user site

pub local-op : (user : ℕ) (op : LocalOp) → local_op (op_of user op) ≡ op
local-op user (MakeDir site) = ap MakeDir (site-place user site)
local-op user (Write site file bytes) = ap (λ s. Write s file bytes) (site-place user site)
local-op user (RenameFile site from to) = ap (λ s. RenameFile s from to) (site-place user site)
local-op user (RenameDir from to) =
    ap (λ s. RenameDir s (site_of (place_of user to))) (site-place user from)
    ∙ ap (RenameDir from) (site-place user to)
local-op user (RemoveFile site file) = ap (λ s. RemoveFile s file) (site-place user site)
local-op user (RemoveDir site) = ap RemoveDir (site-place user site)

-- it touches the user's places alone
pub of_user : (user : ℕ) (op : LocalOp) → IsOf user (op_of user op)
of_user user (MakeDir site) = record { own = λ place at. ap user_of at ∙ user-place user site }
of_user user (Write site file bytes) = record { own = λ place at. ap user_of at ∙ user-place user site }
of_user user (RenameFile site from to) = record { own = λ place at. ap user_of at ∙ user-place user site }
of_user user (RenameDir from to) = record {
  own =
      λ place at. elim at [ inl e ↦ ap user_of e ∙ user-place user from | inr e ↦ ap user_of e ∙ user-place user to ];
}
of_user user (RemoveFile site file) = record { own = λ place at. ap user_of at ∙ user-place user site }
of_user user (RemoveDir site) = record { own = λ place at. ap user_of at ∙ user-place user site }

-- and it leaves each other user's part
pub part-other : (tree : Tree) (user other : ℕ) (op : LocalOp) → other ≢ user
    → part_of (after_op tree (op_of user op)) other ≡ part_of tree other
part-other tree user other op differ = fun_ext _ _ (λ site.
    (same-other user other tree (op_of user op) (of_user user op) differ).same
    (place_of other site) (user-place other site))

-- a fill of a user's operation is one of its local operation
pub filled-op_of : (user : ℕ) (fill : Fill) (op : LocalOp)
    → filled fill (op_of user op) ≡ op_of user (filled_local fill op)
filled-op_of user Same op = refl
filled-op_of user (Bytes other) (MakeDir site) = refl
filled-op_of user (Bytes other) (Write site file bytes) = refl
filled-op_of user (Bytes other) (RenameFile site from to) = refl
filled-op_of user (Bytes other) (RenameDir from to) = refl
filled-op_of user (Bytes other) (RemoveFile site file) = refl
filled-op_of user (Bytes other) (RemoveDir site) = refl

-- the change that an operation makes shows in the part
pub kind-own : (tree : Tree) (user : ℕ) (op : LocalOp)
    → kind_of tree (op_of user op) ≡ local_kind (part_of tree user) op
kind-own tree user (MakeDir site) = refl
kind-own tree user (Write site file bytes) = refl
kind-own tree user (RenameFile site from to) = refl
kind-own tree user (RenameDir Temp De) = ap (λ b. kind_if b Create) (eq-eqb user user refl)
kind-own tree user (RenameDir Temp (Ce (Cx n))) =
    ap (λ b. kind_if (b && has_device (part_of tree user)) Add) (eq-eqb user user refl)
kind-own tree user (RenameDir Temp (Ce Current)) = refl
kind-own tree user (RenameDir Temp Temp) = refl
kind-own tree user (RenameDir (Ce (Cx n)) (Ce Current)) =
    ap (λ b. kind_if (b && has_device (part_of tree user)) Settle) (eq-eqb user user refl)
kind-own tree user (RenameDir (Ce (Cx n)) De) = refl
kind-own tree user (RenameDir (Ce (Cx n)) (Ce (Cx m))) = refl
kind-own tree user (RenameDir (Ce (Cx n)) Temp) = refl
kind-own tree user (RenameDir (Ce Current) to) = refl
kind-own tree user (RenameDir De to) = refl
kind-own tree user (RemoveFile site file) = refl
kind-own tree user (RemoveDir De) = refl
kind-own tree user (RemoveDir (Ce slot)) = refl
kind-own tree user (RemoveDir Temp) = refl

pub own_op : (tree : Tree) (user : ℕ) (op : LocalOp) → IsOwnOp tree user op
own_op tree user op = record {
  part = part-own tree user op;
  kind = kind-own tree user op;
  others = λ other differ. part-other tree user other op differ;
}

-- the same where a stop leaves the operation with a fill
pub part-own_filled : (tree : Tree) (user : ℕ) (fill : Fill) (op : LocalOp)
    → part_of (after_op tree (filled fill (op_of user op))) user
    ≡ after_local (part_of tree user) (filled_local fill op)
part-own_filled tree user fill op =
    ap (λ o. part_of (after_op tree o) user) (filled-op_of user fill op) ∙ part-own tree user (filled_local fill op)

pub part-other_filled : (tree : Tree) (user other : ℕ) (fill : Fill) (op : LocalOp) → other ≢ user
    → part_of (after_op tree (filled fill (op_of user op))) other ≡ part_of tree other
part-other_filled tree user other fill op differ =
    ap (λ o. part_of (after_op tree o) other) (filled-op_of user fill op)
    ∙ part-other tree user other (filled_local fill op) differ

-- a fill makes no other change, and one fill of another is a fill
pub filled-kind : (part : Part) (fill : Fill) (op : LocalOp)
    → local_kind part (filled_local fill op) ≡ local_kind part op
filled-kind part Same op = refl
filled-kind part (Bytes other) (MakeDir site) = refl
filled-kind part (Bytes other) (Write site file bytes) = refl
filled-kind part (Bytes other) (RenameFile site from to) = refl
filled-kind part (Bytes other) (RenameDir from to) = refl
filled-kind part (Bytes other) (RemoveFile site file) = refl
filled-kind part (Bytes other) (RemoveDir site) = refl

pub filled_twice : (first last : Fill) (op : LocalOp)
    → (fill : Fill) × (filled_local last (filled_local first op) ≡ filled_local fill op)
filled_twice Same last op = (last, refl)
filled_twice (Bytes other) Same op = (Bytes other, refl)
filled_twice (Bytes other) (Bytes more) (MakeDir site) = (Same, refl)
filled_twice (Bytes other) (Bytes more) (Write site file bytes) = (Bytes more, refl)
filled_twice (Bytes other) (Bytes more) (RenameFile site from to) = (Same, refl)
filled_twice (Bytes other) (Bytes more) (RenameDir from to) = (Same, refl)
filled_twice (Bytes other) (Bytes more) (RemoveFile site file) = (Same, refl)
filled_twice (Bytes other) (Bytes more) (RemoveDir site) = (Same, refl)

-- an operation leaves each site that it doesn't touch
module _ (part : Part) (at : Site) where
  frame-set : (site : Site) (held : Option Files) → same_site at site ≡ false → set part site held at ≡ part at
  frame-set site held apart = ap (λ t. cond t held (part at)) apart

  frame-at : (site : Site) (change : Files → Files) → same_site at site ≡ false → at_site part site change at ≡ part at
  frame-at site change apart =
      elim (part site) as (λ found. if_there found part (λ files. set part site (Some (change files))) at ≡ part at) [
        | None ↦ refl
        | Some files ↦ frame-set site _ apart
      ]

frame-op : (part : Part) (op : LocalOp) (at : Site) → touches op at ≡ false → after_local part op at ≡ part at
frame-op part (MakeDir site) at apart = frame-set part at site _ apart
frame-op part (Write site file bytes) at apart = frame-at part at site _ apart
frame-op part (RenameFile site from to) at apart = frame-at part at site _ apart
frame-op part (RenameDir from to) at apart =
    elim (part from) as (λ found. if_there found part (λ files. set (set part from None) to (Some files)) at
    ≡ part at) [
      | None ↦ refl
      | Some files ↦ frame-set (set part from None) at to _ (second (same_site at from) (same_site at to) apart)
          ∙ frame-set part at from _ (first (same_site at from) (same_site at to) apart)
    ]
  where
    first : (a b : Bool) → (a || b) ≡ false → a ≡ false
    first true b e = e
    first false b e = refl

    second : (a b : Bool) → (a || b) ≡ false → b ≡ false
    second true b e = cc
    second false b e = e
frame-op part (RemoveFile site file) at apart = frame-at part at site _ apart
frame-op part (RemoveDir site) at apart = frame-set part at site _ apart

touches-filled : (fill : Fill) (op : LocalOp) (at : Site) → touches (filled_local fill op) at ≡ touches op at
touches-filled Same op at = refl
touches-filled (Bytes other) (MakeDir site) at = refl
touches-filled (Bytes other) (Write site file bytes) at = refl
touches-filled (Bytes other) (RenameFile site from to) at = refl
touches-filled (Bytes other) (RenameDir from to) at = refl
touches-filled (Bytes other) (RemoveFile site file) at = refl
touches-filled (Bytes other) (RemoveDir site) at = refl

pub frame : (part : Part) (fill : Fill) (op : LocalOp) (at : Site) → touches op at ≡ false
    → after_local part (filled_local fill op) at ≡ part at
frame part fill op at apart = frame-op part (filled_local fill op) at (touches-filled fill op at ∙ apart)
