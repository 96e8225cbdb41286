-- The trees that a stop can leave, and the blobs that they name, after one user's operation and after a sync.
use Rattle.std.proofs.Common.{◌≡◌, ◌≢◌, ◌⊎◌, inl, inr, ℕ, zero, suc, List, [], ◌∷◌, ◌++◌, length, take, sym, ap}
use Rattle.std.proofs.Common.{subst, arith, length-append, ◌∙◌}
use Rattle.std.specs.Prelude.{Contains}
use Rattle.std.proofs.lemmas.Bool.{cases_lt}
use Rattle.std.proofs.lemmas.List.{take-append-le, take_all}
use Rattle.std.specs.Cmp.{nat_cmp_total}
use Rattle.std.specs.FinMap.{nat_cmp-IsAntisymmetric}
use Rattle.tree_model.specs.declared.blobs.Blob.{Blob}
use Rattle.tree_model.specs.declared.ops.Op.{Op}
use Rattle.tree_model.specs.declared.ops.Fill.{Fill}
use Rattle.tree_model.specs.declared.sites.LocalOp.{LocalOp}
use Rattle.tree_model.specs.Tree.{Tree, after_op, applied}
use Rattle.tree_model.specs.Disk.{Disk, view, with_op, filled, IsImage}
use Rattle.tree_model.specs.Named.{PartNames, IsNamed}
use Rattle.tree_model.specs.Parts.{part_of, after_local, filled_local}
use Rattle.tree_model.specs.Sites.{op_of}
use Rattle.tree_model.proofs.Maps.{decide_key}
use Rattle.tree_model.proofs.Images.{IsImage-append, IsImage-applied, applied-append}
use Rattle.tree_model.proofs.Parts.{part-own_filled, part-other_filled}
use Rattle.blob_custody.specs.Custody.{IsLeft, IsGone}
use Rattle.blob_custody.specs.Steps.{Renames}

-- what all pending operations can leave is among them, and so is the view
pub all-left : (disk : Disk) (left : Tree) → IsImage disk.stable disk.pending left → IsLeft disk left
all-left disk left is = record {
  keep = length disk.pending;
  short = omega arith;
  image =
      subst (λ ops. IsImage disk.stable ops left) (sym (take_all (length disk.pending) disk.pending (omega arith))) is;
}

pub view-left : (disk : Disk) → IsLeft disk (view disk)
view-left disk = all-left disk (view disk) (IsImage-applied disk.stable disk.pending)

pub view-op : (disk : Disk) (op : Op) → view (with_op disk op) ≡ after_op (view disk) op
view-op disk op = applied-append disk.stable disk.pending op

-- with one more operation a stop leaves what it could before, or that operation's outcome on what all others leave
pub left-op : (disk : Disk) (op : Op) (left : Tree) → IsLeft (with_op disk op) left
    → IsLeft disk left
    ⊎ ((before : Tree)
    × ((fill : Fill) × (IsImage disk.stable disk.pending before × (left ≡ after_op before (filled fill op)))))
left-op disk op left is = elim (cases_lt (length disk.pending) is.keep) [
  | inl above ↦ inr (IsImage-append disk.stable disk.pending op left
      (subst (λ ops. IsImage disk.stable ops left)
      (take_all is.keep (disk.pending ++ op ∷ []) (omega (arith, above, length-append disk.pending (op ∷ []))))
      is.image))
  | inr below ↦ inl (record {
    keep = is.keep;
    short = below;
    image = subst (λ ops. IsImage disk.stable ops left) (take-append-le is.keep disk.pending (op ∷ []) below) is.image;
  })
]

-- where nothing is pending it leaves the view
pub nothing-pending : (tree : Tree) (keep : ℕ) (left : Tree) → IsImage tree (take keep []) left → left ≡ tree
nothing-pending tree zero left is = is
nothing-pending tree (suc keep) left is = is

pub left-settled : (disk : Disk) → disk.pending ≡ [] → (left : Tree) → IsLeft disk left → left ≡ view disk
left-settled disk settled left is =
    subst (λ ops. IsImage disk.stable (take is.keep ops) left → left ≡ applied disk.stable ops) (sym settled)
    (nothing-pending disk.stable is.keep left) is.image

pub gone-settled : (disk : Disk) (blob : Blob) → disk.pending ≡ [] → ¬ (IsNamed (view disk) blob) → IsGone disk blob
gone-settled disk blob settled unnamed = record {
  gone = λ left is named. unnamed (subst (λ tree. IsNamed tree blob) (left-settled disk settled left is) named);
}

module _ (tree : Tree) (user : ℕ) (fill : Fill) (op : LocalOp) (blob : Blob) where
  -- what is named after one user's operation was named before, or that user names it
  pub named-op : IsNamed (after_op tree (filled fill (op_of user op))) blob
      → IsNamed tree blob ⊎ PartNames (after_local (part_of tree user) (filled_local fill op)) blob
  named-op named = elim (decide_key nat_cmp_total nat_cmp-IsAntisymmetric named.user user) [
    | inl same ↦ inr (subst (λ part. PartNames part blob)
        (ap (part_of (after_op tree (filled fill (op_of user op)))) same
        ∙ part-own_filled tree user fill op) named.there)
    | inr differ ↦ inl (record {
      user = named.user;
      there = subst (λ part. PartNames part blob) (part-other_filled tree user named.user fill op differ) named.there;
    })
  ]

  -- what the user names then is named, and so is what another user names
  pub own-named : PartNames (after_local (part_of tree user) (filled_local fill op)) blob
      → IsNamed (after_op tree (filled fill (op_of user op))) blob
  own-named names = record {
    user = user;
    there = subst (λ part. PartNames part blob) (sym (part-own_filled tree user fill op)) names;
  }

  pub other-named : (named : IsNamed tree blob) → named.user ≢ user
      → IsNamed (after_op tree (filled fill (op_of user op))) blob
  other-named named differ = record {
    user = named.user;
    there =
        subst (λ part. PartNames part blob) (sym (part-other_filled tree user named.user fill op differ)) named.there;
  }

-- a blob that no tree names that a stop can leave, and that an operation doesn't gain, is named by none after it
module _ (disk : Disk) (user : ℕ) (op : LocalOp) (gains drops : List Blob)
    (renames : Renames disk user op gains drops) where
  unnamed-op : (from : Tree) (fill : Fill) (blob : Blob) → ¬ (Contains gains blob) → IsGone disk blob
      → IsImage disk.stable disk.pending from
      → ¬ (IsNamed (after_op from (filled fill (op_of user op))) blob)
  unnamed-op from fill blob not_gained gone is named = elim (named-op from user fill op blob named) [
    | inl before ↦ gone.gone from (all-left disk from is) before
    | inr names ↦ elim (renames.gained from fill blob is names) [
      | inl before ↦ gone.gone from (all-left disk from is) (record { user = user; there = before })
      | inr gained ↦ not_gained gained
    ]
  ]

  pub gone-op : (blob : Blob) → ¬ (Contains gains blob) → IsGone disk blob → IsGone (with_op disk (op_of user op)) blob
  gone-op blob not_gained gone = record {
    gone = λ left is named. elim (left-op disk (op_of user op) left is) [
      | inl before ↦ gone.gone left before named
      | inr new ↦ unnamed-op new.0 new.1.0 blob not_gained gone new.1.1.0
          (subst (λ tree. IsNamed tree blob) new.1.1.1 named)
    ];
  }
