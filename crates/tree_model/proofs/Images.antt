-- The trees that a stop can leave: the relation and the function, one more operation, and the view among them.
use Rattle.std.proofs.Common.{◌≡◌, ℕ, ◌+◌, ◌≤◌, cond, List, [], ◌∷◌, ◌++◌, take}
use Rattle.std.proofs.Common.{zero, suc, refl, sym, ap, ◌∙◌, arith, add_assoc}
use Rattle.std.specs.Prelude.{is_some}
use Rattle.tree_model.specs.declared.ops.Op.{Op}
use Rattle.tree_model.specs.declared.ops.Fill.{Fill}
use Rattle.tree_model.specs.declared.ops.Fill.TheVariants.{Same}
use Rattle.tree_model.specs.Tree.{Tree, after_op, applied, kind_of, changes_in}
use Rattle.tree_model.specs.Disk.{filled, first_fill, other_fills, image, IsImage}

-- what fills leave is such a tree
pub image-IsImage : (tree : Tree) (ops : List Op) (fills : List Fill) → IsImage tree ops (image tree ops fills)
image-IsImage tree [] fills = refl
image-IsImage tree (op ∷ ops) fills =
    (first_fill fills, image-IsImage (after_op tree (filled (first_fill fills) op)) ops (other_fills fills))

-- each such tree is what some fills leave
pub IsImage-image : (tree : Tree) (ops : List Op) (left : Tree) → IsImage tree ops left
    → (fills : List Fill) × (left ≡ image tree ops fills)
IsImage-image tree [] left is = ([], is)
IsImage-image tree (op ∷ ops) left is =
    let rest = IsImage-image (after_op tree (filled is.0 op)) ops left is.1 in
    (is.0 ∷ rest.0, rest.1)

-- the view is one of them
pub IsImage-applied : (tree : Tree) (ops : List Op) → IsImage tree ops (applied tree ops)
IsImage-applied tree [] = refl
IsImage-applied tree (op ∷ ops) = (Same, IsImage-applied (after_op tree op) ops)

-- with one more operation: that operation, with any bytes if it is a write, on one of the trees before it
pub IsImage-append : (tree : Tree) (ops : List Op) (op : Op) (left : Tree) → IsImage tree (ops ++ op ∷ []) left
    → (before : Tree) × ((fill : Fill) × (IsImage tree ops before × (left ≡ after_op before (filled fill op))))
IsImage-append tree [] op left is = (tree, (is.0, (refl, is.1)))
IsImage-append tree (first ∷ ops) op left is =
    let rest = IsImage-append (after_op tree (filled is.0 first)) ops op left is.1 in
    (rest.0, (rest.1.0, ((is.0, rest.1.1.0), rest.1.1.1)))

pub applied-append : (tree : Tree) (ops : List Op) (op : Op)
    → applied tree (ops ++ op ∷ []) ≡ after_op (applied tree ops) op
applied-append tree [] op = refl
applied-append tree (first ∷ ops) op = applied-append (after_op tree first) ops op

pub changes_in-append : (tree : Tree) (ops : List Op) (op : Op)
    → changes_in tree (ops ++ op ∷ []) ≡ changes_in tree ops + cond (is_some (kind_of (applied tree ops) op)) 1 0
changes_in-append tree [] op = omega arith
changes_in-append tree (first ∷ ops) op =
    ap (λ n. cond (is_some (kind_of tree first)) 1 0 + n) (changes_in-append (after_op tree first) ops op)
    ∙ sym (add_assoc (cond (is_some (kind_of tree first)) 1 0) (changes_in (after_op tree first) ops) _)

-- the first operations make no more changes than all
pub changes_in-take : (tree : Tree) (ops : List Op) (keep : ℕ) → changes_in tree (take keep ops) ≤ changes_in tree ops
changes_in-take tree [] zero = omega arith
changes_in-take tree [] (suc keep) = omega arith
changes_in-take tree (op ∷ ops) zero = omega arith
changes_in-take tree (op ∷ ops) (suc keep) =
    let rest = changes_in-take (after_op tree op) ops keep in omega (arith, rest)
