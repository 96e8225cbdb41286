-- The directories that a loop over a tree's places reads are the tree's entries.
use Rattle.std.proofs.Common.{◌≡◌, ℕ, suc, ◌+◌, ◌<◌, ◌≤◌, List, [], ◌∷◌, ◌++◌, length, get_or, take, refl, sym, ap}
use Rattle.std.proofs.Common.{subst, ◌∙◌, add-one, arith}
use Rattle.std.specs.Prelude.{Option, Some, None, IsSome}
use Rattle.std.specs.FinMap as map
use Rattle.std.proofs.lemmas.List.{length-map, take_all}
use Rattle.std.proofs.Math.Seq.{take-suc}
use Rattle.tree_model.specs.declared.places.Place.{Place}
use Rattle.tree_model.specs.Dir.{Files}
use Rattle.tree_model.specs.Tree.{Tree}
use Rattle.tree_model.specs.Order.{place_total}
use Rattle.vold_run.specs.Shown.{looks_for}
use Rattle.script_text.proofs.Pieces.{entry-at, key_found}

there : {A : Type 0} (found : Option A) → (None ≡ found → ⊥) → IsSome found
there None missed = absurd (missed refl)
there (Some a) missed = refl

many : (tree : Tree) (places : List Place) → places ≡ map.keys tree → length places ≡ length (map.entries tree)
many tree places listed = ap length listed ∙ length-map (map.entries tree) (λ e. e.0)

-- each place is there
pub place_there : (tree : Tree) (places : List Place) (i : ℕ) (place : Place) → places ≡ map.keys tree
    → i < length places → IsSome (map.get tree (get_or places i place))
place_there tree places i place listed within = there _ (key_found place_total tree places i place listed within)

-- the look at a directory is among those that the tree needs
pub look_wanted : (tree : Tree) (places : List Place) (i : ℕ) → places ≡ map.keys tree
    → i < length places → suc i < looks_for tree
look_wanted tree places i listed within = let all = many tree places listed in omega arith

-- one more directory is read
pub dir_read : (tree : Tree) (places : List Place) (i : ℕ) (place : Place) (files : Files)
    (dirs dirs' : List (Place × Files)) → places ≡ map.keys tree → i < length places
    → map.get tree (get_or places i place) ≡ Some files
    → dirs ≡ take i (map.entries tree) → dirs' ≡ dirs ++ (get_or places i place, files) ∷ []
    → dirs' ≡ take (i + 1) (map.entries tree)
dir_read tree places i place files dirs dirs' listed within found before added =
    let here : i < length (map.entries tree) = subst (λ n. i < n) (many tree places listed) within in
    added
    ∙ ap (λ ds. ds ++ (get_or places i place, files) ∷ []) before
    ∙ ap (λ e. take i (map.entries tree) ++ e ∷ [])
    (entry-at place_total tree places i place files listed within (sym found))
    ∙ sym (take-suc (map.entries tree) i (place, files) here)
    ∙ ap (λ n. take n (map.entries tree)) (sym (add-one i))

-- every directory is read
pub all_read : (tree : Tree) (places : List Place) (i : ℕ) (dirs : List (Place × Files)) → places ≡ map.keys tree
    → length places ≤ i → dirs ≡ take i (map.entries tree) → dirs ≡ map.entries tree
all_read tree places i dirs listed past read =
    read ∙ take_all i (map.entries tree) (subst (λ n. n ≤ i) (many tree places listed) past)
