-- The laws of images in their counted form: by users, of an operation, of a change, of a sync, of a stop, of a
-- meaning.
use Rattle.std.proofs.Common.{◌≡◌, ◌≢◌, inl, inr, zero, suc, ℕ, ◌+◌, ◌≤◌, ◌<◌, true, cond, List, [], ◌∷◌, ◌++◌}
use Rattle.std.proofs.Common.{length, take, refl, sym, ap, ◌∙◌, subst, arith, length-append}
use Rattle.std.proofs.lemmas.Bool.{cases_lt}
use Rattle.std.specs.Prelude.{min, Option, None, is_some}
use Rattle.std.specs.Cmp.{nat_cmp_total}
use Rattle.std.specs.FinMap as map
use Rattle.std.specs.FinMap.{nat_cmp-IsAntisymmetric}
use Rattle.std.proofs.lemmas.List.{take-append-le, take_all, append-nil, length-take-le}
use Rattle.tree_model.specs.declared.ops.Op.{Op}
use Rattle.tree_model.specs.declared.ops.Fill.{Fill}
use Rattle.tree_model.specs.Tree.{Tree, after_op, kind_of, changes_in}
use Rattle.tree_model.specs.Disk.{Disk, view, with_op, synced, stopped, filled, image_at, IsImage}
use Rattle.tree_model.specs.Sites.{place_of}
use Rattle.tree_model.specs.Parts.{part_of}
use Rattle.tree_model.specs.Touch.{IsOf, SameFor}
use Rattle.tree_model.proofs.Maps.{decide_key}
use Rattle.tree_model.proofs.Parts.{fun_ext, user-place}
use Rattle.tree_model.proofs.Touch.{same-other, of_user-filled}
use Rattle.tree_model.proofs.Images.{image-IsImage, IsImage-applied}
use Rattle.tree_model.proofs.Images.{IsImage-append, changes_in-append, changes_in-take}
use Rattle.journal_model.specs.declared.entries.Change.{Change}
use Rattle.journal_model.specs.Users.{Record, Users, after_change, fold_changes, owner_of, no_users}
use Rattle.journal_model.proofs.Folds.{folded-append}
use Rattle.user_world.specs.Meaning.{Meaning, PartStands, UserStands, StandsFor}
use Rattle.user_world.specs.Images.{ImagesStand}
use Rattle.user_world.specs.ImageLaws.{KeepsUser}
use Rattle.user_world.proofs.Worlds.{change-theirs}

-- two trees that hold the same at the user's places have one part of the user
pub same-part : (user : ℕ) (before after : Tree) → SameFor user before after → part_of after user ≡ part_of before user
same-part user before after same =
    fun_ext (part_of after user) (part_of before user) (λ site. same.same (place_of user site) (user-place user site))

-- the map after one more change
pub fold_changes-append : (changes : List Change) (change : Change)
    → fold_changes (changes ++ change ∷ []) ≡ after_change (fold_changes changes) change
fold_changes-append changes change = folded-append no_users changes change

-- a change leaves every other user's record
pub known-append : (log : List Change) (change : Change) (other : ℕ) → other ≢ owner_of change
    → map.get (fold_changes (log ++ change ∷ [])) other ≡ map.get (fold_changes log) other
known-append log change other differ =
    ap (λ users. map.get users other) (fold_changes-append log change)
    ∙ change-theirs (fold_changes log) change other (λ e. differ (sym e))

module _ (meaning : Meaning) where
  pub by-users : (tree : Tree) (op : Op) (user : ℕ) (before after : Users)
      → StandsFor meaning tree before → IsOf user op
      → ((other : ℕ) → other ≢ user → map.get after other ≡ map.get before other)
      → UserStands meaning (after_op tree op) user (map.get after user) → StandsFor meaning (after_op tree op) after
  by-users tree op user before after stands own others here = record {
    user = λ other. elim (decide_key nat_cmp_total nat_cmp-IsAntisymmetric other user) [
      | inl same ↦ subst (λ u. UserStands meaning (after_op tree op) u (map.get after u)) (sym same) here
      | inr differ ↦ subst (UserStands meaning (after_op tree op) other) (sym (others other differ))
          (subst (λ part. PartStands meaning other part (map.get before other))
          (sym (same-part other tree (after_op tree op) (same-other user other tree op own differ)))
          (stands.user other))
    ];
  }

module _ (meaning : Meaning) (disk : Disk) (kept : ℕ) (log : List Change) where
  -- the view, and each tree that all pending operations can leave, stands for the whole log
  whole : ImagesStand meaning disk kept log → (left : Tree) → IsImage disk.stable disk.pending left
      → StandsFor meaning left (fold_changes log)
  whole stand left is =
      let all : take (length disk.pending) disk.pending ≡ disk.pending =
      take_all (length disk.pending) disk.pending (omega arith) in
      let to_end : take (kept + changes_in disk.stable (take (length disk.pending) disk.pending)) log ≡ log =
      take_all _ log (omega (arith, stand.counted, ap (changes_in disk.stable) all)) in
      subst (λ changes. StandsFor meaning left (fold_changes changes)) to_end
      (stand.stands (length disk.pending) left (omega arith)
      (subst (λ ops. IsImage disk.stable ops left) (sym all) is))

  pub view-stands : ImagesStand meaning disk kept log → StandsFor meaning (view disk) (fold_changes log)
  view-stands stand = whole stand (view disk) (IsImage-applied disk.stable disk.pending)

  -- what a front of the operations leaves stands for so many of the changes
  abbrev FrontStands : List Op → List Change → ℕ → Tree → Type 0
  FrontStands ops changes keep left = IsImage disk.stable (take keep ops) left
      → StandsFor meaning left (fold_changes (take (kept + changes_in disk.stable (take keep ops)) changes))

  front : (more : List Change) (op : Op) → ImagesStand meaning disk kept log → (keep : ℕ) (left : Tree)
      → keep ≤ length disk.pending → FrontStands (disk.pending ++ op ∷ []) (log ++ more) keep left
  front more op stand keep left short is =
      let same : take keep (disk.pending ++ op ∷ []) ≡ take keep disk.pending =
      take-append-le keep disk.pending (op ∷ []) short in
      let few = changes_in-take disk.stable disk.pending keep in
      let within : kept + changes_in disk.stable (take keep disk.pending) ≤ length log =
      omega (arith, stand.counted, few) in
      subst (λ ops. IsImage disk.stable ops left
      → StandsFor meaning left (fold_changes (take (kept + changes_in disk.stable ops) (log ++ more)))) (sym same)
      (λ there. subst (λ changes. StandsFor meaning left (fold_changes changes))
      (sym (take-append-le (kept + changes_in disk.stable (take keep disk.pending)) log more within))
      (stand.stands keep left short there))
      is

  -- the operation leads from each tree that all pending ones can leave to one that stands for more changes
  abbrev KeepsWhole : List Change → Op → Type 0
  KeepsWhole more op = (left : Tree) (fill : Fill) → IsImage disk.stable disk.pending left
      → StandsFor meaning left (fold_changes log)
      → StandsFor meaning (after_op left (filled fill op)) (fold_changes (log ++ more))

  last : (more : List Change) (op : Op) → ImagesStand meaning disk kept log
      → length (log ++ more) ≡ kept + changes_in disk.stable (disk.pending ++ op ∷ [])
      → KeepsWhole more op → (keep : ℕ) (left : Tree) → length disk.pending < keep
      → FrontStands (disk.pending ++ op ∷ []) (log ++ more) keep left
  last more op stand counted keeps keep left long is =
      let all : take keep (disk.pending ++ op ∷ []) ≡ disk.pending ++ op ∷ [] =
      take_all keep (disk.pending ++ op ∷ []) (omega (arith, length-append disk.pending (op ∷ []))) in
      let from = IsImage-append disk.stable disk.pending op left
      (subst (λ ops. IsImage disk.stable ops left) all is) in
      let stands : StandsFor meaning left (fold_changes (log ++ more)) =
      subst (λ tree. StandsFor meaning tree (fold_changes (log ++ more))) (sym from.1.1.1)
      (keeps from.0 from.1.0 from.1.1.0 (whole stand from.0 from.1.1.0)) in
      subst (λ ops. StandsFor meaning left (fold_changes (take (kept + changes_in disk.stable ops) (log ++ more))))
      (sym all)
      (subst (λ changes. StandsFor meaning left (fold_changes changes))
      (sym (take_all (kept + changes_in disk.stable (disk.pending ++ op ∷ [])) (log ++ more)
      (omega (arith, counted)))) stands)

  -- one more operation, with the changes that it makes, keeps all images, where it keeps each tree that all can leave
  images-op : (more : List Change) (op : Op) → ImagesStand meaning disk kept log
      → length more ≡ cond (is_some (kind_of (view disk) op)) 1 0 → KeepsWhole more op
      → ImagesStand meaning (with_op disk op) kept (log ++ more)
  images-op more op stand one keeps =
      let counted : length (log ++ more) ≡ kept + changes_in disk.stable (disk.pending ++ op ∷ []) =
      omega (arith, length-append log more, stand.counted, changes_in-append disk.stable disk.pending op, one) in
      record {
        counted = counted;
        stands = λ keep left short is. elim (cases_lt (length disk.pending) keep) [
          | inl above ↦ last more op stand counted keeps keep left above is
          | inr below ↦ front more op stand keep left below is
        ];
      }

  own_stands : (user : ℕ) (left : Tree) (op : Op) (fill : Fill) (after : Users) → IsOf user op
      → ((other : ℕ) → other ≢ user → map.get after other ≡ map.get (fold_changes log) other)
      → StandsFor meaning left (fold_changes log)
      → (UserStands meaning left user (map.get (fold_changes log) user)
      → UserStands meaning (after_op left (filled fill op)) user (map.get after user))
      → StandsFor meaning (after_op left (filled fill op)) after
  own_stands user left op fill after own others stands keeps =
      by-users meaning left (filled fill op) user (fold_changes log) after stands
      (of_user-filled user fill op own) others
      (keeps (stands.user user))

  -- one user's operation that is no change
  pub images-own : (op : Op) (user : ℕ) → ImagesStand meaning disk kept log → IsOf user op
      → kind_of (view disk) op ≡ None
      → KeepsUser meaning disk op user (map.get (fold_changes log) user) (map.get (fold_changes log) user)
      → ImagesStand meaning (with_op disk op) kept log
  images-own op user stand own none keeps =
      subst (ImagesStand meaning (with_op disk op) kept) (append-nil log)
      (images-op [] op stand (sym (ap (λ kind. cond (is_some kind) 1 0) none))
      (λ left fill is stands.
      subst (λ changes. StandsFor meaning (after_op left (filled fill op)) (fold_changes changes))
      (sym (append-nil log))
      (own_stands user left op fill (fold_changes log) own (λ other differ. refl) stands (keeps left fill is))))

  -- one user's operation that is a change
  pub images-change : (op : Op) (change : Change) → ImagesStand meaning disk kept log → IsOf (owner_of change) op
      → is_some (kind_of (view disk) op) ≡ true
      → KeepsUser meaning disk op (owner_of change) (map.get (fold_changes log) (owner_of change))
      (map.get (fold_changes (log ++ change ∷ [])) (owner_of change))
      → ImagesStand meaning (with_op disk op) kept (log ++ change ∷ [])
  images-change op change stand own makes keeps =
      images-op (change ∷ []) op stand (sym (ap (λ made. cond made 1 0) makes))
      (λ left fill is stands. own_stands (owner_of change) left op fill (fold_changes (log ++ change ∷ [])) own
      (known-append log change) stands (keeps left fill is))

-- a disk with nothing pending whose tree stands for the whole log
images-settled : (meaning : Meaning) (tree : Tree) (log : List Change) → StandsFor meaning tree (fold_changes log)
    → ImagesStand meaning (record { stable = tree; pending = [] }) (length log) log
images-settled meaning tree log stands = record {
  counted = omega arith;
  stands = λ keep left short is. nothing keep left is;
}
  where
    all : (n : ℕ) → n ≡ length log → StandsFor meaning tree (fold_changes (take n log))
    all n same =
        subst (λ changes. StandsFor meaning tree (fold_changes changes)) (sym (take_all n log (omega arith))) stands

    nothing : (keep : ℕ) (left : Tree) → IsImage tree (take keep []) left
        → StandsFor meaning left (fold_changes (take (length log + changes_in tree (take keep [])) log))
    nothing zero left is =
        subst (λ t. StandsFor meaning t (fold_changes (take (length log + 0) log))) (sym is)
        (all (length log + 0) (omega arith))
    nothing (suc keep) left is =
        subst (λ t. StandsFor meaning t (fold_changes (take (length log + 0) log))) (sym is)
        (all (length log + 0) (omega arith))

pub images-sync : (meaning : Meaning) (disk : Disk) (kept : ℕ) (log : List Change) → ImagesStand meaning disk kept log
    → ImagesStand meaning (synced disk) (length log) log
images-sync meaning disk kept log stand =
    images-settled meaning (view disk) log (view-stands meaning disk kept log stand)

pub images-stop : (meaning : Meaning) (disk : Disk) (kept : ℕ) (log : List Change) (keep : ℕ) (fills : List Fill)
    → ImagesStand meaning disk kept log
    → let survived = kept + changes_in disk.stable (take (min keep (length disk.pending)) disk.pending) in
    ImagesStand meaning (stopped disk keep fills) survived (take survived log)
images-stop meaning disk kept log keep fills stand =
    let count = min keep (length disk.pending) in
    let left = image_at disk count fills in
    let survived = kept + changes_in disk.stable (take count disk.pending) in
    let few = changes_in-take disk.stable disk.pending count in
    let long : length (take survived log) ≡ survived =
    length-take-le survived log (omega (arith, stand.counted, few)) in
    subst (λ n. ImagesStand meaning (stopped disk keep fills) n (take survived log)) long
    (images-settled meaning left (take survived log)
    (stand.stands count left (omega arith) (image-IsImage disk.stable (take count disk.pending) fills)))

-- another meaning
pub images-meaning : (before after : Meaning) (disk : Disk) (kept : ℕ) (log : List Change)
    → ((keep : ℕ) (left : Tree) (user : ℕ) (known : Option Record) → keep ≤ length disk.pending
    → IsImage disk.stable (take keep disk.pending) left → UserStands before left user known
    → UserStands after left user known)
    → ImagesStand before disk kept log → ImagesStand after disk kept log
images-meaning before after disk kept log goes stand = record {
  counted = stand.counted;
  stands = λ keep left short is. record {
    user = λ user. goes keep left user _ short is ((stand.stands keep left short is).user user);
  };
}
