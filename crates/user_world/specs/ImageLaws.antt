-- The laws by which every image keeps standing for a prefix of the changes, for every meaning of "opens".
use Rattle.std.specs.Prelude.{◌≡◌, ◌≢◌, ℕ, ◌+◌, ◌≤◌, min, List, [], ◌∷◌, ◌++◌}
use Rattle.std.specs.Prelude.{length, take, Option, None, is_some, true}
use Rattle.std.specs.FinMap as map
use Rattle.tree_model.specs.declared.ops.Op.{Op}
use Rattle.tree_model.specs.declared.ops.Fill.{Fill}
use Rattle.tree_model.specs.Tree.{Tree, after_op, kind_of, changes_in}
use Rattle.tree_model.specs.Disk.{Disk, view, with_op, synced, stopped, filled, IsImage}
use Rattle.tree_model.specs.Parts.{part_of}
use Rattle.tree_model.specs.Touch.{IsOf}
use Rattle.journal_model.specs.declared.entries.Change.{Change}
use Rattle.journal_model.specs.Users.{Record, Users, fold_changes, owner_of}
use Rattle.user_world.specs.Meaning.{Meaning, Opening, opened_by, UserStands, StandsFor}
use Rattle.user_world.specs.Images.{ImagesStand}

-- what stands for a user depends on that user's places alone
abbrev pub LawOfLocality : Type 0
LawOfLocality = (opening : Opening) (tree other : Tree) (user : ℕ) (known : Option Record)
    → part_of tree user ≡ part_of other user
    → UserStands (opened_by opening) tree user known → UserStands (opened_by opening) other user known

-- one user's places changed as that user's record did: the tree stands where it stood before
abbrev pub LawByUsers : Type 0
LawByUsers = (opening : Opening) (tree : Tree) (op : Op) (user : ℕ) (before after : Users)
    → StandsFor (opened_by opening) tree before → IsOf user op
    → ((other : ℕ) → other ≢ user → map.get after other ≡ map.get before other)
    → UserStands (opened_by opening) (after_op tree op) user (map.get after user)
    → StandsFor (opened_by opening) (after_op tree op) after

-- the operation, with any bytes if it is a write, leads from each tree that a stop can leave where the user stands
-- for one record to a tree where the user stands for another
abbrev pub KeepsUser : Meaning → Disk → Op → ℕ → Option Record → Option Record → Type 0
KeepsUser meaning disk op user known known' = (left : Tree) (fill : Fill) → IsImage disk.stable disk.pending left
    → UserStands meaning left user known → UserStands meaning (after_op left (filled fill op)) user known'

-- one user's operation that is no change keeps all images, where it keeps that user's part in each of them
abbrev pub LawOfOperations : Type 0
LawOfOperations = (opening : Opening) (disk : Disk) (kept : ℕ) (log : List Change) (op : Op) (user : ℕ) →
    let known = map.get (fold_changes log) user in
    ImagesStand (opened_by opening) disk kept log → IsOf user op → kind_of (view disk) op ≡ None
    → KeepsUser (opened_by opening) disk op user known known
    → ImagesStand (opened_by opening) (with_op disk op) kept log

-- one user's operation that is a change keeps all images with that change in the log
abbrev pub LawOfChanges : Type 0
LawOfChanges = (opening : Opening) (disk : Disk) (kept : ℕ) (log : List Change) (op : Op) (change : Change) →
    let user = owner_of change in
    let known = map.get (fold_changes log) user in
    let known' = map.get (fold_changes (log ++ change ∷ [])) user in
    ImagesStand (opened_by opening) disk kept log → IsOf user op → is_some (kind_of (view disk) op) ≡ true
    → KeepsUser (opened_by opening) disk op user known known'
    → ImagesStand (opened_by opening) (with_op disk op) kept (log ++ change ∷ [])

-- a sync leaves the view alone, with every change durable
abbrev pub LawOfSync : Type 0
LawOfSync = (opening : Opening) (disk : Disk) (kept : ℕ) (log : List Change)
    → ImagesStand (opened_by opening) disk kept log → ImagesStand (opened_by opening) (synced disk) (length log) log

-- a stop leaves one image, which stands for the changes that it keeps
abbrev pub LawOfStop : Type 0
LawOfStop = (opening : Opening) (disk : Disk) (kept : ℕ) (log : List Change) (keep : ℕ) (fills : List Fill)
    → ImagesStand (opened_by opening) disk kept log
    → let survived = kept + changes_in disk.stable (take (min keep (length disk.pending)) disk.pending) in
    ImagesStand (opened_by opening) (stopped disk keep fills) survived (take survived log)

-- the view stands for the whole log
abbrev pub LawOfView : Type 0
LawOfView = (opening : Opening) (disk : Disk) (kept : ℕ) (log : List Change)
    → ImagesStand (opened_by opening) disk kept log → StandsFor (opened_by opening) (view disk) (fold_changes log)

-- where the meaning changes and the disk doesn't, all images go on standing if each user does in each of them
abbrev pub LawOfMeaning : Type 0
LawOfMeaning = (before after : Opening) (disk : Disk) (kept : ℕ) (log : List Change)
    → ((keep : ℕ) (left : Tree) (user : ℕ) (known : Option Record) → keep ≤ length disk.pending
    → IsImage disk.stable (take keep disk.pending) left
    → UserStands (opened_by before) left user known → UserStands (opened_by after) left user known)
    → ImagesStand (opened_by before) disk kept log → ImagesStand (opened_by after) disk kept log
