-- What any task's call rests on: a step that shows what it has to may be made, its change is told rightly, and where
-- it fails every user's world is kept.
use Rattle.std.proofs.Common.{◌≡◌, ◌≢◌, ℕ, ◌+◌, inl, [], length, refl, sym, ap, ◌∙◌, subst, arith}
use Rattle.std.specs.Prelude.{Option, Some, None, is_some}
use Rattle.tree_model.specs.declared.ops.Fill.TheVariants.{Bytes}
use Rattle.tree_model.specs.declared.sites.LocalOp.{LocalOp}
use Rattle.tree_model.specs.declared.sites.LocalOp.TheVariants.{MakeDir, Write, RenameFile}
use Rattle.tree_model.specs.declared.sites.LocalOp.TheVariants.{RenameDir, RemoveFile, RemoveDir}
use Rattle.tree_model.specs.Tree.{kind_of}
use Rattle.tree_model.specs.Disk.{Disk, view}
use Rattle.tree_model.specs.Sites.{op_of}
use Rattle.tree_model.specs.Parts.{part_of, local_kind, LocalFits}
use Rattle.tree_model.proofs.Parts.{kind-own}
use Rattle.user_world.specs.declared.changes.LocalChange.{LocalChange}
use Rattle.user_world.specs.Changes.{noted_kind}
use Rattle.user_world.specs.Facts.{Later}
use Rattle.user_world.specs.Timelines.{Timeline, own_of, OwnWorldsStand}
use Rattle.user_world.specs.Turns.{StepShows}
use Rattle.user_world.proofs.Timelines.{line-failed, view-shown}
use Rattle.user_world.specs.Meaning.{Meaning}
use Rattle.bench.specs.Bench.{Plain as Seen, IsFailedOp}
use Rattle.bench.specs.Steps.{LeavesDisk}
use Rattle.vold_book.specs.State.{Plain, machine_of}
use Rattle.vold_book.specs.Whole.{Whole}
use Rattle.vold_book.specs.Parts.{count_changes}
use Rattle.vold_book.proofs.Tracked.{count-changes_made}

-- the worlds of users stand where a call failed, and those of other users stay
pub record Keeps (meaning : Meaning) (user : ℕ) (before after : Timeline) : Type 0 where
  pub stands : OwnWorldsStand meaning after
  pub others : (other : ℕ) → other ≢ user → Later (own_of other before) (own_of other after)

pub same-line : (meaning : Meaning) (user : ℕ) (line : Timeline) (disk : Disk) → OwnWorldsStand meaning line
    → disk ≡ line.disk → Keeps meaning user line (record line { disk = disk })
same-line meaning user line disk stands same =
    subst (λ d. Keeps meaning user line (record line { disk = d })) (sym same)
    (record { stands = stands; others = λ other differ. inl refl })

is_noted : (change : Option LocalChange) → is_some (noted_kind change) ≡ is_some change
is_noted None = refl
is_noted (Some change) = refl

no_note : (change : Option LocalChange) → None ≡ noted_kind change → change ≡ None
no_note None e = refl
no_note (Some change) e = cc

module _ (meaning : Meaning) (user : ℕ) (line : Timeline) (change : Option LocalChange)
    (stands : OwnWorldsStand meaning line) where
  -- the device's conditions hold of the view
  pub step-fits : {shown : Meaning} (op : LocalOp)
      → StepShows shown user (own_of user line) (record { op = op; note = change }) []
      → LocalFits (part_of (view line.disk) user) op
  step-fits op shows = subst (λ part. LocalFits part op) (view-shown user _ line stands.shows) shows.fits

  -- whether it makes a change is told rightly
  pub step-told : {shown : Meaning} (op : LocalOp)
      → StepShows shown user (own_of user line) (record { op = op; note = change }) []
      → is_some change ≡ is_some (kind_of (view line.disk) (op_of user op))
  step-told op shows =
      sym (ap is_some (kind-own (view line.disk) user op
      ∙ ap (λ part. local_kind part op) (sym (view-shown user _ line stands.shows)) ∙ shows.noted) ∙ is_noted change)

  -- and where it failed, whatever its change would have meant
  pub step-failed : {shown : Meaning} (op : LocalOp) (disk : Disk)
      → StepShows shown user (own_of user line) (record { op = op; note = change }) []
      → (change ≡ None → StepShows meaning user (own_of user line) (record { op = op; note = change }) [])
      → LeavesDisk line.disk disk user op → Keeps meaning user line (record line { disk = disk })
  step-failed (MakeDir site) disk shows quiet failed = same-line meaning user line disk stands failed
  step-failed (Write site file bytes) disk shows quiet failed =
      let none = no_note change shows.noted in
      let leads = line-failed meaning line user (record { op = Write site file bytes; note = change }) []
      (Bytes failed.0) stands (quiet none) none in
      subst (λ d. Keeps meaning user line (record line { disk = d })) (sym failed.1)
      (record { stands = leads.stands; others = leads.others })
  step-failed (RenameFile site from to) disk shows quiet failed = same-line meaning user line disk stands failed
  step-failed (RenameDir from to) disk shows quiet failed = same-line meaning user line disk stands failed
  step-failed (RemoveFile site file) disk shows quiet failed = same-line meaning user line disk stands failed
  step-failed (RemoveDir site) disk shows quiet failed = same-line meaning user line disk stands failed

-- what a failed operation leaves of the disk
pub failed-disk : (before after : Seen) (user : ℕ) (op : LocalOp) → IsFailedOp before after user op
    → LeavesDisk before.disk after.disk user op
failed-disk before after user (MakeDir site) failed = ap (λ b. b.disk) failed
failed-disk before after user (Write site file bytes) failed = (failed.0, ap (λ b. b.disk) failed.1)
failed-disk before after user (RenameFile site from to) failed = ap (λ b. b.disk) failed
failed-disk before after user (RenameDir from to) failed = ap (λ b. b.disk) failed
failed-disk before after user (RemoveFile site file) failed = ap (λ b. b.disk) failed
failed-disk before after user (RemoveDir site) failed = ap (λ b. b.disk) failed

-- all changes are the durable ones and the pending ones
pub all-changes : (book : Plain) → Whole book
    → length (machine_of book).log ≡ book.tracker.durable + count_changes book.tracker.pending
all-changes book whole =
    let counted = whole.images.counted in
    let durable = whole.agrees.durable in
    let same = ap count_changes whole.agrees.pending
    ∙ count-changes_made book.bench.disk.stable book.bench.disk.pending in
    omega (arith, counted, durable, same)
