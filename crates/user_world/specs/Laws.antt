-- The laws of own worlds: what the whole is, user by user, and what each kind of turn leaves of it.
use Rattle.std.specs.Prelude.{◌≡◌, ◌↔◌, ℕ, List, [], drop, None, Contains}
use Rattle.std.specs.FinMap as map
use Rattle.tree_model.specs.declared.ops.Fill.{Fill}
use Rattle.tree_model.specs.Tree.{Tree}
use Rattle.tree_model.specs.Disk.{view, with_op}
use Rattle.tree_model.specs.Sites.{op_of}
use Rattle.tree_model.specs.Parts.{part_of}
use Rattle.journal_model.specs.declared.entries.Change.{Change}
use Rattle.journal_model.specs.Machine.{NoChangeOf}
use Rattle.journal_model.specs.Users.{fold_changes}
use Rattle.user_world.specs.declared.changes.LocalChange.{LocalChange}
use Rattle.user_world.specs.Changes.{change_of, changes_for, known_through}
use Rattle.user_world.specs.Meaning.{Opening, opened_by, PartStands, StandsFor}
use Rattle.user_world.specs.Images.{ImagesStand}
use Rattle.user_world.specs.OwnWorlds.{OwnWorld, Step, own_view, own_record, OwnImagesStand, filled_step}
use Rattle.user_world.specs.Facts.{Later, Fact, Logged, Durable, Holds, AllHold}
use Rattle.user_world.specs.Worlds.{World, own}
use Rattle.user_world.specs.Timelines.{Timeline, IsWorldOf, world_of, own_of, OwnWorldsStand, LeadsTo}
use Rattle.user_world.specs.Timelines.{line_with, settled_line, stopped_line, still_line}
use Rattle.user_world.specs.Turns.{StepShows}

-- a timeline shows one world; in it the user's part of the view, and what the changes make of the user, are the
-- user's own
pub record LooksSame (user : ℕ) (world : World) (line : Timeline) : Type 0 where
  pub one : world_of line ≡ world
  pub view : own_view (own user world) ≡ part_of (view line.disk) user
  pub known : own_record (own user world) ≡ map.get (fold_changes line.log) user
  pub logged : (change : LocalChange) → Holds (Logged change) (own user world)
      → Contains line.log (change_of user change)
  pub durable : Holds Durable (own user world) → NoChangeOf user (drop line.kept line.log)

abbrev pub LawOfOneWorld : Type 0
LawOfOneWorld = (user : ℕ) (world : World) (line : Timeline) → IsWorldOf world line → LooksSame user world line

-- every image stands exactly where, for each user, every image of the user's own world does
abbrev pub LawOfProduct : Type 0
LawOfProduct = (opening : Opening) (world : World) (line : Timeline) → IsWorldOf world line
    → ImagesStand (opened_by opening) line.disk line.kept line.log
    ↔ ((user : ℕ) → OwnImagesStand (opened_by opening) user (own user world))

-- so it is of one tree, as the base of a checkpoint
abbrev pub LawOfBase : Type 0
LawOfBase = (opening : Opening) (base : Tree) (changes : List Change)
    → StandsFor (opened_by opening) base (fold_changes changes)
    ↔ ((user : ℕ)
    → PartStands (opened_by opening) user (part_of base user) (known_through None (changes_for user changes)))

-- facts last, whatever happens between two turns of their user
abbrev pub LawOfFacts : Type 0
LawOfFacts =
    (facts : List Fact) (before after : OwnWorld) → Later before after → AllHold facts before → AllHold facts after

-- a user's step keeps the whole; and where it failed, and put other bytes, too
abbrev pub LawOfStep : Type 0
LawOfStep = (opening : Opening) (line : Timeline) (user : ℕ) (step : Step) (next : List Fact)
    → OwnWorldsStand (opened_by opening) line → StepShows (opened_by opening) user (own_of user line) step next
    → LeadsTo (opened_by opening) user next line (line_with line user step)

abbrev pub LawOfFailure : Type 0
LawOfFailure = (opening : Opening) (line : Timeline) (user : ℕ) (step : Step) (next : List Fact) (fill : Fill)
    → OwnWorldsStand (opened_by opening) line → StepShows (opened_by opening) user (own_of user line) step next
    → step.note ≡ None
    → LeadsTo (opened_by opening) user [] line
    (record line { disk = with_op line.disk (op_of user (filled_step fill step).op) })

-- a sync of any task's settles each user's world
pub record Settles (opening : Opening) (line : Timeline) : Type 0 where
  pub stands : OwnWorldsStand (opened_by opening) (settled_line line)
  pub later : (user : ℕ) → Later (own_of user line) (own_of user (settled_line line))

abbrev pub LawOfSettling : Type 0
LawOfSettling = (opening : Opening) (line : Timeline) → OwnWorldsStand (opened_by opening) line → Settles opening line

-- a stop
abbrev pub LawOfStopping : Type 0
LawOfStopping = (opening : Opening) (line : Timeline) (keep : ℕ) (fills : List Fill)
    → OwnWorldsStand (opened_by opening) line → OwnWorldsStand (opened_by opening) (stopped_line line keep fills)

-- where the disk is set back to a tree that stands for changes, the whole stands for these
abbrev pub LawOfRollback : Type 0
LawOfRollback = (opening : Opening) (base : Tree) (changes : List Change)
    → StandsFor (opened_by opening) base (fold_changes changes)
    → OwnWorldsStand (opened_by opening) (still_line base changes)
