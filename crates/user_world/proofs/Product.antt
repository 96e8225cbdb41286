-- The whole stands exactly where each user's world stands.
use Rattle.std.proofs.Common.{◌≡◌, ◌≢◌, ℕ, ◌+◌, ◌≤◌, zero, suc, cond, List, [], ◌∷◌, ◌++◌, length, take, refl, sym}
use Rattle.std.proofs.Common.{ap, ◌∙◌, subst, arith, length-append}
use Rattle.std.specs.Prelude.{◌↔◌, Option, Some, None, is_some}
use Rattle.std.specs.FinMap as map
use Rattle.std.proofs.Math.Seq.{take-append-add}
use Rattle.tree_model.specs.declared.ops.Fill.TheVariants.{Same}
use Rattle.tree_model.specs.declared.sites.LocalOp.{LocalOp}
use Rattle.tree_model.specs.Tree.{Tree, after_op, changes_in}
use Rattle.tree_model.specs.Disk.{filled, IsImage}
use Rattle.tree_model.specs.Sites.{op_of}
use Rattle.tree_model.specs.Parts.{part_of}
use Rattle.journal_model.specs.declared.entries.Change.{Change}
use Rattle.journal_model.specs.Users.{Record, fold_changes}
use Rattle.user_world.specs.declared.changes.LocalChange.{LocalChange}
use Rattle.user_world.specs.Changes.{change_of, known_through, changes_for, if_noted, noted_kind, known_with}
use Rattle.user_world.specs.Meaning.{Meaning, PartStands}
use Rattle.user_world.specs.Images.{ImagesStand}
use Rattle.user_world.specs.OwnWorlds.{Step, StandThrough, OwnImagesStand}
use Rattle.user_world.specs.Worlds.{Owned, World, ops_of, changes_of, disk_of, log_of, steps_of, own, NotesFit}
use Rattle.user_world.specs.Timelines.{Timeline, IsWorldOf}
use Rattle.user_world.proofs.OwnWorlds.{known_through-append, noted-known, stand-head}
use Rattle.user_world.proofs.Worlds.{cases_owner, after-mine, after-theirs, noted-for, changes_for-append, known-own}

-- a noted change of the user's, and one of another's
module _ (user owner : ℕ) (known : Option Record) (note : Option LocalChange) (changes : List Change) where
  mine-known : owner ≡ user
      → known_through known (changes_for user (if_noted note (change_of owner) changes))
      ≡ known_through (known_with known note) (changes_for user changes)
  mine-known same =
      let mine = if_noted note (λ change. change) (changes_for user changes) in
      ap (known_through known) (noted-for user owner note changes
      ∙ cases_owner owner user (λ t. cond t mine (changes_for user changes) ≡ mine) (λ e. refl)
      (λ differ. absurd (differ same)))
      ∙ noted-known known note (changes_for user changes)

  theirs-known : owner ≢ user
      → known_through known (changes_for user (if_noted note (change_of owner) changes))
      ≡ known_through known (changes_for user changes)
  theirs-known differ =
      let mine = if_noted note (λ change. change) (changes_for user changes) in
      ap (known_through known) (noted-for user owner note changes
      ∙ cases_owner owner user (λ t. cond t mine (changes_for user changes) ≡ changes_for user changes)
      (λ same. absurd (differ same)) (λ e. refl))

-- what the user's record is after a front of the pending steps
abbrev known_at : ℕ → Option Record → ℕ → List Owned → Option Record
known_at user known keep pending = known_through known (changes_for user (changes_of (take keep pending)))

module _ (meaning : Meaning) (user : ℕ) where
  -- from the user's world to each image of the whole
  pub fronts : (pending : List Owned) (keep : ℕ) (tree left : Tree) (known : Option Record)
      → StandThrough meaning user (part_of tree user) known (steps_of user pending)
      → IsImage tree (ops_of (take keep pending)) left
      → PartStands meaning user (part_of left user) (known_at user known keep pending)
  fronts [] zero tree left known stand is = subst (λ t. PartStands meaning user (part_of t user) known) (sym is) stand
  fronts [] (suc keep) tree left known stand is =
      subst (λ t. PartStands meaning user (part_of t user) known) (sym is) stand
  fronts (owned ∷ rest) zero tree left known stand is =
      subst (λ t. PartStands meaning user (part_of t user) known) (sym is)
      (stand-head meaning user (part_of tree user) known (steps_of user (owned ∷ rest)) stand)
  fronts (owned ∷ rest) (suc keep) tree left known stand is =
      cases_owner owned.user user (λ t.
      StandThrough meaning user (part_of tree user) known (cond t (owned.step ∷ steps) steps)
      → PartStands meaning user (part_of left user) (known_at user known (suc keep) (owned ∷ rest)))
      (λ same stand.
      subst (PartStands meaning user (part_of left user)) (sym (mine-known user owned.user known note later same))
      (fronts rest keep after left (known_with known note)
      (subst (λ part. StandThrough meaning user part (known_with known note) steps)
      (sym (after-mine tree is.0 owned.user user op same)) (stand.1 is.0)) is.1))
      (λ differ stand.
      subst (PartStands meaning user (part_of left user)) (sym (theirs-known user owned.user known note later differ))
      (fronts rest keep after left known
      (subst (λ part. StandThrough meaning user part known steps)
      (sym (after-theirs tree is.0 owned.user user op differ)) stand) is.1))
      stand
    where
      op : LocalOp
      op = owned.step.op

      note : Option LocalChange
      note = owned.step.note

      steps : List Step
      steps = steps_of user rest

      later : List Change
      later = changes_of (take keep rest)

      after : Tree
      after = after_op tree (filled is.0 (op_of owned.user op))

  -- and back
  pub through : (pending : List Owned) (tree : Tree) (known : Option Record)
      → ((keep : ℕ) (left : Tree) → keep ≤ length pending → IsImage tree (ops_of (take keep pending)) left
      → PartStands meaning user (part_of left user) (known_at user known keep pending))
      → StandThrough meaning user (part_of tree user) known (steps_of user pending)
  through [] tree known stands = stands zero tree (omega arith) refl
  through (owned ∷ rest) tree known stands =
      let op = owned.step.op in
      let note = owned.step.note in
      let steps = steps_of user rest in
      cases_owner owned.user user (λ t.
      StandThrough meaning user (part_of tree user) known (cond t (owned.step ∷ steps) steps))
      (λ same. (
        stands zero tree (omega arith) refl,
        λ fill. subst (λ part. StandThrough meaning user part (known_with known note) steps)
            (after-mine tree fill owned.user user op same)
            (through rest (after_op tree (filled fill (op_of owned.user op))) (known_with known note)
            (λ keep left short is. subst (PartStands meaning user (part_of left user))
            (mine-known user owned.user known note (changes_of (take keep rest)) same)
            (stands (suc keep) left (omega arith) (fill, is)))),
      ))
      (λ differ. subst (λ part. StandThrough meaning user part known steps)
      (after-theirs tree Same owned.user user op differ)
      (through rest (after_op tree (op_of owned.user op)) known
      (λ keep left short is. subst (PartStands meaning user (part_of left user))
      (theirs-known user owned.user known note (changes_of (take keep rest)) differ)
      (stands (suc keep) left (omega arith) (Same, is)))))

pub ops-take : (pending : List Owned) (keep : ℕ) → ops_of (take keep pending) ≡ take keep (ops_of pending)
ops-take [] zero = refl
ops-take [] (suc keep) = refl
ops-take (owned ∷ rest) zero = refl
ops-take (owned ∷ rest) (suc keep) = ap (λ ops. op_of owned.user owned.step.op ∷ ops) (ops-take rest keep)

length-ops : (pending : List Owned) → length (ops_of pending) ≡ length pending
length-ops [] = refl
length-ops (owned ∷ rest) = ap suc (length-ops rest)

fit-take : (tree : Tree) (pending : List Owned) (keep : ℕ) → NotesFit tree pending → NotesFit tree (take keep pending)
fit-take tree [] zero fit = tt
fit-take tree [] (suc keep) fit = tt
fit-take tree (owned ∷ rest) zero fit = tt
fit-take tree (owned ∷ rest) (suc keep) fit =
    (fit.0, fit-take (after_op tree (op_of owned.user owned.step.op)) rest keep fit.1)

length-noted : (owner : ℕ) (note : Option LocalChange) (changes : List Change)
    → length (if_noted note (change_of owner) changes) ≡ cond (is_some (noted_kind note)) 1 0 + length changes
length-noted owner None changes = omega arith
length-noted owner (Some change) changes = omega arith

-- as many changes are counted as are noted
counts : (tree : Tree) (pending : List Owned) → NotesFit tree pending
    → changes_in tree (ops_of pending) ≡ length (changes_of pending)
counts tree [] fit = refl
counts tree (owned ∷ rest) fit =
    let after = after_op tree (op_of owned.user owned.step.op) in
    ap (λ kind. cond (is_some kind) 1 0 + changes_in after (ops_of rest)) fit.0
    ∙ ap (λ n. cond (is_some (noted_kind owned.step.note)) 1 0 + n) (counts after rest fit.1)
    ∙ sym (length-noted owned.user owned.step.note (changes_of rest))

front-noted : (note : Option LocalChange) (to : LocalChange → Change) (front changes : List Change)
    → take (length front) changes ≡ front
    → take (length (if_noted note to front)) (if_noted note to changes) ≡ if_noted note to front
front-noted None to front changes is = is
front-noted (Some change) to front changes is = ap (λ cs. to change ∷ cs) is

front-changes : (pending : List Owned) (keep : ℕ)
    → take (length (changes_of (take keep pending))) (changes_of pending) ≡ changes_of (take keep pending)
front-changes [] zero = refl
front-changes [] (suc keep) = refl
front-changes (owned ∷ rest) zero = refl
front-changes (owned ∷ rest) (suc keep) =
    front-noted owned.step.note (change_of owned.user) (changes_of (take keep rest)) (changes_of rest)
    (front-changes rest keep)

module _ (world : World) (keep : ℕ) (fit : NotesFit world.stable world.pending) where
  -- how many changes a front of the pending operations makes
  pub front-length : changes_in world.stable (take keep (ops_of world.pending))
      ≡ length (changes_of (take keep world.pending))
  front-length =
      ap (changes_in world.stable) (sym (ops-take world.pending keep))
      ∙ counts world.stable (take keep world.pending) (fit-take world.stable world.pending keep fit)

  -- the changes up to a front of the pending steps
  pub cut : take (length world.durable + changes_in world.stable (take keep (ops_of world.pending))) (log_of world)
      ≡ world.durable ++ changes_of (take keep world.pending)
  cut =
      ap (λ n. take (length world.durable + n) (log_of world)) front-length
      ∙ take-append-add world.durable (changes_of world.pending) (length (changes_of (take keep world.pending)))
      ∙ ap (λ cs. world.durable ++ cs) (front-changes world.pending keep)

  known-cut : (user : ℕ)
      → map.get (fold_changes
      (take (length world.durable + changes_in world.stable (take keep (ops_of world.pending))) (log_of world))) user
      ≡ known_at user (known_through None (changes_for user world.durable)) keep world.pending
  known-cut user =
      let front = changes_of (take keep world.pending) in
      ap (λ cs. map.get (fold_changes cs) user) cut
      ∙ known-own user (world.durable ++ front)
      ∙ ap (known_through None) (changes_for-append user world.durable front)
      ∙ known_through-append None (changes_for user world.durable) (changes_for user front)

module _ (meaning : Meaning) (world : World) (fit : NotesFit world.stable world.pending) where
  -- where all images stand, each user's do
  whole-own : ImagesStand meaning (disk_of world) (length world.durable) (log_of world) → (user : ℕ)
      → OwnImagesStand meaning user (own user world)
  whole-own stand user =
      through meaning user world.pending world.stable (known_through None (changes_for user world.durable))
      (λ keep left short is.
      let stands = stand.stands keep left (subst (λ n. keep ≤ n) (sym (length-ops world.pending)) short)
      (subst (λ ops. IsImage world.stable ops left) (ops-take world.pending keep) is) in
      subst (PartStands meaning user (part_of left user)) (known-cut world keep fit user) (stands.user user))

  -- and back
  own-whole : ((user : ℕ) → OwnImagesStand meaning user (own user world))
      → ImagesStand meaning (disk_of world) (length world.durable) (log_of world)
  own-whole stand = record {
    counted = length-append world.durable (changes_of world.pending)
        ∙ ap (λ n. length world.durable + n) (sym (counts world.stable world.pending fit));
    stands = λ keep left short is. record {
      user = λ user. subst (PartStands meaning user (part_of left user)) (sym (known-cut world keep fit user))
          (fronts meaning user world.pending keep world.stable left _ (stand user)
          (subst (λ ops. IsImage world.stable ops left) (sym (ops-take world.pending keep)) is));
    };
  }

-- what holds of the timeline of a world
pub shown : (world : World) (line : Timeline) (P : Timeline → Type 0) → IsWorldOf world line
    → P (record { disk = disk_of world; kept = length world.durable; log = log_of world }) → P line
shown world line P shows here =
    subst (λ d. P (record line { disk = d })) (sym shows.is_disk)
    (subst (λ n. P (record { disk = disk_of world; kept = n; log = line.log })) (sym shows.is_kept)
    (subst (λ log. P (record { disk = disk_of world; kept = length world.durable; log = log }))
    (sym shows.is_log) here))

pub product : (meaning : Meaning) (world : World) (line : Timeline) → IsWorldOf world line
    → ImagesStand meaning line.disk line.kept line.log ↔ ((user : ℕ) → OwnImagesStand meaning user (own user world))
product meaning world line shows =
    shown world line
    (λ l. ImagesStand meaning l.disk l.kept l.log ↔ ((user : ℕ) → OwnImagesStand meaning user (own user world))) shows
    (whole-own meaning world shows.fit, own-whole meaning world shows.fit)
