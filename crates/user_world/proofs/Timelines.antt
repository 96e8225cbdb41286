-- The whole by users of a disk and its log, through each kind of turn, a stop and a rollback.
use Rattle.std.proofs.Common.{◌≡◌, inl, ℕ, ◌+◌, List, [], ◌∷◌, ◌++◌, length, take, refl, sym, ap, ◌∙◌, subst}
use Rattle.std.proofs.Common.{append_assoc, length-append}
use Rattle.std.specs.Prelude.{◌↔◌, drop, Option, Some, None, min, Contains}
use Rattle.std.specs.FinMap as map
use Rattle.std.proofs.Math.Seq.{take-append_seam, drop-append_seam}
use Rattle.std.proofs.lemmas.List.{append-nil}
use Rattle.tree_model.specs.declared.ops.Fill.{Fill}
use Rattle.tree_model.specs.declared.ops.Fill.TheVariants.{Same}
use Rattle.tree_model.specs.declared.sites.LocalOp.{LocalOp}
use Rattle.tree_model.specs.Tree.{Tree, after_op, applied, kind_of, changes_in}
use Rattle.tree_model.specs.Disk.{view, with_op, synced, stopped, image}
use Rattle.tree_model.specs.Sites.{op_of}
use Rattle.tree_model.specs.Parts.{part_of, local_kind}
use Rattle.tree_model.proofs.Images.{image-IsImage}
use Rattle.tree_model.proofs.Parts.{kind-own, filled-kind, user-op, local-op}
use Rattle.journal_model.specs.declared.entries.Change.{Change}
use Rattle.journal_model.specs.Machine.{NoChangeOf}
use Rattle.journal_model.specs.Users.{fold_changes}
use Rattle.user_world.specs.declared.changes.LocalChange.{LocalChange}
use Rattle.user_world.specs.Changes.{change_of, known_through, changes_for, if_noted, noted_kind}
use Rattle.user_world.specs.Meaning.{Meaning, PartStands, StandsFor}
use Rattle.user_world.specs.Images.{ImagesStand}
use Rattle.user_world.specs.OwnWorlds.{Step, quiet, filled_step, own_view, own_record, with_step, settled}
use Rattle.user_world.specs.OwnWorlds.{OwnImagesStand}
use Rattle.user_world.specs.Facts.{Fact, Logged, Durable, Holds, AllHold, Later}
use Rattle.user_world.specs.Worlds.{Owned, World, ops_of, changes_of, log_of, own}
use Rattle.user_world.specs.Worlds.{with_owned, settled_world, stopped_world, NotesFit}
use Rattle.user_world.specs.Timelines.{Timeline, owned_op, dealt, owned_ops, world_of, IsWorldOf, own_of, WorldStands}
use Rattle.user_world.specs.Timelines.{OwnWorldsStand, line_with, settled_line, stopped_line, still_line, LeadsTo}
use Rattle.user_world.specs.Turns.{StepShows}
use Rattle.user_world.proofs.OwnWorlds.{view-stands, known_through-append, images-step}
use Rattle.user_world.proofs.Worlds.{cases_owner, part-applied, changes-steps, changes_for-append, log-own, known-own}
use Rattle.user_world.proofs.Worlds.{own-step, own-other, own-settled, contains-of, none-of, none-for, local-change_of}
use Rattle.user_world.proofs.Product.{product, fronts, ops-take, cut, front-length, shown}

-- a world is the one that its timeline shows
owned-op : (user : ℕ) (op : LocalOp) (note : Option LocalChange)
    → owned_op (op_of user op) note ≡ record { user = user; step = record { op = op; note = note } }
owned-op user op note =
    λ i. record { user = user-op user op i; step = record { op = local-op user op i; note = note } }

dealt-noted : (user : ℕ) (op : LocalOp) (note : Option LocalChange) (changes : List Change)
    (rest : List Change → List Owned)
    → dealt (noted_kind note) (op_of user op) (if_noted note (change_of user) changes) rest
    ≡ (record { user = user; step = record { op = op; note = note } }) ∷ rest changes
dealt-noted user op None changes rest = ap (λ owned. owned ∷ rest changes) (owned-op user op None)
dealt-noted user op (Some change) changes rest =
    ap (λ c. owned_op (op_of user op) (Some c) ∷ rest changes) (local-change_of user change)
    ∙ ap (λ owned. owned ∷ rest changes) (owned-op user op (Some change))

dealt-out : (tree : Tree) (pending : List Owned) → NotesFit tree pending
    → owned_ops tree (ops_of pending) (changes_of pending) ≡ pending
dealt-out tree [] fit = refl
dealt-out tree (owned ∷ rest) fit =
    let op = op_of owned.user owned.step.op in
    let after = after_op tree op in
    let later = λ (left : List Change). owned_ops after (ops_of rest) left in
    ap (λ kind. dealt kind op (if_noted owned.step.note (change_of owned.user) (changes_of rest)) later) fit.0
    ∙ dealt-noted owned.user owned.step.op owned.step.note (changes_of rest) later
    ∙ ap (λ steps. owned ∷ steps) (dealt-out after rest fit.1)

pub one-world : (world : World) (line : Timeline) → IsWorldOf world line → world_of line ≡ world
one-world world line shows = shown world line (λ l. world_of l ≡ world) shows
    (ap (λ durable. record {
      stable = world.stable;
      durable = durable;
      pending = owned_ops world.stable (ops_of world.pending) (drop (length world.durable) (log_of world));
    }) (take-append_seam world.durable (changes_of world.pending))
    ∙ ap (λ changes. record world { pending = owned_ops world.stable (ops_of world.pending) changes })
    (drop-append_seam world.durable (changes_of world.pending))
    ∙ ap (λ pending. record world { pending = pending }) (dealt-out world.stable world.pending shows.fit))

-- any world that stands is the one shown
pub stands-shown : (meaning : Meaning) (world : World) (line : Timeline) → WorldStands meaning world line
    → OwnWorldsStand meaning line
stands-shown meaning world line stands =
    subst (λ w. WorldStands meaning w line) (sym (one-world world line stands.shows)) stands

-- one more step of a user's
ops-append : (pending : List Owned) (owned : Owned)
    → ops_of (pending ++ owned ∷ []) ≡ ops_of pending ++ op_of owned.user owned.step.op ∷ []
ops-append [] owned = refl
ops-append (first ∷ rest) owned = ap (λ ops. op_of first.user first.step.op ∷ ops) (ops-append rest owned)

changes-append : (pending : List Owned) (owned : Owned)
    → changes_of (pending ++ owned ∷ []) ≡ changes_of pending ++ if_noted owned.step.note (change_of owned.user) []
changes-append [] owned = refl
changes-append (first ∷ rest) owned =
    elim first.step.note as (λ note. if_noted note (change_of first.user) (changes_of (rest ++ owned ∷ []))
    ≡ if_noted note (change_of first.user) (changes_of rest) ++ if_noted owned.step.note (change_of owned.user) []) [
      | None ↦ changes-append rest owned
      | Some change ↦ ap (λ cs. change_of first.user change ∷ cs) (changes-append rest owned)
    ]

fit-append : (tree : Tree) (pending : List Owned) (owned : Owned) → NotesFit tree pending
    → kind_of (applied tree (ops_of pending)) (op_of owned.user owned.step.op) ≡ noted_kind owned.step.note
    → NotesFit tree (pending ++ owned ∷ [])
fit-append tree [] owned fit noted = (noted, tt)
fit-append tree (first ∷ rest) owned fit noted =
    (fit.0, fit-append (after_op tree (op_of first.user first.step.op)) rest owned fit.1 noted)

shows-step : (world : World) (line : Timeline) (user : ℕ) (step : Step) → IsWorldOf world line
    → local_kind (own_view (own user world)) step.op ≡ noted_kind step.note
    → IsWorldOf (with_owned world user step) (line_with line user step)
shows-step world line user step shows noted =
    let owned : Owned = record { user = user; step = step } in record {
      is_disk = ap (λ d. with_op d (op_of user step.op)) shows.is_disk
          ∙ ap (λ ops. record { stable = world.stable; pending = ops }) (sym (ops-append world.pending owned));
      is_log = ap (λ cs. cs ++ if_noted step.note (change_of user) []) shows.is_log
          ∙ append_assoc world.durable (changes_of world.pending) _
          ∙ ap (λ cs. world.durable ++ cs) (sym (changes-append world.pending owned));
      is_kept = shows.is_kept;
      fit = fit-append world.stable world.pending owned shows.fit
          (kind-own (applied world.stable (ops_of world.pending)) user step.op
          ∙ ap (λ part. local_kind part step.op) (part-applied user world.stable world.pending) ∙ noted);
    }

module _ (meaning : Meaning) where
  leads : (line after : Timeline) (user : ℕ) (step : Step) (next : List Fact)
      → IsWorldOf (with_owned (world_of line) user step) after → OwnWorldsStand meaning line
      → OwnImagesStand meaning user (own user (with_owned (world_of line) user step))
      → AllHold next (own user (with_owned (world_of line) user step)) → LeadsTo meaning user next line after
  leads line after user step next shows stands mine rests =
      let world = world_of line in
      let world' = with_owned world user step in
      let is = sym (one-world world' after shows) in record {
        stands = stands-shown meaning world' after (record {
          shows = shows;
          images = λ other. cases_owner other user (λ t. OwnImagesStand meaning other (own other world'))
              (λ same. subst (λ u. OwnImagesStand meaning u (own u world')) (sym same) mine)
              (λ differ. subst (OwnImagesStand meaning other)
              (sym (own-other other world user step (λ e. differ (sym e))))
              (stands.images other));
        });
        rests = subst (λ w. AllHold next (own user w)) is rests;
        others = λ other differ. subst (λ w. Later (own other world) (own other w)) is
            (inl (own-other other world user step (λ e. differ (sym e))));
      }

  -- a user's step
  pub line-step : (line : Timeline) (user : ℕ) (step : Step) (next : List Fact) → OwnWorldsStand meaning line
      → StepShows meaning user (own_of user line) step next → LeadsTo meaning user next line (line_with line user step)
  line-step line user step next stands step_shows =
      let world = world_of line in
      leads line (line_with line user step) user step next
      (shows-step world line user step stands.shows step_shows.noted) stands
      (subst (OwnImagesStand meaning user) (sym (own-step user world step))
      (images-step meaning user (own user world) step (stands.images user) step_shows.keeps Same))
      (subst (AllHold next) (sym (own-step user world step)) step_shows.leads)

  -- the user's own world then
  pub own-operated : (line : Timeline) (user : ℕ) (step : Step) → OwnWorldsStand meaning line
      → local_kind (own_view (own_of user line)) step.op ≡ noted_kind step.note
      → own_of user (line_with line user step) ≡ with_step (own_of user line) step
  own-operated line user step stands noted =
      ap (own user) (one-world (with_owned (world_of line) user step) (line_with line user step)
      (shows-step (world_of line) line user step stands.shows noted)) ∙ own-step user (world_of line) step

  -- one that makes no change
  pub line-quiet : (line : Timeline) (user : ℕ) (op : LocalOp) (next : List Fact) → OwnWorldsStand meaning line
      → StepShows meaning user (own_of user line) (quiet op) next
      → LeadsTo meaning user next line (record line { disk = with_op line.disk (op_of user op) })
  line-quiet line user op next stands step_shows =
      subst (λ cs. LeadsTo meaning user next line (record line { disk = with_op line.disk (op_of user op); log = cs }))
      (append-nil line.log) (line-step line user (quiet op) next stands step_shows)

  -- one with no change that failed and left other bytes
  pub line-failed : (line : Timeline) (user : ℕ) (step : Step) (next : List Fact) (fill : Fill)
      → OwnWorldsStand meaning line → StepShows meaning user (own_of user line) step next → step.note ≡ None
      → LeadsTo meaning user [] line (record line { disk = with_op line.disk (op_of user (filled_step fill step).op) })
  line-failed line user step next fill stands step_shows none =
      let world = world_of line in
      let failed = filled_step fill step in
      let after = line_with line user failed in
      subst (LeadsTo meaning user [] line)
      (ap (λ note. record after { log = line.log ++ if_noted note (change_of user) [] }) none
      ∙ ap (λ cs. record after { log = cs }) (append-nil line.log))
      (leads line after user failed []
      (shows-step world line user failed stands.shows
      (filled-kind (own_view (own user world)) fill step.op ∙ step_shows.noted)) stands
      (subst (OwnImagesStand meaning user) (sym (own-step user world failed))
      (images-step meaning user (own user world) step (stands.images user) step_shows.keeps fill))
      tt)

  -- a sync, of any task's or of none
  settled-stands : (line : Timeline) → OwnWorldsStand meaning line
      → WorldStands meaning (settled_world (world_of line)) (settled_line line)
  settled-stands line stands =
      let world = world_of line in record {
        shows = record {
          is_disk = ap synced stands.shows.is_disk;
          is_log = stands.shows.is_log ∙ sym (append-nil (log_of world));
          is_kept = ap length stands.shows.is_log;
          fit = tt;
        };
        images = λ user. subst (OwnImagesStand meaning user) (sym (own-settled user world))
            (view-stands meaning user (own user world) (stands.images user));
      }

  pub line-settled : (line : Timeline) → OwnWorldsStand meaning line → OwnWorldsStand meaning (settled_line line)
  line-settled line stands = stands-shown meaning _ _ (settled-stands line stands)

  pub own-synced : (line : Timeline) (user : ℕ) → OwnWorldsStand meaning line
      → own_of user (settled_line line) ≡ settled (own_of user line)
  own-synced line user stands =
      ap (own user) (one-world (settled_world (world_of line)) (settled_line line) (settled-stands line stands).shows)
      ∙ own-settled user (world_of line)

  -- a stop
  stopped-shows : (world : World) (keep n : ℕ) (fills : List Fill) → NotesFit world.stable world.pending
      → n ≡ min keep (length (ops_of world.pending))
      → let survived = length world.durable + changes_in world.stable (take n (ops_of world.pending)) in
      IsWorldOf (stopped_world world n fills) (record {
        disk = stopped (record { stable = world.stable; pending = ops_of world.pending }) keep fills;
        kept = survived;
        log = take survived (log_of world);
      })
  stopped-shows world keep n fills fit is = record {
    is_disk =
        ap (λ k. record { stable = image world.stable (take k (ops_of world.pending)) fills; pending = [] }) (sym is)
        ∙ ap (λ ops. record { stable = image world.stable ops fills; pending = [] }) (sym (ops-take world.pending n));
    is_log = cut world n fit ∙ sym (append-nil (world.durable ++ changes_of (take n world.pending)));
    is_kept = ap (λ k. length world.durable + k) (front-length world n fit)
        ∙ sym (length-append world.durable (changes_of (take n world.pending)));
    fit = tt;
  }

  pub line-stopped : (line : Timeline) (keep : ℕ) (fills : List Fill) → OwnWorldsStand meaning line
      → OwnWorldsStand meaning (stopped_line line keep fills)
  line-stopped line keep fills stands =
      let world = world_of line in
      let n = min keep (length (ops_of world.pending)) in
      let front = changes_of (take n world.pending) in
      shown world line (λ l. OwnWorldsStand meaning (stopped_line l keep fills)) stands.shows
      (stands-shown meaning (stopped_world world n fills) _ (record {
        shows = stopped-shows world keep n fills stands.shows.fit refl;
        images = λ user.
            subst (PartStands meaning user (part_of (image world.stable (ops_of (take n world.pending)) fills) user))
            (sym (ap (known_through None) (changes_for-append user world.durable front)
            ∙ known_through-append None (changes_for user world.durable) (changes_for user front)))
            (fronts meaning user world.pending n world.stable _ _ (stands.images user)
            (image-IsImage world.stable (ops_of (take n world.pending)) fills));
      }))

  -- a tree stands for what changes make exactly where each user's part does
  pub base-own : (base : Tree) (changes : List Change) → StandsFor meaning base (fold_changes changes)
      ↔ ((user : ℕ) → PartStands meaning user (part_of base user) (known_through None (changes_for user changes)))
  base-own base changes = (
    λ stands user. subst (PartStands meaning user (part_of base user)) (known-own user changes) (stands.user user),
    λ own. record {
      user = λ user. subst (PartStands meaning user (part_of base user)) (sym (known-own user changes)) (own user);
    },
  )

  pub line-still : (base : Tree) (changes : List Change) → StandsFor meaning base (fold_changes changes)
      → OwnWorldsStand meaning (still_line base changes)
  line-still base changes stands =
      stands-shown meaning (record { stable = base; durable = changes; pending = [] }) _ (record {
        shows = record { is_disk = refl; is_log = sym (append-nil changes); is_kept = refl; fit = tt };
        images = λ user. (base-own base changes).0 stands user;
      })

  -- every image stands for a front of the log
  pub line-images : (line : Timeline) → OwnWorldsStand meaning line → ImagesStand meaning line.disk line.kept line.log
  line-images line stands = (product meaning (world_of line) line stands.shows).1 stands.images

-- the user's world in the view, in the map, and in the log
module _ (user : ℕ) (world : World) (line : Timeline) (shows : IsWorldOf world line) where
  pub view-shown : own_view (own user world) ≡ part_of (view line.disk) user
  view-shown = sym (ap (λ d. part_of (view d) user) shows.is_disk ∙ part-applied user world.stable world.pending)

  pub known-shown : own_record (own user world) ≡ map.get (fold_changes line.log) user
  known-shown = sym (ap (λ cs. map.get (fold_changes cs) user) shows.is_log ∙ known-own user (log_of world)
      ∙ ap (known_through None) (log-own user world))

  pub logged-shown : (change : LocalChange) → Holds (Logged change) (own user world)
      → Contains line.log (change_of user change)
  logged-shown change holds =
      subst (λ cs. Contains cs (change_of user change)) (sym shows.is_log)
      (contains-of user (log_of world) change (subst (λ cs. Contains cs change) (sym (log-own user world)) holds))

  undurable : drop line.kept line.log ≡ changes_of world.pending
  undurable = ap (λ n. drop n line.log) shows.is_kept ∙ ap (drop (length world.durable)) shows.is_log
      ∙ drop-append_seam world.durable (changes_of world.pending)

  pub durable-held : NoChangeOf user (drop line.kept line.log) → Holds Durable (own user world)
  durable-held none = sym (changes-steps user world.pending)
      ∙ none-for user (changes_of world.pending) (subst (NoChangeOf user) undurable none)

  pub durable-shown : Holds Durable (own user world) → NoChangeOf user (drop line.kept line.log)
  durable-shown holds =
      subst (NoChangeOf user)
      (sym undurable)
      (none-of user (changes_of world.pending) (changes-steps user world.pending ∙ holds))
