-- A user's world alone: one more step, and a sync.
use Rattle.std.proofs.Common.{◌≡◌, ℕ, false, List, [], ◌∷◌, ◌++◌, refl, sym, ap, ◌∙◌, subst, append_assoc}
use Rattle.std.specs.Prelude.{Option, Some, None}
use Rattle.std.proofs.lemmas.List.{append-nil}
use Rattle.tree_model.specs.declared.ops.Fill.{Fill}
use Rattle.tree_model.specs.declared.ops.Fill.TheVariants.{Same}
use Rattle.tree_model.specs.declared.sites.Site.TheVariants.{De, Ce, Temp}
use Rattle.tree_model.specs.declared.sites.LocalOp.{LocalOp}
use Rattle.tree_model.specs.Sites.{touches}
use Rattle.tree_model.specs.Parts.{Part, standing, after_local, filled_local}
use Rattle.tree_model.proofs.Parts.{fun_ext, filled_twice, frame}
use Rattle.journal_model.specs.Users.{Record}
use Rattle.user_world.specs.declared.changes.LocalChange.{LocalChange}
use Rattle.user_world.specs.Changes.{known_after, known_through, if_noted, known_with}
use Rattle.user_world.specs.Meaning.{Meaning, PartStands}
use Rattle.user_world.specs.OwnWorlds.{Step, quiet, filled_step, notes, OwnWorld, part_after}
use Rattle.user_world.specs.OwnWorlds.{own_view, own_log, own_record, with_step, settled}
use Rattle.user_world.specs.OwnWorlds.{IsOwnImage, StandThrough, OwnImagesStand, Keeps}

part_after-append : (part : Part) (steps : List Step) (step : Step)
    → part_after part (steps ++ step ∷ []) ≡ after_local (part_after part steps) step.op
part_after-append part [] step = refl
part_after-append part (first ∷ steps) step = part_after-append (after_local part first.op) steps step

-- the view after a step
pub view-step : (own : OwnWorld) (step : Step) → own_view (with_step own step) ≡ after_local (own_view own) step.op
view-step own step = part_after-append own.stable own.pending step

-- a note joins the changes
notes-append : (steps : List Step) (step : Step)
    → notes (steps ++ step ∷ []) ≡ notes steps ++ if_noted step.note (λ change. change) []
notes-append [] step = refl
notes-append (first ∷ steps) step =
    elim first.note as (λ note. if_noted note (λ change. change) (notes (steps ++ step ∷ []))
    ≡ if_noted note (λ change. change) (notes steps) ++ if_noted step.note (λ change. change) []) [
      | None ↦ notes-append steps step
      | Some change ↦ ap (λ cs. change ∷ cs) (notes-append steps step)
    ]

pub log-step : (own : OwnWorld) (step : Step)
    → own_log (with_step own step) ≡ own_log own ++ if_noted step.note (λ change. change) []
log-step own step =
    ap (λ cs. own.durable ++ cs) (notes-append own.pending step) ∙ sym (append_assoc own.durable (notes own.pending) _)

pub known_through-append : (known : Option Record) (changes more : List LocalChange)
    → known_through known (changes ++ more) ≡ known_through (known_through known changes) more
known_through-append known [] more = refl
known_through-append known (change ∷ changes) more = known_through-append (known_after known change) changes more

-- a note before other changes
pub noted-known : (known : Option Record) (note : Option LocalChange) (changes : List LocalChange)
    → known_through known (if_noted note (λ change. change) changes) ≡ known_through (known_with known note) changes
noted-known known None changes = refl
noted-known known (Some change) changes = refl

-- the user's record after a step
pub record-step : (own : OwnWorld) (step : Step)
    → own_record (with_step own step) ≡ known_with (own_record own) step.note
record-step own step =
    ap (known_through None) (log-step own step)
    ∙ known_through-append None (own_log own) _ ∙ noted-known (own_record own) step.note []

pub log-settled : (own : OwnWorld) → own_log (settled own) ≡ own_log own
log-settled own = append-nil (own_log own)

-- an image after a step is an image before it with the step, filled
pub record IsAfter (part : Part) (steps : List Step) (step : Step) (left : Part) : Type 0 where
  pub before : Part
  pub fill : Fill
  pub image : IsOwnImage part steps before
  pub is : left ≡ after_local before (filled_local fill step.op)

pub image-step : (part : Part) (steps : List Step) (step : Step) (left : Part)
    → IsOwnImage part (steps ++ step ∷ []) left
    → IsAfter part steps step left
image-step part [] step left is = record { before = part; fill = is.0; image = refl; is = is.1 }
image-step part (first ∷ steps) step left is =
    let next = image-step (after_local part (filled_local is.0 first.op)) steps step left is.1 in
    record { before = next.before; fill = next.fill; image = (is.0, next.image); is = next.is }

-- the view is an image
pub view-image : (part : Part) (steps : List Step) → IsOwnImage part steps (part_after part steps)
view-image part [] = refl
view-image part (step ∷ steps) = (Same, view-image (after_local part step.op) steps)

module _ (meaning : Meaning) (user : ℕ) where
  -- one more step stands where it keeps each image of all the steps
  stand-append : (part : Part) (known : Option Record) (steps : List Step) (step : Step)
      → StandThrough meaning user part known steps
      → ((left : Part) (fill : Fill) → IsOwnImage part steps left
      → PartStands meaning user left (known_through known (notes steps))
      → PartStands meaning user (after_local left (filled_local fill step.op))
      (known_with (known_through known (notes steps)) step.note))
      → StandThrough meaning user part known (steps ++ step ∷ [])
  stand-append part known [] step stand keeps = (stand, λ fill. keeps part fill refl stand)
  stand-append part known (first ∷ steps) step stand keeps = (
    stand.0,
    λ fill.
        stand-append (after_local part (filled_local fill first.op))
        (known_with known first.note) steps step (stand.1 fill)
        (λ left last is. subst (λ k. PartStands meaning user left k
        → PartStands meaning user (after_local left (filled_local last step.op)) (known_with k step.note))
        (noted-known known first.note (notes steps)) (keeps left last (fill, is))),
  )

  -- so every image keeps standing, also where the step failed and its write left other bytes
  pub images-step : (own : OwnWorld) (step : Step) → OwnImagesStand meaning user own → Keeps meaning user own step
      → (fill : Fill) → OwnImagesStand meaning user (with_step own (filled_step fill step))
  images-step own step stand keeps fill =
      stand-append own.stable (known_through None own.durable) own.pending
      (filled_step fill step) stand (λ left last is.
      let one = filled_twice fill last step.op in
      subst (λ k. PartStands meaning user left k
      → PartStands meaning user (after_local left (filled_local last (filled_local fill step.op)))
      (known_with k step.note)) (known_through-append None own.durable (notes own.pending))
      (subst (λ op. PartStands meaning user left (own_record own)
      → PartStands meaning user (after_local left op) (known_with (own_record own) step.note))
      (sym one.1) (keeps.keeps left one.0 is)))

  -- each image of all the steps stands for the whole record
  stand-last : (part : Part) (known : Option Record) (steps : List Step) (left : Part)
      → StandThrough meaning user part known steps → IsOwnImage part steps left
      → PartStands meaning user left (known_through known (notes steps))
  stand-last part known [] left stand is = subst (λ p. PartStands meaning user p known) (sym is) stand
  stand-last part known (step ∷ steps) left stand is =
      subst (PartStands meaning user left) (sym (noted-known known step.note (notes steps)))
      (stand-last (after_local part (filled_local is.0 step.op))
      (known_with known step.note) steps left (stand.1 is.0) is.1)

  pub stand-head : (part : Part) (known : Option Record) (steps : List Step)
      → StandThrough meaning user part known steps → PartStands meaning user part known
  stand-head part known [] stand = stand
  stand-head part known (step ∷ steps) stand = stand.0

  -- the view is one of them
  pub view-stands : (own : OwnWorld) → OwnImagesStand meaning user own
      → PartStands meaning user (own_view own) (own_record own)
  view-stands own stand =
      subst (PartStands meaning user (own_view own)) (sym (known_through-append None own.durable (notes own.pending)))
      (stand-last own.stable (known_through None own.durable) own.pending (own_view own) stand
      (view-image own.stable own.pending))

  -- a user's standing directories are all that counts
  pub stands-framed : (before after : Part) (known : Option Record) → after De ≡ before De
      → ((slot : _) → after (Ce slot) ≡ before (Ce slot)) → PartStands meaning user before known
      → PartStands meaning user after known
  stands-framed before after None de ce stands = de ∙ stands
  stands-framed before after (Some known) de ce stands =
      subst (λ part. meaning.stands user part known) (sym (fun_ext (standing after) (standing before) at)) stands
    where
      at : (site : _) → standing after site ≡ standing before site
      at De = de
      at (Ce slot) = ce slot
      at Temp = refl

  -- a step with no change at the temporary site alone
  pub keeps-temp : (own : OwnWorld) (op : LocalOp) → touches op De ≡ false
      → ((slot : _) → touches op (Ce slot) ≡ false)
      → Keeps meaning user own (quiet op)
  keeps-temp own op de ce = record {
    keeps = λ left fill is stands. stands-framed left (after_local left (filled_local fill op)) (own_record own)
        (frame left fill op De de) (λ slot. frame left fill op (Ce slot) (ce slot)) stands;
  }

  -- a step with no change, away from the device directory, of a user who isn't there
  pub keeps-absent : (own : OwnWorld) (op : LocalOp) → own_record own ≡ None → touches op De ≡ false
      → Keeps meaning user own (quiet op)
  keeps-absent own op absent apart = record {
    keeps = λ left fill is stands.
        subst (PartStands meaning user (after_local left (filled_local fill op))) (sym absent)
        (frame left fill op De apart ∙ subst (PartStands meaning user left) absent stands);
  }

  -- the view of a user who isn't there has no device directory
  pub absent-view : (own : OwnWorld) → OwnImagesStand meaning user own → own_record own ≡ None → own_view own De ≡ None
  absent-view own stand absent = subst (PartStands meaning user (own_view own)) absent (view-stands own stand)
