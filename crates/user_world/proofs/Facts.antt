-- Facts last from one turn of a user to the next; and what they are after the user's own step or sync.
use Rattle.std.proofs.Common.{◌≡◌, inl, inr, false, List, [], ◌∷◌, refl, sym, ap, ◌∙◌, subst}
use Rattle.std.specs.Prelude.{Option, Some, Contains}
use Rattle.std.proofs.lemmas.List.Elements.{Contains-push}
use Rattle.tree_model.specs.declared.sites.Site.{Site}
use Rattle.tree_model.specs.declared.sites.LocalOp.{LocalOp}
use Rattle.tree_model.specs.Dir.{Files}
use Rattle.tree_model.specs.Sites.{touches}
use Rattle.tree_model.specs.Parts.{Part, after_local}
use Rattle.tree_model.proofs.Parts.{frame}
use Rattle.journal_model.specs.Users.{Record}
use Rattle.user_world.specs.declared.changes.LocalChange.{LocalChange}
use Rattle.user_world.specs.Changes.{known_through, known_with}
use Rattle.user_world.specs.OwnWorlds.{Step, OwnWorld, own_view, own_log, with_step, settled}
use Rattle.user_world.specs.Facts.{Later, Fact, Knows, Logged, Durable, Still, Here, Always, HereAt, AlwaysAt, Holds}
use Rattle.user_world.specs.Facts.{Sites, Vacant, AllHold}
use Rattle.user_world.proofs.OwnWorlds.{view-step, log-step, record-step, log-settled, image-step, view-image}

settled-fact : (fact : Fact) (own : OwnWorld) → Holds fact own → Holds fact (settled own)
settled-fact (Knows known) own holds = ap (known_through _) (log-settled own) ∙ holds
settled-fact (Logged change) own holds = subst (λ changes. Contains changes change) (sym (log-settled own)) holds
settled-fact Durable own holds = refl
settled-fact Still own holds = refl
settled-fact (Here part) own holds = holds
settled-fact (Always part) own holds = λ left is. is ∙ holds (own_view own) (view-image own.stable own.pending)
settled-fact (HereAt site held) own holds = holds
settled-fact (AlwaysAt site held) own holds = λ left is.
    ap (λ part. part site) is ∙ holds (own_view own) (view-image own.stable own.pending)
settled-fact (Sites sites) own holds = record { there = holds.there; all = holds.all }
settled-fact Vacant own holds = λ left site is.
    ap (λ part. part site) is ∙ holds (own_view own) site (view-image own.stable own.pending)

later-fact : (fact : Fact) (before after : OwnWorld) → Later before after → Holds fact before → Holds fact after
later-fact fact before after later holds = elim later [
  | inl same ↦ subst (Holds fact) (sym same) holds
  | inr set ↦ subst (Holds fact) (sym set) (settled-fact fact before holds)
]

-- what a task rests on lasts until its next turn
pub later-facts : (facts : List Fact) (before after : OwnWorld) → Later before after → AllHold facts before
    → AllHold facts after
later-facts [] before after later holds = tt
later-facts (fact ∷ facts) before after later holds =
    (later-fact fact before after later holds.0, later-facts facts before after later holds.1)

-- facts after the user's own step
module _ (own : OwnWorld) (step : Step) where
  pub knows-step : (known : Option Record) → Holds (Knows known) own
      → Holds (Knows (known_with known step.note)) (with_step own step)
  knows-step known holds = record-step own step ∙ ap (λ k. known_with k step.note) holds

  pub here-step : (part after : Part) → Holds (Here part) own → after_local part step.op ≡ after
      → Holds (Here after) (with_step own step)
  here-step part after holds is = view-step own step ∙ ap (λ p. after_local p step.op) holds ∙ is

  pub always-at-step : (site : Site) (held : Option Files) → touches step.op site ≡ false
      → Holds (AlwaysAt site held) own → Holds (AlwaysAt site held) (with_step own step)
  always-at-step site held apart holds = λ left is.
      let from = image-step own.stable own.pending step left is in
      ap (λ part. part site) from.is ∙ frame from.before from.fill step.op site apart ∙ holds from.before from.image

pub logged-step : (own : OwnWorld) (op : LocalOp) (change : LocalChange)
    → Holds (Logged change) (with_step own (record { op = op; note = Some change }))
logged-step own op change =
    subst (λ changes. Contains changes change) (sym (log-step own (record { op = op; note = Some change })))
    (Contains-push (own_log own) change)

-- and after a sync of any task's: what the view holds, every image holds
pub always-settled : (own : OwnWorld) (part : Part) → Holds (Here part) own → Holds (Always part) (settled own)
always-settled own part holds = λ left is. is ∙ holds
