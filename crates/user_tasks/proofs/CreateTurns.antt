-- Each turn of a create shows what it has to, up to the one that makes its user.
use Rattle.std.proofs.Common.{◌≡◌, [], ◌≢◌, ℕ, refl, sym, ap, ◌∙◌, subst, arith, inl}
use Rattle.std.specs.Prelude.{false, Option, Some, None, is_some, Result, Ok, Err, IfOk}
use Rattle.tree_model.specs.declared.blobs.Blob.{Blob}
use Rattle.tree_model.specs.declared.places.Class.TheVariants.{De as ForDe, Ce as ForCe}
use Rattle.tree_model.specs.declared.places.Place.TheVariants.{De as DePlace, Ce as CePlace}
use Rattle.tree_model.specs.declared.places.Slot.TheVariants.{Current, Cx}
use Rattle.tree_model.specs.declared.sites.Site.{Site}
use Rattle.tree_model.specs.declared.sites.Site.TheVariants.{De, Ce, Temp}
use Rattle.tree_model.specs.declared.sites.LocalOp.{LocalOp}
use Rattle.tree_model.specs.declared.sites.LocalOp.TheVariants.{RenameDir, RemoveDir}
use Rattle.tree_model.specs.Sites.{site_of, touches}
use Rattle.tree_model.specs.Tree.{kind_if, Drop as DropKind}
use Rattle.keystore_model.specs.declared.entry.Tag.{Tag}
use Rattle.journal_model.specs.declared.entries.Birth.{Birth}
use Rattle.journal_model.specs.Users.{Record}
use Rattle.user_world.specs.declared.changes.LocalChange.TheVariants.{Born}
use Rattle.user_world.specs.OwnWorlds.{OwnWorld, quiet, own_view, own_record, OwnImagesStand}
use Rattle.user_world.specs.Turns.{StepShows}
use Rattle.user_world.proofs.OwnWorlds.{keeps-absent, absent-view}
use Rattle.user_world.proofs.Facts.{knows-step}
use Rattle.key_directory.specs.Vaults.{sealed}
use Rattle.task_turns.specs.declared.calls.Answer.{Answer}
use Rattle.task_turns.specs.declared.calls.Answer.TheVariants.{Done}
use Rattle.task_turns.specs.declared.calls.Call.TheVariants.{Op as OpCall}
use Rattle.task_turns.specs.declared.next.Next.{Next}
use Rattle.task_turns.specs.declared.next.Next.TheVariants.{Call as CallNext}
use Rattle.task_turns.specs.Names.{Gains}
use Rattle.task_turns.specs.Shares.{Share, Has, AllHas, IsHeld}
use Rattle.task_turns.specs.Turns.{seen_of, Scene, TurnShows, CallShows, drops_at}
use Rattle.store_task.specs.declared.turns.StoreSpec.{StoreSpec}
use Rattle.store_task.specs.declared.stages.Stage.{Stage as StoreStage}
use Rattle.store_task.specs.declared.stages.Stage.TheVariants.{First, Tied, Generated, Storing}
use Rattle.store_task.specs.declared.stages.Progress.{Progress}
use Rattle.store_task.specs.declared.stages.Progress.TheVariants.{Absent, Made, Versioned, Discardable, Named, Keyed}
use Rattle.store_task.specs.declared.stages.Progress.TheVariants.{Settled, Stored}
use Rattle.store_task.specs.Task.{IsAnswer, Task, held_by, held_at, held_of, progress_of}
use Rattle.store_task.specs.Turns.{TreeShows, PutsInPlace}
use Rattle.store_task.proofs.HeldBlobs.{sealing-held}
use Rattle.store_task.proofs.ShownTurns.{off-temp, sealing-stays}
use Rattle.user_tasks.specs.declared.creates.Stage.{Stage}
use Rattle.user_tasks.specs.declared.creates.Stage.TheVariants.{Clearing, StoringCe, StoringDe}
use Rattle.user_tasks.specs.declared.looks.Looks.{Looks}
use Rattle.user_tasks.specs.Looks.{IsNextToClear}
use Rattle.user_tasks.specs.Create.{Creating, Stores, IsStage, IsCreating, IsCreate, create_rest, rest_at}
use Rattle.user_tasks.specs.Create.{ce_frame, de_frame}
use Rattle.user_tasks.specs.Create.{sealed_at, after, after_ce, after_de, hears, creates}
use Rattle.user_tasks.specs.Stores.{op_turn, IsStoreTurn}
use Rattle.user_tasks.specs.Tasks.{UserTurns}
use Rattle.blob_custody.proofs.Steps.{lets-none}
use Rattle.fixate_task.proofs.Fixing.{removal-gains}
use Rattle.user_tasks.proofs.AsideOps.{aside-step, aside-gains}
use Rattle.user_tasks.proofs.Cleared.{IsCleared, not-done, as-cleared}
use Rattle.user_tasks.proofs.Placing.{IsWritten, written-at, ce-put, de-put}
use Rattle.user_tasks.proofs.Whole.{same-parts}
use Rattle.user_tasks.proofs.Leading.{leads-to}
use Rattle.user_tasks.proofs.Writing.{IsFramed, store-has, framed-shows}
use Rattle.user_tasks.specs.declared.tasks.UserTask.TheVariants.{Create as OfCreate}

-- the stage stays where the directory isn't at its place
ce-goes_on : (progress : Progress) → progress ≢ Stored → after_ce progress ≡ StoringCe
ce-goes_on Absent on = refl
ce-goes_on Made on = refl
ce-goes_on Versioned on = refl
ce-goes_on Discardable on = refl
ce-goes_on Named on = refl
ce-goes_on Keyed on = refl
ce-goes_on Settled on = refl
ce-goes_on Stored on = absurd (on refl)

de-goes_on : (progress : Progress) → progress ≢ Stored → after_de progress ≡ StoringDe
de-goes_on Absent on = refl
de-goes_on Made on = refl
de-goes_on Versioned on = refl
de-goes_on Discardable on = refl
de-goes_on Named on = refl
de-goes_on Keyed on = refl
de-goes_on Settled on = refl
de-goes_on Stored on = absurd (on refl)

-- how the stored key is sealed is no matter of the user's world, and its blob is held
sealed-stays : (spec : StoreSpec) (stage : StoreStage) (share : Share) (own : OwnWorld)
    → Has (sealed_at spec stage) share → Has (sealed_at spec stage) (record share { own = own })
sealed-stays spec First share own has = has
sealed-stays spec (Tied app_id) share own has = has
sealed-stays spec (Generated app_id blob) share own has = has
sealed-stays spec (Storing blob text progress) share own has =
    sealing-stays spec blob text share own has

sealed-held : (spec : StoreSpec) (stage : StoreStage) → IsHeld (held_at stage) (sealed_at spec stage)
sealed-held spec First = tt
sealed-held spec (Tied app_id) = tt
sealed-held spec (Generated app_id blob) = tt
sealed-held spec (Storing blob text progress) = sealing-held spec blob text

module _ (user : ℕ) (birth : Birth) (ce de : Task) where
  abbrev at : Stage → Creating
  at stage = record { user = user; birth = birth; ce = ce; de = de; stage = stage }

  module _ (ce_stores : Stores user ForCe (CePlace user Current) ce) where
    ce-framed : IsFramed creates (at StoringCe) (ce_frame (at StoringCe)) ce
    ce-framed = record {
      rests = refl;
      hears = λ answer answers. answers;
      goes_on = λ answer answers on.
          ap (λ stage. record (rest_at stage (after (at StoringCe) answer)) { user = user }) (ce-goes_on _ on);
      owner = ap (λ (tag : Tag). tag.user) ce_stores.tagged;
      base_held = (tt, (tt, (tt, tt)));
      base_stays = λ share op aside has. (knows-step share.own (quiet op) None has.0, (has.1.0, (has.1.1.0, tt)));
      behind = omega arith;
    }

  module _ (de_stores : Stores user ForDe (DePlace user) de) where
    de-framed : IsFramed creates (at StoringDe) (de_frame (at StoringDe)) de
    de-framed = record {
      rests = refl;
      hears = λ answer answers. answers;
      goes_on = λ answer answers on.
          ap (λ stage. record (rest_at stage (after (at StoringDe) answer)) { user = user }) (de-goes_on _ on);
      owner = ap (λ (tag : Tag). tag.user) de_stores.tagged;
      base_held = (tt, (tt, (tt, (sealed-held ce.spec ce.stage, tt))));
      base_stays = λ share op aside has. (
        knows-step share.own (quiet op) None has.0,
        (has.1.0, (has.1.1.0, (sealed-stays ce.spec ce.stage share _ has.1.1.1.0, tt))),
      );
      behind = omega arith;
    }

-- the renames, of tasks that are so far
module _ (user : ℕ) (birth : Birth) where
  abbrev PutsCe : Task → Task → Type 0
  PutsCe ce de = (scene : Scene) (named : Option Blob)
      → AllHas (create_rest (at user birth ce de StoringCe)).facts scene.share
      → Stores user ForDe (DePlace user) de → IsCreate user birth StoringCe scene.boot scene.began
      → TreeShows ce scene.share (RenameDir Temp (Ce Current)) → held_by named ≡ held_of ce
      → CallShows (seen_of creates (at user birth ce de StoringCe)) scene
      (OpCall user (RenameDir Temp (Ce Current)) named) None

  puts-ce : (ce de : Task) → IsWritten ce Settled → de.stage ≡ First → PutsCe ce de
  puts-ce ce de written first =
      subst (λ stage. PutsCe (record ce { stage = stage }) de) (sym written.stage)
      (subst (λ stage. PutsCe (record ce { stage = Storing (Some written.blob) written.text Settled })
      (record de { stage = stage })) (sym first)
      (λ scene named has stores serves shows holds.
      ce-put user birth ce.spec de.spec ce.job de.job written.blob written.text scene has named stores serves shows
      holds written.long))

  abbrev PutsDe : Task → Task → Type 0
  PutsDe ce de = (scene : Scene) (named : Option Blob)
      → AllHas (create_rest (at user birth ce de StoringDe)).facts scene.share
      → Stores user ForCe (CePlace user Current) ce → Stores user ForDe (DePlace user) de
      → IsCreate user birth StoringDe scene.boot scene.began
      → TreeShows de scene.share (RenameDir Temp De) → held_by named ≡ held_of de
      → CallShows (seen_of creates (at user birth ce de StoringDe)) scene (OpCall user (RenameDir Temp De) named)
      (Some (Born birth))

  puts-de : (ce de : Task) → IsWritten ce Stored → IsWritten de Settled → PutsDe ce de
  puts-de ce de stored written =
      subst (λ stage. PutsDe (record ce { stage = stage }) de) (sym stored.stage)
      (subst (λ stage. PutsDe (record ce { stage = Storing (Some stored.blob) stored.text Stored })
      (record de { stage = stage })) (sym written.stage)
      (λ scene named has ce_stores de_stores serves shows holds.
      de-put user birth ce.spec de.spec ce.job de.job stored.blob written.blob stored.text written.text scene has
      ce_stores de_stores named serves shows holds))

module _ (user : ℕ) (birth : Birth) (ce de : Task) (ce_stores : Stores user ForCe (CePlace user Current) ce)
    (de_stores : Stores user ForDe (DePlace user) de) (scene : Scene) where
  -- the turns of the credential key's task
  module _ (first : de.stage ≡ First) (has : AllHas (create_rest (at user birth ce de StoringCe)).facts scene.share)
      (serves : IsCreate user birth StoringCe scene.boot scene.began) where
    ce-placed : (named : Option Blob) → held_by named ≡ held_of ce → (op : LocalOp) → TreeShows ce scene.share op
        → PutsInPlace ce op
        → TurnShows (seen_of creates (at user birth ce de StoringCe)) scene (op_turn user op named None)
    ce-placed named holds op shows puts =
        let is : op ≡ RenameDir Temp (Ce Current) =
        puts.renames ∙ ap (λ place. RenameDir Temp (site_of place)) ce_stores.placed in
        subst (λ o. TurnShows (seen_of creates (at user birth ce de StoringCe)) scene (op_turn user o named None))
        (sym is)
        (puts-ce user birth ce de
        (written-at ce.spec ce.job ce.stage Settled ce_stores.whole ce_stores.bare (λ e. cc) puts.synced) first scene
        named has de_stores serves (subst (TreeShows ce scene.share) is shows) holds)

    ce-shows : (next : Next) → IsStoreTurn user ce None next
        → TurnShows (seen_of creates (at user birth ce de StoringCe)) scene next
    ce-shows next turn =
        let framed = ce-framed user birth ce de ce_stores in
        let frame = ce_frame (at user birth ce de StoringCe) in
        subst (TurnShows (seen_of creates (at user birth ce de StoringCe)) scene) (sym turn.is)
        (framed-shows creates (at user birth ce de StoringCe) frame ce framed scene has serves turn.doing turn.named
        None turn.shows.0
        (turn.shows.1 scene.share
        (store-has creates (at user birth ce de StoringCe) frame ce framed scene has serves))
        (ce-placed turn.named turn.holds))

  -- and those of the device key's
  module _ (stored : progress_of ce.stage ≡ Stored)
      (has : AllHas (create_rest (at user birth ce de StoringDe)).facts scene.share)
      (serves : IsCreate user birth StoringDe scene.boot scene.began) where
    de-placed : (named : Option Blob) → held_by named ≡ held_of de → (op : LocalOp) → TreeShows de scene.share op
        → PutsInPlace de op
        → TurnShows (seen_of creates (at user birth ce de StoringDe)) scene (op_turn user op named (Some (Born birth)))
    de-placed named holds op shows puts =
        let is : op ≡ RenameDir Temp De =
        puts.renames ∙ ap (λ place. RenameDir Temp (site_of place)) de_stores.placed in
        subst (λ o. TurnShows (seen_of creates (at user birth ce de StoringDe)) scene
        (op_turn user o named (Some (Born birth)))) (sym is)
        (puts-de user birth ce de
        (written-at ce.spec ce.job ce.stage Stored ce_stores.whole ce_stores.bare (λ e. cc) stored)
        (written-at de.spec de.job de.stage Settled de_stores.whole de_stores.bare (λ e. cc) puts.synced) scene named
        has ce_stores de_stores serves (subst (TreeShows de scene.share) is shows) holds)

    de-shows : (next : Next) → IsStoreTurn user de (Some (Born birth)) next
        → TurnShows (seen_of creates (at user birth ce de StoringDe)) scene next
    de-shows next turn =
        let framed = de-framed user birth ce de de_stores in
        let frame = de_frame (at user birth ce de StoringDe) in
        subst (TurnShows (seen_of creates (at user birth ce de StoringDe)) scene) (sym turn.is)
        (framed-shows creates (at user birth ce de StoringDe) frame de framed scene has serves turn.doing turn.named
        (Some (Born birth)) turn.shows.0
        (turn.shows.1 scene.share
        (store-has creates (at user birth ce de StoringDe) frame de framed scene has serves))
        (de-placed turn.named turn.holds))

-- what was begun in the stage before
module _ (user : ℕ) (birth : Birth) (ce de : Task) (first : ce.stage ≡ First) where
  clearing-hears : (answer : Answer) → IsAnswer ce answer → hears (at user birth ce de Clearing) answer
  clearing-hears Done answers = tt
  clearing-hears answer answers = answers

  clearing-after : (answer : Answer) → IsAnswer ce answer
      → after (at user birth ce de Clearing) answer ≡ after (at user birth ce de StoringCe) answer
  clearing-after Done answers = absurd (not-done ce first answers)
  clearing-after answer answers = refl

  create-cleared : IsCleared creates (at user birth ce de Clearing) (at user birth ce de StoringCe) ce
  create-cleared = record {
    first = first;
    hears = λ answer answers. answers;
    heard = clearing-hears;
    same = clearing-after;
    user = refl;
    left = refl;
    makes = refl;
    draws = refl;
    held = ap held_at first;
    none = refl;
  }

aside-temp : (site : Site) → site ≢ Temp → touches (RemoveDir Temp) site ≡ false
aside-temp site away = off-temp site away

-- of a user who isn't there a removal lists nothing
lists-none : (site : Site) (known : Option Record) → known ≡ None → drops_at site known ≡ 0
lists-none De None none = refl
lists-none (Ce slot) None none = refl
lists-none Temp None none = refl
lists-none site (Some known) none = cc

-- the turns of a create, by its stage
module _ (create : Creating) (is : IsCreating create) (looks : Looks) where
  abbrev pub staged : Stage → Creating
  staged stage = record create { stage = stage }

  pub at-stage : (stage : Stage) (next : Next) → create.stage ≡ stage → UserTurns (OfCreate (staged stage)) looks next
      → UserTurns (OfCreate create) looks next
  at-stage stage next here turns = subst (λ s. UserTurns (OfCreate (staged s)) looks next) (sym here) turns

  pub stage-fits : (stage : Stage) → create.stage ≡ stage → IsStage create.ce create.de stage
  stage-fits stage here = subst (IsStage create.ce create.de) here is.stage

  -- what is in the way is removed
  module _ (scene : Scene) (images : OwnImagesStand (sealed scene.share.vault) create.user scene.share.own)
      (has : AllHas (create_rest (staged Clearing)).facts scene.share) where
    no-device : own_view scene.share.own De ≡ None
    no-device = absent-view (sealed scene.share.vault) create.user scene.share.own images has.0

    removes : (site : Site) → IsNextToClear (own_view scene.share.own) (Some site)
        → StepShows (sealed scene.share.vault) create.user scene.share.own (quiet (RemoveDir site)) []
    removes De clear = absurd clear.0
    removes (Ce slot) clear = record {
      fits = clear.1;
      noted = ap (λ found. kind_if (is_some found) DropKind) no-device;
      keeps = keeps-absent (sealed scene.share.vault) create.user scene.share.own (RemoveDir (Ce slot)) has.0 refl;
      leads = tt;
    }
    removes Temp clear = aside-step (sealed scene.share.vault) create.user scene.share.own (RemoveDir Temp) aside-temp
        clear.1

    removes-gains : (site : Site) → IsNextToClear (own_view scene.share.own) (Some site)
        → Gains scene.share.own (RemoveDir site) []
    removes-gains De clear = absurd clear.0
    removes-gains (Ce slot) clear = removal-gains scene.share.own slot
    removes-gains Temp clear = aside-gains scene.share.own (RemoveDir Temp) aside-temp

    clear-shows : (site : Site) → IsNextToClear (own_view scene.share.own) (Some site)
        → IsCreate create.user create.birth Clearing scene.boot scene.began
        → CallShows (seen_of creates (staged Clearing)) scene (OpCall create.user (RemoveDir site) None) None
    clear-shows site clear serves = record {
      stands = record {
        mine = refl;
        step = removes site clear;
        brings = record { brings = refl; long = tt };
        gains = [];
        gained = removes-gains site clear;
        lets_go = lets-none [] [] refl;
        held = inl refl;
        leads = leads-to creates (staged Clearing) Done tt refl refl (record {
          facts = (
            knows-step scene.share.own (quiet (RemoveDir site)) None has.0,
            (has.1.0, (has.1.1.0, tt)),
          );
          known = (tt, (tt, (tt, tt)));
          serves = serves;
          same_user = refl;
          falls = omega (arith, lists-none site (own_record scene.share.own) has.0);
          makes = omega arith;
          draws = omega arith;
        });
      };
      may = tt;
      lasts = omega arith;
    }

    -- with nothing in the way the credential key's task rests
    abbrev begun_at : StoreStage → Creating
    begun_at stage = record (staged StoringCe) { ce = record create.ce { stage = stage } }

    pub begun-has : create.ce.stage ≡ First → IsNextToClear (own_view scene.share.own) None
        → AllHas (create_rest (staged StoringCe)).facts scene.share
    begun-has first clear =
        subst (λ stage. AllHas (create_rest (begun_at stage)).facts scene.share) (sym first) (
          has.0,
          (
            has.1.0,
            (
              has.1.1.0,
              (
                same-parts _ _ no-device (clear (Ce Current) tt) (λ n. clear (Ce (Cx n)) tt) (clear Temp tt),
                (
                  clear Temp tt,
                  (
                    subst (λ place. own_view scene.share.own (site_of place) ≡ None) (sym is.ce.placed)
                        (clear (Ce Current) tt),
                    tt,
                  ),
                ),
              ),
            ),
          ),
        )

  pub clear-turn : (site : Site) (next : Next) → create.stage ≡ Clearing → looks.in_the_way ≡ Some site
      → next ≡ CallNext (OpCall create.user (RemoveDir site) None) None
      → UserTurns (OfCreate create) looks next
  clear-turn site next here first named = at-stage Clearing next here
      (λ scene sound clear rests. subst (TurnShows (seen_of creates (staged Clearing)) scene) (sym named)
      (clear-shows scene sound.images rests.facts site
      (subst (IsNextToClear (own_view scene.share.own)) first clear.clear)
      rests.serves))

  pub begin-turn : (next : Next) → create.stage ≡ Clearing → looks.in_the_way ≡ None
      → IsStoreTurn create.user create.ce None next → UserTurns (OfCreate create) looks next
  begin-turn next here nothing turn = at-stage Clearing next here
      (λ scene sound clear rests.
      let stages = stage-fits Clearing here in
      as-cleared creates (staged Clearing) (staged StoringCe) create.ce
      (create-cleared create.user create.birth create.ce create.de stages.0) scene next
      (ce-shows create.user create.birth create.ce create.de is.ce is.de scene stages.1
      (begun-has scene sound.images rests.facts stages.0
      (subst (IsNextToClear (own_view scene.share.own)) nothing clear.clear))
      (record { command = rests.serves.command; born = rests.serves.born; changes = rests.serves.changes }) next turn))

  pub ce-turn : (next : Next) → create.stage ≡ StoringCe → IsStoreTurn create.user create.ce None next
      → UserTurns (OfCreate create) looks next
  ce-turn next here turn = at-stage StoringCe next here
      (λ scene sound clear rests.
      ce-shows create.user create.birth create.ce create.de is.ce is.de scene (stage-fits StoringCe here).1 rests.facts
      rests.serves next turn)

  pub de-turn : (next : Next) → create.stage ≡ StoringDe
      → IsStoreTurn create.user create.de (Some (Born create.birth)) next
      → UserTurns (OfCreate create) looks next
  de-turn next here turn = at-stage StoringDe next here
      (λ scene sound clear rests.
      de-shows create.user create.birth create.ce create.de is.ce is.de scene (stage-fits StoringDe here).0 rests.facts
      rests.serves next turn)

-- an answer that takes memory
pub turns-given : {E : Type 0} (P Q : Next → Type 0) (result : Result Next E) → IfOk result P
    → ((next : Next) → P next → Q next) → IfOk result Q
turns-given P Q (Ok next) given turns = turns next given
turns-given P Q (Err fault) given turns = tt
