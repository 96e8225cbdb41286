-- Each turn of a protect shows what it has to.
use Rattle.std.proofs.Common.{◌≡◌, ◌≢◌, ℕ, List, [], refl, sym, ap, ◌∙◌, subst, arith, inl}
use Rattle.std.specs.Prelude.{Option, Some, None, IsSome, Contains}
use Rattle.std.specs.FinMap as map
use Rattle.tree_model.specs.declared.blobs.Blob.{Blob}
use Rattle.tree_model.specs.declared.ops.Fill.TheVariants.{Same}
use Rattle.tree_model.specs.declared.places.Class.TheVariants.{Ce as ForCe}
use Rattle.tree_model.specs.declared.places.Place.TheVariants.{Ce as CePlace}
use Rattle.tree_model.specs.declared.places.Slot.{Slot}
use Rattle.tree_model.specs.declared.sites.Site.{Site}
use Rattle.tree_model.specs.declared.sites.Site.TheVariants.{De, Ce, Temp}
use Rattle.tree_model.specs.declared.sites.LocalOp.{LocalOp}
use Rattle.tree_model.specs.declared.sites.LocalOp.TheVariants.{RenameDir, RemoveDir}
use Rattle.tree_model.specs.Dir.{Files}
use Rattle.tree_model.specs.Named.{PartNames}
use Rattle.tree_model.specs.Parts.{standing}
use Rattle.tree_model.specs.Sites.{site_of}
use Rattle.tree_model.proofs.Parts.{frame}
use Rattle.journal_model.specs.declared.commands.Reply.TheVariants.{WrongSecret}
use Rattle.journal_model.specs.Machine.{GaveWrongSecret}
use Rattle.journal_model.proofs.Slots.{next-slot-free}
use Rattle.keystore_model.specs.declared.entry.Tag.{Tag}
use Rattle.user_world.specs.Meaning.{PartStands}
use Rattle.user_world.specs.OwnWorlds.{quiet, own_view}
use Rattle.user_world.proofs.OwnWorlds.{view-step, record-step, view-stands}
use Rattle.blob_custody.proofs.Steps.{lets-none}
use Rattle.key_directory.specs.Vaults.{Vault, OpensAt, SealedStands, sealed}
use Rattle.task_turns.specs.declared.calls.Answer.{Answer}
use Rattle.task_turns.specs.declared.calls.Answer.TheVariants.{Done}
use Rattle.task_turns.specs.declared.calls.Call.TheVariants.{Op as OpCall}
use Rattle.task_turns.specs.declared.next.Next.{Next}
use Rattle.task_turns.specs.declared.next.Next.TheVariants.{Reply as ReplyNext}
use Rattle.task_turns.specs.Shares.{Share, AllHas, IsSound, IsFirstOpened, IsNextSlot}
use Rattle.task_turns.specs.Turns.{Seen, Scene, CallShows, TurnShows, operated, seen_of, evidence_in, no_cost}
use Rattle.open_task.specs.declared.stages.Doing.{Doing}
use Rattle.open_task.specs.declared.stages.Stage.TheVariants.{Reading}
use Rattle.open_task.specs.Task.{HasEnded, key_in, facts_at as open_facts_at, after as open_after}
use Rattle.open_task.specs.Turns.{Leads as OpenLeads, OpenTurns}
use Rattle.store_task.specs.declared.stages.Stage.{Stage}
use Rattle.store_task.specs.declared.stages.Stage.TheVariants.{First, Tied, Generated, Storing as StoringStage}
use Rattle.store_task.specs.declared.stages.Progress.{Progress}
use Rattle.store_task.specs.declared.stages.Progress.TheVariants.{Absent, Settled, Stored}
use Rattle.store_task.specs.Task.{Task, IsAnswer, after as store_after, facts_of, held_by, held_at, held_of}
use Rattle.store_task.specs.Task.{progress_of}
use Rattle.store_task.specs.Turns.{TreeShows, PutsInPlace}
use Rattle.store_task.proofs.ShownTurns.{off-temp}
use Rattle.user_tasks.specs.declared.protects.ProtectStage.{ProtectStage}
use Rattle.user_tasks.specs.declared.protects.ProtectStage.TheVariants.{Opening as IsOpening, Clearing, Storing}
use Rattle.user_tasks.specs.declared.tasks.UserTask.TheVariants.{Protect as OfProtect}
use Rattle.user_tasks.specs.Protect.{Protecting, IsProtecting, serves_with, user_of, slot_of, slot_at, change_by}
use Rattle.user_tasks.specs.Protect.{opened_facts, store_frame, protect_rest, with_opened, after_store, hears_clearing}
use Rattle.user_tasks.specs.Stores.{op_turn, IsStoreTurn}
use Rattle.user_tasks.specs.Tasks.{tasks}
use Rattle.user_tasks.specs.Turns.{opening_turn}
use Rattle.user_tasks.proofs.AsideOps.{IsAside, aside-step, aside-gains}
use Rattle.user_tasks.proofs.Cleared.{IsCleared, not-done}
use Rattle.user_tasks.proofs.Further.{adds}
use Rattle.user_tasks.proofs.Openings.{holds-none, some-key, none-left, opening-shows, gave-wrong}
use Rattle.user_tasks.proofs.Leading.{LeadsTo, leads-to}
use Rattle.user_tasks.proofs.Writing.{IsFramed, store-has, framed-shows}

-- the stage stays where the directory isn't at its place
storing-on : (progress : Progress) → progress ≢ Stored → after_store progress ≡ Storing
storing-on Stored on = absurd (on refl)
storing-on progress on = refl

-- what a directory is written with that was synced
settled-stage : (stage : Stage) → progress_of stage ≡ Settled
    → (blob : Option Blob) × (text : List ℕ) × (stage ≡ StoringStage blob text Settled)
settled-stage First is = cc
settled-stage (Tied app_id) is = cc
settled-stage (Generated app_id blob) is = cc
settled-stage (StoringStage blob text progress) is = (blob, text, ap (StoringStage blob text) is)

unrecorded : (vault : Vault) (user : ℕ) (site : Site) (found : Option Files) (recorded : Option (List ℕ))
    (key : List ℕ) → recorded ≡ None → OpensAt vault user site found recorded key → found ≡ None
unrecorded vault user site None recorded key none opens = refl
unrecorded vault user site (Some files) None key none opens = absurd opens
unrecorded vault user site (Some files) (Some secret) key none opens = cc

-- the slot that a further secret comes into is free
slot-free : (user : ℕ) (share : Share) (slot : Slot) → IsSound user share → IsNextSlot share slot
    → own_view share.own (Ce slot) ≡ None
slot-free user share slot sound next =
    let stands : SealedStands share.vault user (standing (own_view share.own)) next.known =
    subst (PartStands (sealed share.vault) user (own_view share.own)) next.there
    (view-stands (sealed share.vault) user share.own sound.images) in
    unrecorded share.vault user (Ce slot) (own_view share.own (Ce slot)) (map.get next.known.secrets slot) _
    (ap (map.get next.known.secrets) next.next ∙ next-slot-free next.known) (stands.opens (Ce slot))

-- what is known of the user's slots stays, whatever is done in the temporary directory
module _ (share : Share) (op : LocalOp) (aside : IsAside op) where
  stays : (site : Site) → site ≢ Temp → own_view (operated share op None).own site ≡ own_view share.own site
  stays site away = ap (λ part. part site) (view-step share.own (quiet op))
      ∙ frame (own_view share.own) Same op site (aside site away)

  opened-aside : (secret : List ℕ) (slot : Slot) (key : List ℕ) → IsFirstOpened share secret slot key
      → IsFirstOpened (operated share op None) secret slot key
  opened-aside secret slot key opened = record {
    present = subst IsSome (sym (stays De (λ e. cc))) opened.present;
    files = opened.files;
    there = stays (Ce slot) (λ e. cc) ∙ opened.there;
    opens = opened.opens;
    newer = λ other dir newer there. opened.newer other dir newer (sym (stays (Ce other) (λ e. cc)) ∙ there);
  }

  facts-aside : (protect : Protecting) → AllHas (opened_facts protect) share
      → AllHas (opened_facts protect) (operated share op None)
  facts-aside protect has = (
    opened-aside _ _ _ has.0,
    (
      record {
        known = has.1.0.known;
        there = record-step share.own (quiet op) ∙ has.1.0.there;
        next = has.1.0.next;
      },
      (has.1.1.0, (has.1.1.1.0, tt)),
    ),
  )

module _ (protect : Protecting) where
  abbrev pub staged : ProtectStage → Protecting
  staged stage = record protect { stage = stage }

  abbrev pub owner : ℕ
  owner = user_of protect

  abbrev pub seen_at : ProtectStage → Seen
  seen_at stage = seen_of tasks (OfProtect (staged stage))

  -- the key is opened
  module _ (scene : Scene) (has : AllHas (protect_rest (staged IsOpening)).facts scene.share)
      (serves : serves_with protect [] scene.boot scene.began) where
    opened-key : (answer : Answer) (key : Option (List ℕ)) → key_in (open_after protect.opening answer).stage ≡ key
        → OpenLeads protect.opening answer scene.share
        → LeadsTo scene (protect_rest (staged IsOpening))
        (protect_rest (with_opened key (record (staged IsOpening) { opening = open_after protect.opening answer })))
        None no_cost scene.share
    opened-key answer None none leads = record {
      facts = (has.0, (has.1.0, (has.1.1.0, leads.facts)));
      known = (
        tt,
        (tt, (tt, holds-none protect.opening.secret _ (open_after protect.opening answer).stage)),
      );
      serves = serves;
      same_user = refl;
      falls = omega (arith, leads.falls);
      makes = omega arith;
      draws = omega arith;
    }
    opened-key answer (Some key) is leads = record {
      facts = (
        (subst (λ stage. AllHas (open_facts_at protect.opening.secret (open_after protect.opening answer).left stage)
            scene.share) (some-key _ key is) leads.facts).0,
        (has.0, (has.1.0, (has.1.1.0, tt))),
      );
      known = (tt, (tt, (tt, (tt, tt))));
      serves = serves;
      same_user = refl;
      falls = omega (arith, leads.falls);
      makes = omega arith;
      draws = omega arith;
    }

    opened-held : (answer : Answer) (key : Option (List ℕ)) →
        let then = with_opened key (record (staged IsOpening) { opening = open_after protect.opening answer }) in
        (protect_rest then).held ≡ []
    opened-held answer None = refl
    opened-held answer (Some key) = refl

    pub opening-turns : (doing : Doing) → OpenTurns protect.opening (Some doing) → IsSound owner scene.share
        → TurnShows (seen_at IsOpening) scene (opening_turn owner doing)
    opening-turns doing turns sound = opening-shows tasks (OfProtect (staged IsOpening)) protect.opening scene refl
        (omega arith) (λ answer. opened-held answer (key_in (open_after protect.opening answer).stage))
        (λ answer leads. leads-to tasks (OfProtect (staged IsOpening)) answer leads.answers refl refl
        (opened-key answer (key_in (open_after protect.opening answer).stage) refl leads)) doing
        (turns.1 scene.share sound has.1.1.1)

    -- or no slot is under the secret
    pub refuses : IsSound owner scene.share → HasEnded protect.opening → key_in protect.opening.stage ≡ None
        → TurnShows (seen_at IsOpening) scene (ReplyNext WrongSecret)
    refuses sound ended none =
        let nothing = none-left protect.opening.stage protect.opening.left ended none in
        let tried = subst (λ left. AllHas (open_facts_at protect.opening.secret left Reading) scene.share) nothing.1
        (subst (λ stage. AllHas (open_facts_at protect.opening.secret protect.opening.left stage) scene.share)
        nothing.0
        has.1.1.1) in
        record {
          outcome = refl;
          may = subst (GaveWrongSecret (evidence_in owner scene.share) scene.began) (sym serves.command) (
            serves.changes,
            gave-wrong owner scene.share sound tried.0.present protect.opening.secret tried.0,
          );
          right = λ opened. absurd opened;
          gone = λ gone. cc;
          lasts = omega arith;
          held = refl;
        }

  -- the temporary directory is removed
  pub removes : (scene : Scene) → AllHas (protect_rest (staged Clearing)).facts scene.share
      → serves_with protect [] scene.boot scene.began → IsSome (own_view scene.share.own Temp)
      → CallShows (seen_at Clearing) scene (OpCall owner (RemoveDir Temp) None) None
  removes scene has serves there = record {
    stands = record {
      mine = refl;
      step = aside-step (sealed scene.share.vault) owner scene.share.own (RemoveDir Temp) off-temp there;
      brings = record { brings = refl; long = tt };
      gains = [];
      gained = aside-gains scene.share.own (RemoveDir Temp) off-temp;
      lets_go = lets-none [] [] refl;
      held = inl refl;
      leads = leads-to tasks (OfProtect (staged Clearing)) Done tt refl refl (record {
        facts = facts-aside scene.share (RemoveDir Temp) off-temp protect has;
        known = (tt, (tt, (tt, (tt, tt))));
        serves = serves;
        same_user = refl;
        falls = omega arith;
        makes = omega arith;
        draws = omega arith;
      });
    };
    may = tt;
    lasts = omega arith;
  }

  -- the directory is stored: it is renamed into its slot, by a task that is so far
  abbrev Puts : Task → Type 0
  Puts store = (scene : Scene) → IsSound owner scene.share
      → IsProtecting (record (staged Storing) { store = store })
      → AllHas (protect_rest (record (staged Storing) { store = store })).facts scene.share
      → serves_with (record protect { store = store }) [] scene.boot scene.began
      → ((named : Blob) → Contains (held_of store) named → ¬ (PartNames (own_view scene.share.own) named))
      → (named : Option Blob) → TreeShows store scene.share (RenameDir Temp (Ce (slot_at store.spec.target)))
      → held_by named ≡ held_of store
      → CallShows (seen_of tasks (OfProtect (record (staged Storing) { store = store }))) scene
      (OpCall owner (RenameDir Temp (Ce (slot_at store.spec.target))) named)
      (Some (change_by (record protect { store = store })))

  puts : (store : Task) → progress_of store.stage ≡ Settled → Puts store
  puts store settled =
      let at = settled-stage store.stage settled in
      subst (λ stage. Puts (record store { stage = stage })) (sym at.2)
      (λ scene sound is has serves unnamed.
      adds protect.made protect.opening store.spec store.job at.0 at.1 scene sound is has serves unnamed)

  framed : protect.store.spec.tag ≡ record { user = owner; class = ForCe }
      → IsFramed tasks (OfProtect (staged Storing)) (store_frame protect) protect.store
  framed tagged = record {
    rests = refl;
    hears = λ answer answers. answers;
    goes_on = λ answer answers on.
        ap (λ stage. protect_rest (record protect { store = store_after protect.store answer; stage = stage }))
        (storing-on _ on);
    owner = ap (λ (tag : Tag). tag.user) tagged;
    base_held = (tt, (tt, (tt, (tt, tt))));
    base_stays = λ share op aside has. facts-aside share op aside protect has;
    behind = omega arith;
  }

  module _ (scene : Scene) (sound : IsSound owner scene.share) (is : IsProtecting (staged Storing))
      (has : AllHas (protect_rest (staged Storing)).facts scene.share)
      (serves : serves_with protect [] scene.boot scene.began)
      (unnamed : (named : Blob) → Contains (held_of protect.store) named
      → ¬ (PartNames (own_view scene.share.own) named)) where
    placed : (named : Option Blob) → held_by named ≡ held_of protect.store → (op : LocalOp)
        → TreeShows protect.store scene.share op → PutsInPlace protect.store op
        → TurnShows (seen_at Storing) scene (op_turn owner op named (Some (change_by protect)))
    placed named holds op shows in_place =
        let renames : op ≡ RenameDir Temp (Ce (slot_of protect)) =
        in_place.renames ∙ ap (λ place. RenameDir Temp (site_of place)) is.placed in
        subst (λ o. TurnShows (seen_at Storing) scene (op_turn owner o named (Some (change_by protect)))) (sym renames)
        (puts protect.store in_place.synced scene sound is has serves unnamed named
        (subst (TreeShows protect.store scene.share) renames shows) holds)

    pub stores : (next : Next) → IsStoreTurn owner protect.store (Some (change_by protect)) next
        → TurnShows (seen_at Storing) scene next
    stores next turn =
        let frame = store_frame protect in
        subst (TurnShows (seen_at Storing) scene) (sym turn.is)
        (framed-shows tasks (OfProtect (staged Storing)) frame protect.store (framed is.tagged) scene has serves
        turn.doing turn.named
        (Some (change_by protect)) turn.shows.0
        (turn.shows.1 scene.share (store-has tasks (OfProtect (staged Storing)) frame protect.store (framed is.tagged)
        scene has serves))
        (placed turn.named turn.holds))

    -- the facts of the store task
    pub stored-has : AllHas (facts_of protect.store) scene.share
    stored-has =
        store-has tasks (OfProtect (staged Storing)) (store_frame protect) protect.store (framed is.tagged) scene
        has serves

  -- once the temporary place is clear, the store task rests
  pub begun-has : (share : Share) → protect.store.stage ≡ First → protect.store.spec.target ≡ CePlace owner
      (slot_of protect)
      → IsSound owner share → own_view share.own Temp ≡ None → AllHas (opened_facts protect) share
      → AllHas (protect_rest (staged Storing)).facts share
  begun-has share first placed sound clear has =
      let free = subst (λ place. own_view share.own (site_of place) ≡ None) (sym placed)
      (slot-free owner share (slot_of protect) sound has.1.0) in
      subst (λ stage. AllHas
      (protect_rest (record (staged Storing) { store = record protect.store { stage = stage } })).facts share)
      (sym first) (has.0, (has.1.0, (has.1.1.0, (has.1.1.1.0, (clear, (free, tt))))))

  pub cleared : protect.store.stage ≡ First
      → IsCleared tasks (OfProtect (staged Clearing)) (OfProtect (staged Storing)) protect.store
  cleared first = record {
    first = first;
    hears = λ answer answers. answers;
    heard = heard;
    same = same;
    user = refl;
    left = omega arith;
    makes = omega arith;
    draws = omega arith;
    held = ap held_at first;
    none = refl;
  }
    where
      heard : (answer : Answer) → IsAnswer protect.store answer → hears_clearing protect.store answer
      heard Done answers = tt
      heard answer answers = answers

      same : (answer : Answer) → IsAnswer protect.store answer
          → tasks.after (OfProtect (staged Clearing)) answer ≡ tasks.after (OfProtect (staged Storing)) answer
      same Done answers = absurd (not-done protect.store first answers)
      same answer answers = refl

  pub begun-fits : IsProtecting (staged Clearing) → IsProtecting (staged Storing)
  begun-fits is = record {
    whole = is.whole;
    placed = is.placed;
    tagged = is.tagged;
    stage = λ stored. let same : Absent ≡ Stored = sym (ap progress_of is.stage) ∙ stored in cc;
  }
