-- The rename of a protect: its directory opens with the fresh secret to the user's key, in a slot that was free, and
-- the user's directories name what was held.
use Rattle.std.proofs.Common.{◌≡◌, ◌≢◌, ℕ, ◌++◌, cond, List, [], ◌∷◌, map, refl, sym, ap, ◌∙◌, subst, arith, eq-eqb}
use Rattle.std.proofs.Common.{inl, inr}
use Rattle.std.specs.Prelude.{Option, Some, None, IfSome, IsSome, Contains, length, option_to_list}
use Rattle.std.proofs.lemmas.List.Elements.{Contains-append_right}
use Rattle.tree_model.specs.declared.blobs.Blob.{Blob}
use Rattle.tree_model.specs.declared.files.FileName.TheVariants.{EncryptedKey, Discard}
use Rattle.tree_model.specs.declared.places.Class.TheVariants.{Ce as ForCe}
use Rattle.tree_model.specs.declared.places.Slot.{Slot}
use Rattle.tree_model.specs.declared.sites.Site.TheVariants.{De, Ce, Temp}
use Rattle.tree_model.specs.declared.sites.LocalOp.{LocalOp}
use Rattle.tree_model.specs.declared.sites.LocalOp.TheVariants.{RenameDir}
use Rattle.tree_model.specs.Dir.{Files}
use Rattle.tree_model.specs.Named.{named_at, PartNames}
use Rattle.tree_model.specs.Parts.{Part, standing, set, after_local, local_kind, renaming_local}
use Rattle.tree_model.specs.Sites.{site_of}
use Rattle.tree_model.specs.Tree.{Add as AddKind, if_there, kind_if}
use Rattle.seal_model.specs.Sealed.{sealed_text}
use Rattle.keystore_model.proofs.Elements.{Contains-first}
use Rattle.journal_model.specs.declared.entries.Birth.{Birth}
use Rattle.journal_model.specs.declared.entries.Change.TheVariants.{Add as AddChange}
use Rattle.journal_model.specs.Hashes.{app_id_of, wrap_key_of}
use Rattle.journal_model.specs.Machine.{AllowsChange}
use Rattle.journal_model.specs.Made.{key_of, nonce_of, discardable_of}
use Rattle.journal_model.specs.Users.{Record}
use Rattle.user_world.specs.declared.changes.LocalChange.{LocalChange}
use Rattle.user_world.specs.declared.changes.LocalChange.TheVariants.{Added}
use Rattle.user_world.specs.Changes.{known_after}
use Rattle.user_world.specs.Meaning.{PartStands}
use Rattle.user_world.specs.OwnWorlds.{OwnWorld, own_view, own_record, part_after, IsOwnImage, Keeps}
use Rattle.user_world.proofs.Facts.{logged-step}
use Rattle.blob_custody.proofs.Names.{not-both, option-in, option-from, same-names, names-set, names-new, names-old}
use Rattle.blob_custody.proofs.Renamings.{whole-rename}
use Rattle.key_directory.specs.Tried.{not_empty, addition, additions_of}
use Rattle.key_directory.specs.VaultLaws.{IsFurther}
use Rattle.key_directory.specs.Vaults.{Addition, Vault, NoChanceMatch, IsMade, SealedStands, sealed}
use Rattle.key_directory.proofs.Adding.{adding-stands}
use Rattle.key_directory.proofs.Opened.{slots-tell}
use Rattle.task_turns.specs.declared.calls.Answer.TheVariants.{Done}
use Rattle.task_turns.specs.declared.calls.Call.TheVariants.{Op as OpCall}
use Rattle.task_turns.specs.Names.{Gains}
use Rattle.task_turns.specs.Shares.{Has, AllHas, IsSound, IsUnder}
use Rattle.task_turns.specs.Turns.{seen_of, Scene, noting, CallShows, evidence_in, opening_secret}
use Rattle.open_task.specs.Task.{Opening, slot_at_hand}
use Rattle.store_task.specs.declared.turns.StoreSpec.{StoreSpec}
use Rattle.store_task.specs.declared.stages.Stage.TheVariants.{Storing as StoringStage}
use Rattle.store_task.specs.declared.stages.Progress.TheVariants.{Settled}
use Rattle.store_task.specs.Task.{Task, IsBoundBy, all_files, held_by, sealing}
use Rattle.store_task.specs.Turns.{TreeShows}
use Rattle.store_task.proofs.StoredFiles.{held-stored, files-named, files-open, names-own}
use Rattle.user_tasks.specs.declared.protects.ProtectStage.TheVariants.{Storing}
use Rattle.user_tasks.specs.declared.tasks.UserTask.TheVariants.{Protect as OfProtect}
use Rattle.user_tasks.specs.Protect.{Protecting, IsProtecting, serves_with, slot_at, protect_rest}
use Rattle.user_tasks.specs.Tasks.{tasks}
use Rattle.user_tasks.proofs.Openings.{under-first}
use Rattle.user_tasks.proofs.AsideOps.{lets-all}
use Rattle.user_tasks.proofs.Placing.{held-brings}
use Rattle.user_tasks.proofs.Leading.{leads-to}
use Rattle.user_tasks.proofs.Rights.{keeps-right}

-- a directory that is renamed into a free slot, where nothing is pending
module _ (own : OwnWorld) (still : own.pending ≡ []) (slot : Slot) (files : Files)
    (there : own_view own Temp ≡ Some files) where
  abbrev put : LocalOp
  put = RenameDir Temp (Ce slot)

  abbrev cleared : Part
  cleared = set (own_view own) Temp None

  still-left : (left : Part) → IsOwnImage own.stable own.pending left → left ≡ own_view own
  still-left left is =
      subst (λ steps. IsOwnImage own.stable steps left → left ≡ part_after own.stable steps) (sym still) (λ e. e) is

  put-is : after_local (own_view own) put ≡ set cleared (Ce slot) (Some files)
  put-is = ap (λ found. if_there found (own_view own) (λ f. set cleared (Ce slot) (Some f))) there

  -- the user's directories name what it names
  put-gains : IsSome (own_view own De) → own_view own (Ce slot) ≡ None
      → Gains own put (option_to_list (named_at (Some files)))
  put-gains present free = record {
    gained = λ left fill blob is names.
        let named = subst (λ p. PartNames p blob) put-is
        (subst (λ p. PartNames (after_local p put) blob) (still-left left is)
        (subst (λ op. PartNames (after_local left op) blob) (whole-rename Temp (Ce slot) fill) names)) in
        elim (names-new cleared slot (Some files) blob named) [
          | inl was ↦ inl (subst (λ p. PartNames p blob) (sym (still-left left is))
              (same-names cleared (own_view own) blob refl (λ s. refl) was))
          | inr new ↦ inr (option-in (named_at (Some files)) blob new)
        ];
    named = λ blob has. subst (λ p. PartNames p blob) (sym put-is)
        (names-set cleared slot (Some files) blob present (option-from (named_at (Some files)) blob has));
    kept = λ blob names.
        let was = same-names (own_view own) cleared blob refl (λ s. refl) names in
        inl (subst (λ p. PartNames p blob) (sym put-is) (elim (names-old cleared slot (Some files) blob was) [
          | inl kept ↦ kept
          | inr old ↦ absurd (not-both (named_at (own_view own (Ce slot))) blob (ap named_at free) old)
        ]));
  }

held-list : (found : Option Blob) → option_to_list found ≡ held_by found
held-list None = refl
held-list (Some blob) = refl

-- a blob that a directory is bound by has 32 bytes, and without one the key is sealed under the secret
bound-long : (secret : List ℕ) (blob : Option Blob) → IsBoundBy secret blob → IfSome blob (λ one. length one ≡ 32)
bound-long secret None bound = tt
bound-long secret (Some blob) bound = bound.1

some-added : (added : List ℕ → Addition) (secret : List ℕ) → secret ≢ []
    → map added (not_empty secret) ≡ added secret ∷ []
some-added added [] some = absurd (some refl)
some-added added (byte ∷ bytes) some = refl

module _ (made : Birth) (opening : Opening) (spec : StoreSpec) (job : ℕ) (blob : Option Blob) (text : List ℕ)
    (scene : Scene) where
  abbrev settled : Task
  settled = record { spec = spec; job = job; stage = StoringStage blob text Settled }

  -- the directory is synced in the temporary place
  abbrev adding : Protecting
  adding = record { made = made; opening = opening; store = settled; stage = Storing }

  abbrev slot : Slot
  slot = slot_at spec.target

  abbrev change : LocalChange
  change = Added slot spec.secret

  abbrev own : OwnWorld
  own = scene.share.own

  abbrev files : Files
  files = all_files spec.discard blob text

  -- with what was tried once the change is noted
  abbrev noted : Vault
  noted = noting opening.user scene (Some change)

  abbrev at : Birth
  at = record { boot = scene.boot; index = scene.began.index }

  sealed-text : (found : Option Blob) → IsBoundBy spec.secret found → Has (sealing spec found text) scene.share
      → spec.secret ≢ [] → text ≡ sealed_text (wrap_key_of (app_id_of spec.discard spec.secret)) spec.nonce spec.key
  sealed-text None bound has some = has
  sealed-text (Some named) bound has some = absurd (some bound.0)

  module _ (sound : IsSound opening.user scene.share) (is : IsProtecting adding)
      (has : AllHas (protect_rest adding).facts scene.share)
      (serves : serves_with adding [] scene.boot scene.began)
      (unnamed : (named : Blob) → Contains (held_by blob) named → ¬ (PartNames (own_view own) named)) where
    abbrev known : Record
    known = has.1.0.known

    -- where no tag matched by chance the key that was opened is the user's
    known-key : SealedStands noted opening.user (standing (own_view own)) known
        → NoChanceMatch (noted.attempts opening.user) → spec.key ≡ key_of noted.seed ForCe opening.user known.birth
    known-key stands match =
        (slots-tell noted opening.user (own_view own) known (slot_at_hand opening.left) has.0.files opening.secret
        stands has.0.there).right match has.1.1.1.0 spec.key has.0.opens.opens_to

    -- and so the directory is as the change says
    as-made : spec.secret ≢ [] → spec.key ≡ key_of noted.seed ForCe opening.user known.birth
        → IsMade (noted.attempts opening.user) files spec.secret
    as-made some right =
        let added = addition noted.seed opening.user known.birth at in
        let nonce = has.1.1.0.0 ∙ ap (nonce_of noted.seed ForCe opening.user) serves.made_by in
        let discard = has.1.1.0.1 ∙ ap (discardable_of noted.seed ForCe opening.user) serves.made_by in
        let more = ap (λ t. cond t (additions_of noted.seed opening.user at (own_record own) change) [])
        (eq-eqb opening.user opening.user refl)
        ∙ ap (λ found. additions_of noted.seed opening.user at found change) has.1.0.there
        ∙ some-added added spec.secret some in
        record {
          added = added spec.secret;
          has = subst (λ items. Contains ((scene.share.vault.attempts opening.user).additions ++ items)
              (added spec.secret)) (sym more)
              (Contains-append_right (scene.share.vault.attempts opening.user).additions _ (added spec.secret)
              (Contains-first (added spec.secret) []));
          under = refl;
          discard = ap (λ held. held Discard) (held-stored spec.discard blob text) ∙ ap Some discard;
          sealed = ap (λ held. held EncryptedKey) (held-stored spec.discard blob text)
              ∙ ap Some (sealed-text blob is.whole.stage has.1.1.1.1.1.0 some
              ∙ λ i. sealed_text (wrap_key_of (app_id_of (discard i) spec.secret)) (nonce i) (right i));
        }

    free : own_view own (Ce slot) ≡ None
    free = subst (λ place. own_view own (site_of place) ≡ None) is.placed has.1.1.1.1.1.1.1.1.1.0

    further : SealedStands noted opening.user (standing (own_view own)) known
        → IsFurther noted opening.user (own_view own) known slot spec.secret
    further stands = record {
      files = files;
      there = has.1.1.1.1.1.1.1.1.0;
      free = free;
      opens = record {
        opened = spec.key;
        opens_to = files-open spec scene.share blob text is.whole.discard is.whole.nonce is.whole.key is.whole.stage
            has.1.1.1.1.1.0;
        right = known-key stands;
        made = λ match some. as-made some (known-key stands match);
      };
      own = λ named names. let entry = names-own spec scene.share blob text has.1.1.1.1.1.0 named names in
          record { entry = entry.entry; live = entry.live; tagged = entry.tagged ∙ is.tagged; low = entry.low };
      differ = λ site named there names. unnamed named
          (subst (λ list. Contains list named) (held-list blob)
          (option-in blob named (sym (files-named spec.discard blob text) ∙ names)))
          (record { present = has.0.present; site = site; names = there });
    }

    -- each part that a stop can leave stands with the further slot
    keeps : Keeps (sealed noted) opening.user own (record { op = RenameDir Temp (Ce slot); note = Some change })
    keeps = record {
      keeps = λ left fill image stands.
          let here = still-left own has.1.1.1.1.0 slot files has.1.1.1.1.1.1.1.1.0 left image in
          subst (λ op. PartStands (sealed noted) opening.user (after_local left op)
          (known_after (own_record own) change))
          (sym (whole-rename Temp (Ce slot) fill))
          (subst (λ p. PartStands (sealed noted) opening.user p (own_record own)
          → PartStands (sealed noted) opening.user (after_local p (RenameDir Temp (Ce slot)))
          (known_after (own_record own) change)) (sym here)
          (subst (λ found. PartStands (sealed noted) opening.user (own_view own) found
          → PartStands (sealed noted) opening.user (after_local (own_view own) (RenameDir Temp (Ce slot)))
          (known_after found change)) (sym has.1.0.there)
          (λ stood. adding-stands noted opening.user (own_view own) known slot spec.secret stood (further stood)))
          stands);
    }

    added-kind : local_kind (own_view own) (RenameDir Temp (Ce slot)) ≡ Some AddKind
    added-kind = ap (λ s. renaming_local (own_view own) Temp (Ce s)) has.1.0.next
        ∙ ap (λ there. kind_if there AddKind) has.0.present

    gains : Gains own (RenameDir Temp (Ce slot)) (held_by blob)
    gains = subst (Gains own (RenameDir Temp (Ce slot)))
        (ap option_to_list (files-named spec.discard blob text) ∙ held-list blob)
        (put-gains own has.1.1.1.1.0 slot files has.1.1.1.1.1.1.1.1.0 has.0.present free)

    -- the user has one more slot then
    pub adds : (named : Option Blob) → TreeShows settled scene.share (RenameDir Temp (Ce slot))
        → held_by named ≡ held_by blob
        → CallShows (seen_of tasks (OfProtect adding)) scene
        (OpCall opening.user (RenameDir Temp (Ce slot)) named) (Some change)
    adds named shows holds = record {
      stands = record {
        mine = refl;
        step = record { fits = shows.fits; noted = added-kind; keeps = keeps; leads = tt };
        brings = held-brings (own_view own) (Ce slot) named blob holds (bound-long spec.secret blob is.whole.stage)
            (sym (files-named spec.discard blob text) ∙ ap named_at (sym has.1.1.1.1.1.1.1.1.0));
        gains = held_by blob;
        gained = gains;
        lets_go = lets-all (held_by blob);
        held = inr refl;
        leads = leads-to tasks (OfProtect adding) Done (λ e. cc) refl refl (record {
          facts = (logged-step own (RenameDir Temp (Ce slot)) change, tt);
          known = (tt, tt);
          serves = record {
            command = serves.command;
            made_by = serves.made_by;
            changes = ap (λ changes. changes ++ AddChange opening.user slot spec.secret ∷ []) serves.changes;
          };
          same_user = refl;
          falls = omega arith;
          makes = omega arith;
          draws = omega arith;
        });
      };
      may = record {
        allowed = subst (λ command. AllowsChange (evidence_in opening.user scene.share) scene.boot scene.began command
            (AddChange opening.user slot spec.secret)) (sym serves.command) (
              serves.changes,
              (
                known,
                (refl, has.1.0.there),
                ap (λ s. AddChange opening.user s spec.secret) has.1.0.next,
              ),
            );
        right = subst (λ command. IfSome (opening_secret command) (IsUnder scene.share opening.user))
            (sym serves.command)
            (under-first opening.user scene.share sound has.0.present opening.secret (slot_at_hand opening.left)
            spec.key has.0 has.1.1.1.0);
        keeps = keeps-right scene opening.user change (λ attempts known secret. tt);
        keyless = tt;
      };
      lasts = omega arith;
    }
