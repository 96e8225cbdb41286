-- The two renames of a create: the credential key's directory is put in place, and then the device key's, which makes
-- the user.
use Rattle.std.proofs.Common.{◌≡◌, ◌≢◌, ℕ, List, [], ◌∷◌, ◌++◌, refl, sym, ap, ◌∙◌, subst, arith, inl, inr}
use Rattle.std.specs.Prelude.{Option, Some, None, IfSome, length}
use Rattle.tree_model.specs.declared.blobs.Blob.{Blob}
use Rattle.tree_model.specs.declared.places.Class.TheVariants.{De as ForDe, Ce as ForCe}
use Rattle.tree_model.specs.declared.places.Place.TheVariants.{De as DePlace, Ce as CePlace}
use Rattle.tree_model.specs.declared.places.Slot.TheVariants.{Current}
use Rattle.tree_model.specs.declared.sites.Site.{Site}
use Rattle.tree_model.specs.declared.sites.Site.TheVariants.{De, Ce, Temp}
use Rattle.tree_model.specs.declared.sites.LocalOp.{LocalOp}
use Rattle.tree_model.specs.declared.sites.LocalOp.TheVariants.{RenameDir}
use Rattle.tree_model.specs.Dir.{Files}
use Rattle.tree_model.specs.Named.{named_at}
use Rattle.tree_model.specs.Parts.{Part}
use Rattle.tree_model.specs.Sites.{site_of}
use Rattle.keystore_model.proofs.Elements.{Contains-first}
use Rattle.journal_model.specs.declared.commands.Command.TheVariants.{Create as CreateCommand}
use Rattle.journal_model.specs.declared.entries.Birth.{Birth}
use Rattle.journal_model.specs.declared.entries.Change.TheVariants.{Create as CreateChange}
use Rattle.journal_model.specs.Machine.{AllowsChange}
use Rattle.user_world.specs.declared.changes.LocalChange.TheVariants.{Born}
use Rattle.user_world.specs.OwnWorlds.{quiet, own_view}
use Rattle.user_world.proofs.OwnWorlds.{keeps-absent}
use Rattle.user_world.proofs.Facts.{knows-step, here-step, logged-step}
use Rattle.key_directory.specs.Vaults.{sealed}
use Rattle.task_turns.specs.declared.calls.Answer.TheVariants.{Done}
use Rattle.task_turns.specs.declared.calls.Call.TheVariants.{Op as OpCall}
use Rattle.task_turns.specs.Names.{BringsBlob}
use Rattle.task_turns.specs.Shares.{Share, AllHas}
use Rattle.task_turns.specs.Turns.{seen_of, Scene, operated, noting, CallShows, evidence_in}
use Rattle.store_task.specs.declared.turns.StoreSpec.{StoreSpec}
use Rattle.store_task.specs.declared.stages.Stage.{Stage as StoreStage}
use Rattle.store_task.specs.declared.stages.Stage.TheVariants.{First, Tied, Generated, Storing}
use Rattle.store_task.specs.declared.stages.Progress.{Progress}
use Rattle.store_task.specs.declared.stages.Progress.TheVariants.{Absent, Settled, Stored}
use Rattle.store_task.specs.Task.{Task, IsTask, held_by, all_files, progress_of}
use Rattle.store_task.specs.Turns.{TreeShows}
use Rattle.store_task.proofs.StoredFiles.{files-named}
use Rattle.user_tasks.specs.declared.creates.Stage.TheVariants.{StoringCe, StoringDe}
use Rattle.user_tasks.specs.Create.{Creating, Stores, IsCreate, create_rest, creates}
use Rattle.user_tasks.specs.Stores.{part}
use Rattle.blob_custody.proofs.Steps.{lets-none}
use Rattle.user_tasks.proofs.AsideOps.{absent-gains, lets-all}
use Rattle.user_tasks.proofs.NewUsers.{sealing-tried, IsKept, keeps-born, born-gains}
use Rattle.user_tasks.proofs.Rights.{gave-none, keeps-right}
use Rattle.user_tasks.proofs.Whole.{same-parts, always-here}
use Rattle.user_tasks.proofs.Leading.{leads-to}

-- a task that holds as much holds the same blob
held-same : (named blob : Option Blob) → held_by named ≡ held_by blob → named ≡ blob
held-same None None is = refl
held-same None (Some blob) is = cc
held-same (Some named) None is = cc
held-same (Some named) (Some blob) is = let same : named ≡ blob = cc in ap Some same

-- a rename brings the blob that the task holds
pub held-brings : (view : Part) (target : Site) (named blob : Option Blob) → held_by named ≡ held_by blob
    → IfSome blob (λ one. length one ≡ 32) → blob ≡ named_at (view Temp)
    → BringsBlob view (RenameDir Temp target) named
held-brings view target named blob holds long is = record {
  brings = held-same named blob holds ∙ is;
  long = subst (λ found. IfSome found (λ one. length one ≡ 32)) (sym (held-same named blob holds)) long;
}

-- what the written task is known by
pub record IsWritten (task : Task) (progress : Progress) : Type 0 where
  pub blob : Blob
  pub long : length blob ≡ 32
  pub text : List ℕ
  pub stage : task.stage ≡ Storing (Some blob) text progress

pub written-at : (spec : StoreSpec) (job : ℕ) (stage : StoreStage) (progress : Progress)
    → IsTask (record { spec = spec; job = job; stage = stage }) → spec.secret ≡ [] → progress ≢ Absent
    → progress_of stage ≡ progress
    → IsWritten (record { spec = spec; job = job; stage = stage }) progress
written-at spec job First progress whole bare other is = absurd (other (sym is))
written-at spec job (Tied app_id) progress whole bare other is = absurd (other (sym is))
written-at spec job (Generated app_id blob) progress whole bare other is = absurd (other (sym is))
written-at spec job (Storing None text at) progress whole bare other is = absurd (whole.stage bare)
written-at spec job (Storing (Some blob) text at) progress whole bare other is =
    record { blob = blob; long = whole.stage.1; text = text; stage = ap (Storing (Some blob) text) is }

module _ (user : ℕ) (birth : Birth) (ce_spec de_spec : StoreSpec) (ce_job de_job : ℕ) where
  abbrev stored_ce : Blob → List ℕ → Progress → Task
  stored_ce blob text progress = record { spec = ce_spec; job = ce_job; stage = Storing (Some blob) text progress }

  -- the credential key's directory is synced in the temporary place, and the other task has not begun
  module _ (blob : Blob) (text : List ℕ) where
    abbrev first_de : Task
    first_de = record { spec = de_spec; job = de_job; stage = First }

    abbrev putting_ce : Creating
    putting_ce =
        record { user = user; birth = birth; ce = stored_ce blob text Settled; de = first_de; stage = StoringCe }

    abbrev ce_files : Files
    ce_files = all_files ce_spec.discard (Some blob) text

    abbrev put_ce : LocalOp
    put_ce = RenameDir Temp (Ce Current)

    module _ (scene : Scene) (has : AllHas (create_rest putting_ce).facts scene.share) where
      abbrev then : Share
      then = operated scene.share put_ce None

      view-ce : own_view scene.share.own ≡ part None (Some ce_files)
      view-ce = always-here scene.share.own (part None (Some ce_files)) has.1.1.1.0

      here-ce : own_view then.own ≡ part (Some ce_files) None
      here-ce = here-step scene.share.own (quiet put_ce) (part None (Some ce_files)) _ view-ce
          (same-parts _ _ refl refl (λ n. refl) refl)

      pub ce-put : (named : Option Blob) → Stores user ForDe (DePlace user) first_de
          → IsCreate user birth StoringCe scene.boot scene.began
          → TreeShows (stored_ce blob text Settled) scene.share put_ce → held_by named ≡ blob ∷ []
          → length blob ≡ 32
          → CallShows (seen_of creates putting_ce) scene (OpCall user put_ce named) None
      ce-put named stores serves shows holds long = record {
        stands = record {
          mine = refl;
          step = record {
            fits = shows.fits;
            noted = refl;
            keeps = keeps-absent (sealed scene.share.vault) user scene.share.own put_ce has.0 refl;
            leads = tt;
          };
          brings = held-brings (own_view scene.share.own) (Ce Current) named (Some blob) holds long
              (sym (files-named ce_spec.discard (Some blob) text) ∙ sym (ap (λ p. named_at (p Temp)) view-ce));
          gains = [];
          gained = absent-gains scene.share.own put_ce refl (λ left is. ap (λ p. p De) (has.1.1.1.0 left is));
          lets_go = lets-none (blob ∷ []) _ refl;
          held = inl refl;
          leads = leads-to creates putting_ce Done (λ e. cc) refl refl (record {
            facts = (
              knows-step scene.share.own (quiet put_ce) None has.0,
              (
                has.1.0,
                (
                  has.1.1.0,
                  (
                    (shows.leads None).facts.0,
                    (
                      here-ce,
                      (
                        ap (λ p. p Temp) here-ce,
                        (
                          subst (λ place. own_view then.own (site_of place) ≡ None) (sym stores.placed)
                              (ap (λ p. p De) here-ce),
                          tt,
                        ),
                      ),
                    ),
                  ),
                ),
              ),
            );
            known = (tt, (tt, (tt, (Contains-first blob [], (tt, (tt, (tt, tt)))))));
            serves = record { command = serves.command; born = serves.born; changes = serves.changes };
            same_user = refl;
            falls = omega arith;
            makes = omega arith;
            draws = omega arith;
          });
        };
        may = tt;
        lasts = omega arith;
      }

  -- the device key's directory is synced in the temporary place, and the other one stands
  module _ (ce_blob de_blob : Blob) (ce_text de_text : List ℕ) where
    abbrev settled_de : Task
    settled_de = record { spec = de_spec; job = de_job; stage = Storing (Some de_blob) de_text Settled }

    abbrev putting_de : Creating
    putting_de = record {
      user = user;
      birth = birth;
      ce = stored_ce ce_blob ce_text Stored;
      de = settled_de;
      stage = StoringDe;
    }

    abbrev put_de : LocalOp
    put_de = RenameDir Temp De

    abbrev both_files : Part
    both_files = part (Some (all_files ce_spec.discard (Some ce_blob) ce_text))
        (Some (all_files de_spec.discard (Some de_blob) de_text))

    module _ (scene : Scene) (has : AllHas (create_rest putting_de).facts scene.share)
        (ce_stores : Stores user ForCe (CePlace user Current) (stored_ce ce_blob ce_text Stored))
        (de_stores : Stores user ForDe (DePlace user) settled_de) where
      -- what directories are opened with once the birth is noted
      abbrev noted : Share
      noted = record scene.share { vault = noting user scene (Some (Born birth)) }

      abbrev ce-kept : IsKept noted user birth ForCe (stored_ce ce_blob ce_text Stored)
      ce-kept = record {
        whole = ce_stores.whole;
        tagged = ce_stores.tagged;
        bare = ce_stores.bare;
        blob = ce_blob;
        sealed = ce_text;
        bound = ce_stores.whole.stage;
        has = sealing-tried ce_spec (Some ce_blob) ce_text scene.share noted.vault.attempts has.1.1.1.0;
        given = has.1.0;
      }

      abbrev de-kept : IsKept noted user birth ForDe settled_de
      de-kept = record {
        whole = de_stores.whole;
        tagged = de_stores.tagged;
        bare = de_stores.bare;
        blob = de_blob;
        sealed = de_text;
        bound = de_stores.whole.stage;
        has = sealing-tried de_spec (Some de_blob) de_text scene.share noted.vault.attempts has.1.1.1.1.1.0;
        given = has.1.1.0;
      }

      view-both : own_view scene.share.own ≡ both_files
      view-both = always-here scene.share.own both_files has.1.1.1.1.0

      -- the user is there then, and both blobs are let go
      pub de-put : (named : Option Blob) → IsCreate user birth StoringDe scene.boot scene.began
          → TreeShows settled_de scene.share put_de → held_by named ≡ de_blob ∷ []
          → CallShows (seen_of creates putting_de) scene (OpCall user put_de named) (Some (Born birth))
      de-put named serves shows holds = record {
        stands = record {
          mine = refl;
          step = record {
            fits = shows.fits;
            noted = refl;
            keeps = keeps-born ce-kept de-kept scene.share.own has.1.1.1.1.0;
            leads = tt;
          };
          brings = held-brings (own_view scene.share.own) De named (Some de_blob) holds de_stores.whole.stage.1
              (sym (files-named de_spec.discard (Some de_blob) de_text) ∙ sym (ap (λ p. named_at (p Temp)) view-both));
          gains = ce_blob ∷ de_blob ∷ [];
          gained = born-gains ce-kept de-kept scene.share.own has.1.1.1.1.0;
          lets_go = lets-all (ce_blob ∷ de_blob ∷ []);
          held = inr refl;
          leads = leads-to creates putting_de Done (λ e. cc) refl refl (record {
            facts = (
              logged-step scene.share.own put_de (Born birth),
              (
                knows-step scene.share.own (record { op = put_de; note = Some (Born birth) }) None has.0,
                (has.1.1.0, (has.1.0, tt)),
              ),
            );
            known = (tt, (tt, (tt, (tt, tt))));
            serves = record {
              command = serves.command;
              born = serves.born;
              changes = ap (λ changes. changes ++ CreateChange user birth ∷ []) serves.changes;
            };
            same_user = refl;
            falls = omega arith;
            makes = omega arith;
            draws = omega arith;
          });
        };
        may = record {
          allowed = subst (λ command. AllowsChange (evidence_in user scene.share) scene.boot scene.began command
              (CreateChange user birth)) (sym serves.command) (serves.changes, ap (CreateChange user) serves.born);
          right = gave-none scene user (CreateCommand user) serves.command refl;
          keeps = keeps-right scene user (Born birth) (λ attempts known secret. tt);
          keyless = tt;
        };
        lasts = omega arith;
      }
