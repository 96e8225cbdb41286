-- A command that opens its user's key shows what the task shows that opens it; and what it knows once the slots were
-- tried.
use Rattle.std.proofs.Common.{◌≡◌, ℕ, ◌<◌, true, List, [], ◌∷◌, refl, sym, subst, arith, inl, inr}
use Rattle.std.specs.Prelude.{Option, Some, None, is_some, IsSome}
use Rattle.tree_model.specs.declared.places.Class.TheVariants.{Ce as ForCe}
use Rattle.tree_model.specs.declared.places.Slot.{Slot}
use Rattle.tree_model.specs.declared.sites.Site.TheVariants.{De}
use Rattle.tree_model.specs.Parts.{standing}
use Rattle.journal_model.specs.Machine.{LacksSecret}
use Rattle.journal_model.specs.Users.{Record}
use Rattle.keystore_model.proofs.Elements.{Contains-none}
use Rattle.step_core.specs.Jobs.{output_of}
use Rattle.user_world.specs.Meaning.{PartStands}
use Rattle.user_world.specs.OwnWorlds.{own_view, own_record}
use Rattle.user_world.proofs.OwnWorlds.{view-stands}
use Rattle.key_directory.specs.Opened.{WasGiven, answer_in}
use Rattle.key_directory.specs.Vaults.{sealed, SealedStands}
use Rattle.key_directory.proofs.Opened.{slots-tell, wrong-secret}
use Rattle.task_turns.specs.declared.calls.Answer.{Answer}
use Rattle.task_turns.specs.declared.calls.Answer.TheVariants.{Output, Directory, Decrypted}
use Rattle.task_turns.specs.Shares.{Share, AreHeld, IsSound, IsUnder, IsGiven, IsFirstOpened, AreLeftToTry}
use Rattle.task_turns.specs.Turns.{Tasks, Scene, Leads, TurnShows, evidence_in, seen_of, no_cost}
use Rattle.open_task.specs.declared.stages.Doing.{Doing}
use Rattle.open_task.specs.declared.stages.Doing.TheVariants.{Read, Work, Decrypt}
use Rattle.open_task.specs.declared.stages.Stage.{Stage}
use Rattle.open_task.specs.declared.stages.Stage.TheVariants.{Reading, Read as ReadStage, Tied, Opened}
use Rattle.open_task.specs.Task.{Opening, key_in, facts_at, left_at}
use Rattle.open_task.specs.Turns.{Leads as OpenLeads, DoingShows}
use Rattle.user_tasks.specs.Turns.{opening_turn}

-- the task that opens it holds no blob
pub holds-none : (secret : List ℕ) (left : List Slot) (stage : Stage) → AreHeld [] (facts_at secret left stage)
holds-none secret left Reading = (tt, tt)
holds-none secret [] (ReadStage files) = (tt, tt)
holds-none secret (slot ∷ slots) (ReadStage files) = (tt, (tt, tt))
holds-none secret [] (Tied files app_id) = (tt, (tt, tt))
holds-none secret (slot ∷ slots) (Tied files app_id) = (tt, (tt, (tt, tt)))
holds-none secret left (Opened key) = (tt, tt)

pub some-key : (stage : Stage) (key : List ℕ) → key_in stage ≡ Some key → stage ≡ Opened key
some-key Reading key is = cc
some-key (ReadStage files) key is = cc
some-key (Tied files app_id) key is = cc
some-key (Opened other) key is = cc

-- where it has ended without a key, it was to read and no slot is left
pub none-left : (stage : Stage) (left : List Slot) → left_at left stage ≡ 0 → key_in stage ≡ None
    → (stage ≡ Reading) × (left ≡ [])
none-left Reading [] ended none = (refl, refl)
none-left Reading (slot ∷ slots) ended none = absurd (omega (arith, ended))
none-left (ReadStage files) left ended none = absurd (omega (arith, ended))
none-left (Tied files app_id) left ended none = absurd (omega (arith, ended))
none-left (Opened key) left ended none = cc

-- a task that leads on as the one does that opens the key, and goes on holding what it holds
module _ {T : Type 0} (tasks : Tasks T) (task : T) (opening : Opening) (scene : Scene)
    (mine : (tasks.rest_of task).user ≡ opening.user) (lasts : 1 < (tasks.rest_of task).left)
    (still : (answer : Answer) → (tasks.rest_of (tasks.after task answer)).held ≡ (tasks.rest_of task).held)
    (leads-on : (answer : Answer) → OpenLeads opening answer scene.share
    → Leads (seen_of tasks task) answer scene None no_cost scene.share) where
  pub opening-shows : (doing : Doing) → DoingShows opening scene.share doing
      → TurnShows (seen_of tasks task) scene (opening_turn opening.user doing)
  opening-shows (Read slot) reads = record {
    stands = record {
      quiet = refl;
      mine = sym mine;
      there = reads.there;
      each = λ files is. record {
        held = still (Directory files);
        leads = leads-on (Directory files) (reads.leads files is);
      };
    };
    may = tt;
    lasts = omega (arith, lasts);
  }
  opening-shows (Work job) works = record {
    held = still (Output (output_of job.input));
    leads = leads-on (Output (output_of job.input)) works.leads;
  }
  opening-shows (Decrypt blob app_id text) decrypts = record {
    stands = record {
      quiet = refl;
      long = decrypts.long;
      held = still (Decrypted (answer_in scene.share.vault blob app_id text));
      leads = leads-on (Decrypted (answer_in scene.share.vault blob app_id text)) decrypts.leads;
    };
    may = tt;
    lasts = omega (arith, lasts);
  }

-- the user's record, for which the view stands
module _ (user : ℕ) (share : Share) (sound : IsSound user share) (present : IsSome (own_view share.own De)) where
  pub record Known : Type 0 where
    pub known : Record
    pub there : own_record share.own ≡ Some known
    pub stands : SealedStands share.vault user (standing (own_view share.own)) known

  pub known-user : Known
  known-user = by (own_record share.own) refl (view-stands (sealed share.vault) user share.own sound.images)
    where
      by : (found : Option Record) → own_record share.own ≡ found
          → PartStands (sealed share.vault) user (own_view share.own) found → Known
      by None is stands = let gone = subst (λ files. is_some files ≡ true) stands present in cc
      by (Some known) is stands = record { known = known; there = is; stands = stands }

  -- what the first slot opens to that opens with a secret which was given is the user's key, where no tag matched by
  -- chance
  pub given-first : (secret : List ℕ) (slot : Slot) (key : List ℕ) → IsFirstOpened share secret slot key
      → WasGiven (share.vault.attempts user) secret → IsGiven share user ForCe key
  given-first secret slot key opened gave = let is = known-user in record {
    known = is.known;
    there = is.there;
    given = λ sure.
        (slots-tell share.vault user (own_view share.own) is.known slot opened.files secret is.stands
        opened.there).right sure gave key opened.opens.opens_to;
  }

  -- and the secret is a right one
  pub under-first : (secret : List ℕ) (slot : Slot) (key : List ℕ) → IsFirstOpened share secret slot key
      → WasGiven (share.vault.attempts user) secret → IsUnder share user secret
  under-first secret slot key opened gave = let is = known-user in record {
    known = is.known;
    there = is.there;
    under = λ sure. record {
      slot = slot;
      under = (slots-tell share.vault user (own_view share.own) is.known slot opened.files secret is.stands
          opened.there).under sure gave key opened.opens.opens_to;
    };
  }

  -- where none is left to try, the secret is a wrong one
  pub gave-wrong : (secret : List ℕ) → AreLeftToTry share secret []
      → LacksSecret (evidence_in user share) user secret
  gave-wrong secret left = let is = known-user in (
    is.known,
    (refl, is.there),
    wrong-secret share.vault user (own_view share.own) is.known secret is.stands (λ slot files there.
        elim (left.tried slot files there) [
          | inl among ↦ absurd (Contains-none slot among)
          | inr shut ↦ shut.opens_to
        ]),
  )
