-- Each turn of a task that opens a key shows what it has to.
use Rattle.std.proofs.Common.{◌≡◌, ◌≢◌, ℕ, ◌+◌, ◌*◌, ◌<◌, List, [], ◌∷◌, length, refl, sym, ap, ◌∙◌, subst, arith}
use Rattle.std.proofs.Common.{eq-eqb, cond}
use Rattle.std.specs.Prelude.{Option, Some, None, is_some}
use Rattle.tree_model.specs.declared.blobs.Blob.{Blob}
use Rattle.tree_model.specs.declared.places.Slot.{Slot}
use Rattle.tree_model.specs.Dir.{Files}
use Rattle.tree_model.specs.Named.{named_at}
use Rattle.journal_model.specs.Hashes.{app_id_of, wrap_key_of}
use Rattle.journal_model.specs.Sealed.{unsealed_key}
use Rattle.step_core.specs.declared.jobs.Job.{Job}
use Rattle.keystore_model.proofs.Elements.{Contains-first}
use Rattle.key_directory.specs.Shape.{sized}
use Rattle.key_directory.specs.Opened.{FitsFiles, discard_at, sealed_at, answer_in, key_in_answer}
use Rattle.key_directory.proofs.Fitting.{fitting}
use Rattle.open_task.specs.declared.stages.Doing.{Doing}
use Rattle.open_task.specs.declared.stages.Doing.TheVariants.{Read as ReadSlot, Work, Decrypt}
use Rattle.open_task.specs.declared.stages.Stage.{Stage}
use Rattle.open_task.specs.declared.stages.Stage.TheVariants.{Reading, Read, Tied, Opened}
use Rattle.open_task.specs.Task.{Opening, IsStage, IsOpening, left_of, older, opened, with_stage}
use Rattle.open_task.specs.Task.{asks_of, job_of}
use Rattle.open_task.specs.Turns.{OpenTurns, AsksFor, OpenAsks, Decrypts}
use Rattle.open_task.proofs.Tried.{tried}

-- a task with what is left, at a stage
abbrev staged : Opening → List Slot → Stage → Opening
staged task left stage = record task { left = left; stage = stage }

-- fewer turns are left once a slot was tried
falls-tried : (task : Opening) (slot : Slot) (slots : List Slot) (stage : Stage) (key : Option (List ℕ)) (more : ℕ)
    → 0 < more
    → left_of (with_stage (staged task (slot ∷ slots) stage) (opened key)) < 3 * length slots + more
falls-tried task slot slots stage None more some = omega arith
falls-tried task slot slots stage (Some key) more some = omega arith

asks-none : (task : Opening) (slot : Slot) (slots : List Slot) (stage : Stage) (key : Option (List ℕ))
    → asks_of (with_stage (staged task (slot ∷ slots) stage) (opened key)) < 1
asks-none task slot slots stage None = omega arith
asks-none task slot slots stage (Some key) = omega arith

module _ (task : Opening) (slot : Slot) (slots : List Slot) where
  -- the slot at hand is read
  reads : OpenTurns (staged task (slot ∷ slots) Reading) (Some (ReadSlot slot))
  reads = (
    (λ ended. absurd (omega (arith, ended))),
    λ share sound has.
        let may = has.0.may slot (Contains-first slot slots) in record {
          there = ap is_some may.there;
          leads = λ files there.
              let same : Some may.files ≡ Some files = sym may.there ∙ there in
              let one : may.files ≡ files = cc in record {
                answers = ((λ e. cc), subst (λ dir. FitsFiles dir task.secret) one may.fits);
                falls = omega arith;
                facts = (has.0, (there, tt));
              };
        },
  )

  module _ (files : Files) where
    -- a directory whose key lies under an entry wants its app id
    bound-works : (fits : FitsFiles files []) →
        let it = record (staged task (slot ∷ slots) (Read files)) { secret = [] } in
        OpenTurns it (Some (Work (job_of it files)))
    bound-works fits = (
      (λ ended. absurd (omega (arith, ended))),
      λ share sound has. record {
        number = refl;
        leads = record { answers = tt; falls = omega arith; facts = (has.0, (has.1.0, (refl, tt))) };
      },
    )

    -- and one that a secret protects is opened with it
    secret-works : (byte : ℕ) (bytes : List ℕ) (fits : FitsFiles files (byte ∷ bytes)) →
        let it = record (staged task (slot ∷ slots) (Read files)) { secret = byte ∷ bytes } in
        OpenTurns it (Some (Work (job_of it files)))
    secret-works byte bytes fits = (
      (λ ended. absurd (omega (arith, ended))),
      λ share sound has. record {
        number = refl;
        leads = record {
          answers = tt;
          falls = falls-tried (record task { secret = byte ∷ bytes }) slot slots (Read files)
              (unsealed_key (wrap_key_of (app_id_of (discard_at files) (byte ∷ bytes))) (sealed_at files)) 2
              (omega arith);
          facts = tried (record task { secret = byte ∷ bytes; stage = Read files }) share sound slot slots files has.0
              has.1.0 (unsealed_key (wrap_key_of (app_id_of (discard_at files) (byte ∷ bytes))) (sealed_at files))
              (fitting.secret share.vault files byte bytes fits);
        };
      },
    )

    works : (secret : List ℕ) (fits : FitsFiles files secret) →
        let it = record (staged task (slot ∷ slots) (Read files)) { secret = secret } in
        OpenTurns it (Some (Work (job_of it files))) × AsksFor it (job_of it files)
    works [] fits = (bound-works fits, record { whole = tt; hears = tt; fewer = omega arith })
    works (byte ∷ bytes) fits = (
      secret-works byte bytes fits,
      record {
        whole = fitting.long files (byte ∷ bytes) fits;
        hears = tt;
        fewer = asks-none (record task { secret = byte ∷ bytes }) slot slots (Read files)
            (unsealed_key (wrap_key_of (app_id_of (discard_at files) (byte ∷ bytes))) (sealed_at files));
      },
    )

    -- the keystore opens the key
    decrypts : (blob : Blob) (app_id : List ℕ) → FitsFiles files [] → named_at (Some files) ≡ Some blob →
        let it = record (staged task (slot ∷ slots) (Tied files app_id)) { secret = [] } in
        OpenTurns it (Some (Decrypt blob app_id (sealed_at files)))
    decrypts blob app_id fits names = (
      (λ ended. absurd (omega (arith, ended))),
      λ share sound has.
          let key = key_in_answer (answer_in share.vault blob app_id (sealed_at files)) in record {
            long = fitting.long files [] fits;
            leads = record {
              answers = tt;
              falls = falls-tried (record task { secret = [] }) slot slots (Tied files app_id) key 1 (omega arith);
              facts = tried (record task { secret = []; stage = Tied files app_id }) share sound slot slots files has.0
                  has.1.0 key
                  (fitting.bound share.vault files blob sound.current fits names
                  ∙ ap (λ id. key_in_answer (answer_in share.vault blob id (sealed_at files))) (sym has.1.1.0));
            };
          },
    )

-- what is left is a slot and others
pub some-slot : (left : List Slot) → left ≢ [] → (slot : Slot) × (left ≡ slot ∷ older left)
some-slot [] some = absurd (some refl)
some-slot (slot ∷ slots) some = (slot, refl)

module _ (task : Opening) where
  at-stage : (left : List Slot) (stage : Stage) (doing : Option Doing) → task.left ≡ left → task.stage ≡ stage
      → OpenTurns (staged task left stage) doing → OpenTurns task doing
  at-stage left stage doing is here turns =
      subst (λ s. OpenTurns (staged task task.left s) doing) (sym here)
      (subst (λ l. OpenTurns (staged task l stage) doing) (sym is) turns)

  pub read-turn : (slot : Slot) → task.left ≡ slot ∷ older task.left → task.stage ≡ Reading
      → OpenTurns task (Some (ReadSlot slot))
  read-turn slot is here =
      at-stage (slot ∷ older task.left) Reading (Some (ReadSlot slot)) is here (reads task slot (older task.left))

  pub end-turn : task.left ≡ [] → task.stage ≡ Reading → OpenTurns task None
  end-turn none here = at-stage [] Reading None none here refl

  pub opened-turn : (key : List ℕ) → task.stage ≡ Opened key → OpenTurns task None
  opened-turn key here = at-stage task.left (Opened key) None refl here refl

  module _ (is : IsOpening task) (files : Files) where
    work-of : task.stage ≡ Read files
        → OpenTurns task (Some (Work (job_of task files))) × AsksFor task (job_of task files)
    work-of here =
        let stage = subst (IsStage task.secret task.left) here is in
        let some = some-slot task.left stage.0 in
        subst (λ s. OpenTurns (staged task task.left s) (Some (Work (job_of task files)))
        × AsksFor (staged task task.left s) (job_of task files)) (sym here)
        (subst (λ l. OpenTurns (staged task l (Read files)) (Some (Work (job_of task files)))
        × AsksFor (staged task l (Read files)) (job_of task files)) (sym some.1)
        (works task some.0 (older task.left) files task.secret stage.1))

    pub work-turn : task.stage ≡ Read files → (job : Job) → job ≡ job_of task files
        → OpenTurns task (Some (Work job)) × AsksFor task job
    work-turn here job made =
        subst (λ j. OpenTurns task (Some (Work j)) × AsksFor task j) (sym made) (work-of here)

    pub decrypt-turn : (app_id : List ℕ) (doing : Doing) → task.stage ≡ Tied files app_id
        → Decrypts files app_id doing → OpenTurns task (Some doing) × OpenAsks task (Some doing)
    decrypt-turn app_id doing here so =
        let stage = subst (IsStage task.secret task.left) here is in
        let some = some-slot task.left stage.0 in
        subst (λ d. OpenTurns task (Some d) × OpenAsks task (Some d)) (sym so.is) (
          at-stage (some.0 ∷ older task.left) (Tied files app_id) (Some (Decrypt so.blob app_id (sealed_at files)))
              some.1 here
              (subst (λ s. OpenTurns
              (record (staged task (some.0 ∷ older task.left) (Tied files app_id)) { secret = s })
              (Some (Decrypt so.blob app_id (sealed_at files)))) (sym stage.2)
              (decrypts task some.0 (older task.left) files so.blob app_id
              (subst (FitsFiles files) stage.2 stage.1) so.names)),
          tt,
        )

-- a blob of 32 bytes is what a directory names that may open with no secret
pub fitting-named : (files : Files) (fits : FitsFiles files [])
    → sized (named_at (Some files)) ≡ Some (fitting.names files fits).0
fitting-named files fits = let named = fitting.names files fits in
    ap sized named.1 ∙ ap (λ test. cond test (Some named.0) None) (eq-eqb (length named.0) 32 named.2)

pub named-one : (files : Files) (blob : Blob) → FitsFiles files [] → sized (named_at (Some files)) ≡ Some blob
    → named_at (Some files) ≡ Some blob
named-one files blob fits is = (fitting.names files fits).1 ∙ sym (fitting-named files fits) ∙ is
