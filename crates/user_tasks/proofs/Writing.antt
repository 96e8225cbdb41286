-- While a store task of a command works, each of its turns but the one that puts the directory in place shows what the
-- command has to.
use Rattle.std.proofs.Common.{◌≡◌, ◌≢◌, ℕ, ◌+◌, ◌<◌, ◌≤◌, List, [], ◌∷◌, ◌++◌, refl, sym, ap, ◌∙◌}
use Rattle.std.proofs.Common.{subst, arith, append_assoc, inl, inr}
use Rattle.std.specs.Prelude.{Option, Some, None, Contains}
use Rattle.std.proofs.lemmas.List.{append-nil}
use Rattle.std.proofs.lemmas.List.Elements.{Contains-append_left, Contains-append_right}
use Rattle.std.proofs.lemmas.Option.{none-some}
use Rattle.tree_model.specs.declared.blobs.Blob.{Blob}
use Rattle.tree_model.specs.declared.sites.LocalOp.{LocalOp}
use Rattle.keystore_model.specs.declared.entry.StoreEntry.{StoreEntry}
use Rattle.keystore_model.specs.declared.entry.Tag.{Tag}
use Rattle.keystore_model.specs.Store.{entry_of}
use Rattle.keystore_model.proofs.Stores.{entry-push_other}
use Rattle.step_core.specs.declared.jobs.Job.{Job}
use Rattle.step_core.specs.Jobs.{output_of}
use Rattle.user_world.specs.declared.changes.LocalChange.{LocalChange}
use Rattle.user_world.specs.OwnWorlds.{own_view, own_record}
use Rattle.key_directory.specs.Vaults.{sealed}
use Rattle.task_turns.specs.declared.calls.Answer.{Answer}
use Rattle.task_turns.specs.declared.calls.Answer.TheVariants.{Done, Blob as IsBlob, Sealed, Output}
use Rattle.task_turns.specs.declared.calls.Call.TheVariants.{Op as OpCall, Sync as SyncCall}
use Rattle.task_turns.specs.Shares.{Share, ShareFact, AllHas, LaterShare, IsHeld, AreHeld, KeyFor, SealedFor}
use Rattle.task_turns.specs.Turns.{seen_of, Rest, Tasks, Scene, Cost, no_cost, operated, synced, with_entry, Leads}
use Rattle.task_turns.specs.Turns.{CallShows, GenerateShows, EncryptShows, WorkShows, TurnShows}
use Rattle.task_turns.proofs.Lasting.{facts-last}
use Rattle.store_task.specs.declared.stages.Progress.TheVariants.{Stored}
use Rattle.store_task.specs.declared.turns.Doing.{Doing}
use Rattle.store_task.specs.declared.turns.Doing.TheVariants.{Work, Generate, Encrypt, Tree, Sync as SyncDoing}
use Rattle.store_task.specs.Task.{Task, IsAnswer, after as store_after, facts_of, held_of, left_of, makes_in, makes_of}
use Rattle.store_task.specs.Task.{draws_of, progress_of, temp_of}
use Rattle.store_task.specs.Turns.{Leads as StoreLeads, WorkShows as StoreWork, GenerateShows as StoreGenerate}
use Rattle.store_task.specs.Turns.{EncryptShows as StoreEncrypt, TreeShows, SyncShows as StoreSync, StaysAside}
use Rattle.store_task.specs.Turns.{PutsInPlace, DoingShows}
use Rattle.store_task.proofs.HeldBlobs.{blobs-held}
use Rattle.store_task.proofs.Places.{temp-written}
use Rattle.user_tasks.specs.Stores.{Frame, rest_in, whole_facts, op_turn, turn_of}
use Rattle.blob_custody.proofs.Steps.{lets-none}
use Rattle.user_tasks.proofs.AsideOps.{IsAside, aside-brings, aside-turn, aside-drops, aside-step, aside-gains}
use Rattle.user_tasks.proofs.AsideOps.{whole-aside}
use Rattle.user_tasks.proofs.Leading.{none-more, leads-to}
use Rattle.user_tasks.proofs.Preparing.{Prepares, after-output, after-blob, after-sealed, done-held, done-draws}
use Rattle.user_tasks.proofs.Preparing.{absent-unsettled, absent-goes_on, settled-goes_on}
use Rattle.user_tasks.proofs.Whole.{whole-held, whole-prepared, whole-synced}

-- facts of two lists
has-both : (facts more : List ShareFact) (share : Share) → AllHas facts share → AllHas more share
    → AllHas (facts ++ more) share
has-both [] more share has also = also
has-both (fact ∷ facts) more share has also = (has.0, has-both facts more share has.1 also)

has-first : (facts more : List ShareFact) (share : Share) → AllHas (facts ++ more) share → AllHas facts share
has-first [] more share has = tt
has-first (fact ∷ facts) more share has = (has.0, has-first facts more share has.1)

has-rest : (facts more : List ShareFact) (share : Share) → AllHas (facts ++ more) share → AllHas more share
has-rest [] more share has = has
has-rest (fact ∷ facts) more share has = has-rest facts more share has.1

-- the blobs of facts are held among more blobs
held-fact : (held more : List Blob) → ((blob : Blob) → Contains held blob → Contains more blob)
    → (fact : ShareFact) → IsHeld held fact → IsHeld more fact
held-fact held more among (KeyFor blob app_id tag) is = among blob is
held-fact held more among (SealedFor blob app_id tag nonce key text) is = among blob is
held-fact held more among fact is = is

held-more : (held more : List Blob) → ((blob : Blob) → Contains held blob → Contains more blob)
    → (facts : List ShareFact) → AreHeld held facts → AreHeld more facts
held-more held more among [] are = tt
held-more held more among (fact ∷ facts) are =
    (held-fact held more among fact are.0, held-more held more among facts are.1)

held-both : (held : List Blob) (facts more : List ShareFact) → AreHeld held facts → AreHeld held more
    → AreHeld held (facts ++ more)
held-both held [] more are also = also
held-both held (fact ∷ facts) more are also = (are.0, held-both held facts more are.1 also)

-- a sync and a further entry leave a share that is later
later-synced : (held : List Blob) (share : Share) → LaterShare held share (synced share)
later-synced held share =
    record {
      own = inr refl;
      level = refl;
      seed = refl;
      attempts = λ user. none-more (share.vault.attempts user);
      keys = refl;
      kept = λ blob has entry live. live;
      named = λ blob names entry live. live;
    }

later-entered : (held : List Blob) (share : Share) (blob : Blob) (tag : Tag) (app_id key : List ℕ)
    → entry_of share.vault.entries blob ≡ None → LaterShare held share (with_entry share blob tag app_id key)
later-entered held share blob tag app_id key none = record {
  own = inl refl;
  level = refl;
  seed = refl;
  attempts = λ user. none-more (share.vault.attempts user);
  keys = refl;
  kept = λ other has. stays other;
  named = λ other names. stays other;
}
  where
    stays : (other : Blob) (entry : StoreEntry) → entry_of share.vault.entries other ≡ Some entry
        → entry_of (with_entry share blob tag app_id key).vault.entries other ≡ Some entry
    stays other entry live = entry-push_other share.vault.entries _ other
        (λ same. none-some entry (sym none ∙ subst (λ b. entry_of share.vault.entries b ≡ Some entry) same live))
        ∙ live

-- the task rests where the frame says, and so after each answer to its store task that puts no directory in place
pub record IsFramed {T : Type 0} (tasks : Tasks T) (task : T) (frame : Frame) (store : Task) : Type 1 where
  pub rests : tasks.rest_of task ≡ rest_in frame store
  pub hears : (answer : Answer) → IsAnswer store answer → tasks.hears task answer
  pub goes_on : (answer : Answer) → IsAnswer store answer → progress_of (store_after store answer).stage ≢ Stored
      → tasks.rest_of (tasks.after task answer) ≡ rest_in frame (store_after store answer)
  pub owner : store.spec.tag.user ≡ frame.user
  -- what it else rests on lasts: it holds the blobs of that, and the store task's operations don't touch it
  pub base_held : AreHeld frame.before frame.base
  pub base_stays : (share : Share) (op : LocalOp) → IsAside op → AllHas frame.base share
      → AllHas frame.base (operated share op None)
  -- the store task's turns are not its last
  pub behind : 0 < frame.turns

module _ {T : Type 0} (tasks : Tasks T) (task : T) (frame : Frame) (store : Task)
    (framed : IsFramed tasks task frame store) (scene : Scene)
    (has : AllHas (rest_in frame store).facts scene.share) (serves : frame.serves scene.boot scene.began) where
  base-has : AllHas frame.base scene.share
  base-has = has-first frame.base _ scene.share has

  base-later : (share : Share) → LaterShare frame.before scene.share share → AllHas frame.base share
  base-later share later = facts-last frame.base frame.before scene.share share later framed.base_held base-has

  -- what is known of the whole part, with the store task so far
  abbrev whole_with : Task → List ShareFact
  whole_with then = whole_facts frame.current (progress_of then.stage) (temp_of then)

  whole-has : AllHas (whole_with store) scene.share
  whole-has = has-first (whole_with store) (facts_of store) scene.share (has-rest frame.base _ scene.share has)

  whole-later : (share : Share) → LaterShare frame.before scene.share share → AllHas (whole_with store) share
  whole-later share later = facts-last (whole_with store) frame.before scene.share share later
      (whole-held frame.before frame.current (progress_of store.stage) (temp_of store)) whole-has

  pub store-has : AllHas (facts_of store) scene.share
  store-has = has-rest (whole_with store) (facts_of store) scene.share (has-rest frame.base _ scene.share has)

  known-in : (then : Task) → AreHeld (rest_in frame then).held (rest_in frame then).facts
  known-in then = held-both (frame.before ++ held_of then) frame.base _
      (held-more frame.before _ (λ blob is. Contains-append_left frame.before (held_of then) blob is) frame.base
      framed.base_held)
      (held-both (frame.before ++ held_of then) (whole_with then) (facts_of then)
      (whole-held _ frame.current (progress_of then.stage) (temp_of then))
      (held-more (held_of then) _ (λ blob is. Contains-append_right frame.before (held_of then) blob is)
      (facts_of then) (blobs-held then)))

  -- the store task goes on, and what else the command rests on holds still
  record GoesOn (answer : Answer) (cost : Cost) (share : Share) : Type 0 where
    leads : StoreLeads store answer share
    on : progress_of (store_after store answer).stage ≢ Stored
    base : AllHas frame.base share
    whole : AllHas (whole_with (store_after store answer)) share
    makes : makes_of (store_after store answer) + cost.makes ≤ makes_of store
    lists : cost.lists ≡ 0
    draws : draws_of (store_after store answer) + cost.draws ≤ draws_of store

  goes-leads : (answer : Answer) (cost : Cost) (share : Share) → GoesOn answer cost share
      → Leads (seen_of tasks task) answer scene None cost share
  goes-leads answer cost share goes =
      leads-to tasks task answer (framed.hears answer goes.leads.answers) framed.rests
      (framed.goes_on answer goes.leads.answers goes.on)
      (record {
        facts = has-both frame.base _ share goes.base
            (has-both (whole_with (store_after store answer)) _ share goes.whole goes.leads.facts);
        known = known-in (store_after store answer);
        serves = serves;
        same_user = refl;
        falls = omega (arith, goes.leads.falls, goes.makes, goes.lists);
        makes = omega (arith, goes.makes);
        draws = omega (arith, goes.draws);
      })

  -- what it holds then
  held-then : (answer : Answer) (gains : List Blob) → IsAnswer store answer
      → progress_of (store_after store answer).stage ≢ Stored
      → held_of (store_after store answer) ≡ held_of store ++ gains
      → (tasks.rest_of (tasks.after task answer)).held ≡ (tasks.rest_of task).held ++ gains
  held-then answer gains answers on held =
      ap (λ (rest : Rest). rest.held) (framed.goes_on answer answers on)
      ∙ ap (λ blobs. frame.before ++ blobs) held ∙ sym (append_assoc frame.before (held_of store) gains)
      ∙ ap (λ (rest : Rest). rest.held ++ gains) (sym framed.rests)

  held-still : (answer : Answer) → IsAnswer store answer → progress_of (store_after store answer).stage ≢ Stored
      → held_of (store_after store answer) ≡ held_of store
      → (tasks.rest_of (tasks.after task answer)).held ≡ (tasks.rest_of task).held
  held-still answer answers on held =
      held-then answer [] answers on (held ∙ sym (append-nil (held_of store))) ∙ append-nil (tasks.rest_of task).held

  lasts : left_of store ≢ 0 → 1 < (tasks.rest_of task).left
  lasts unended = subst (λ (rest : Rest). 1 < rest.left) (sym framed.rests) (omega (arith, unended, framed.behind))

  -- before the directory is begun
  module _ (answer : Answer) (gains : List Blob) (draws : ℕ)
      (prepares : Prepares store.spec.discard store.stage (store_after store answer).stage gains draws) where
    prepared-on : progress_of (store_after store answer).stage ≢ Stored
    prepared-on = absent-goes_on _ prepares.then_absent

    prepared-whole : (share : Share) → AllHas (whole_with store) share
        → AllHas (whole_with (store_after store answer)) share
    prepared-whole share before = whole-prepared share (progress_of store.stage) _ (temp_of store) _ frame.current
        (absent-unsettled _ prepares.then_absent) (prepares.nothing ∙ sym prepares.then_nothing) before

    prepared-makes : makes_of (store_after store answer) + 0 ≤ makes_of store
    prepared-makes =
        let same : makes_of (store_after store answer) ≡ makes_of store =
        ap makes_in (prepares.then_absent ∙ sym prepares.absent) in omega (arith, same)

  work-shows : (job : Job) → StoreWork store scene.share job → WorkShows (seen_of tasks task) scene job
  work-shows job shows =
      let answer = Output (output_of job.input) in
      let prepares = after-output store.spec.discard store.spec.secret store.stage (output_of job.input)
      shows.leads.answers in record {
        held = held-then answer [] shows.leads.answers (prepared-on answer [] 0 prepares) prepares.held
            ∙ append-nil (tasks.rest_of task).held;
        leads = goes-leads answer no_cost scene.share (record {
          leads = shows.leads;
          on = prepared-on answer [] 0 prepares;
          base = base-has;
          whole = prepared-whole answer [] 0 prepares scene.share whole-has;
          makes = prepared-makes answer [] 0 prepares;
          lists = refl;
          draws = prepares.spent;
        });
      }

  generate-shows : (tag : Tag) (app_id : List ℕ) → StoreGenerate store scene.share tag app_id
      → GenerateShows (seen_of tasks task) scene tag app_id None
  generate-shows tag app_id shows = record {
    quiet = refl;
    tagged = ap (λ (t : Tag). t.user) shows.tagged ∙ framed.owner ∙ ap (λ (rest : Rest). rest.user) (sym framed.rests);
    each = λ blob key long none.
        let leads = shows.leads blob key long none in
        let prepares = after-blob store.spec.discard store.spec.secret store.stage blob leads.answers in
        let on = prepared-on (IsBlob blob) (blob ∷ []) 1 prepares in record {
          held = held-then (IsBlob blob) (blob ∷ []) leads.answers on prepares.held;
          leads = goes-leads (IsBlob blob) _ (with_entry scene.share blob tag app_id key) (record {
            leads = leads;
            on = on;
            base = base-later _ (later-entered frame.before scene.share blob tag app_id key none);
            whole = prepared-whole (IsBlob blob) (blob ∷ []) 1 prepares _
                (whole-later _ (later-entered frame.before scene.share blob tag app_id key none));
            makes = prepared-makes (IsBlob blob) (blob ∷ []) 1 prepares;
            lists = refl;
            draws = prepares.spent;
          });
        };
  }

  encrypt-shows : (blob : Blob) (app_id nonce key : List ℕ) → StoreEncrypt store scene.share blob app_id nonce key
      → EncryptShows (seen_of tasks task) scene blob app_id nonce key
  encrypt-shows blob app_id nonce key shows =
      let answers = shows.leads.answers in
      let prepares = after-sealed store.spec.discard store.spec.secret store.stage _ answers in
      let on = prepared-on (Sealed _) [] 0 prepares in record {
        under = record {
          entry = shows.entry;
          live = shows.live;
          bound = shows.bound;
          current = shows.current;
        };
        held = held-then (Sealed _) [] answers on prepares.held ∙ append-nil (tasks.rest_of task).held;
        leads = goes-leads (Sealed _) no_cost scene.share (record {
          leads = shows.leads;
          on = on;
          base = base-has;
          whole = prepared-whole (Sealed _) [] 0 prepares scene.share whole-has;
          makes = prepared-makes (Sealed _) [] 0 prepares;
          lists = refl;
          draws = prepares.spent;
        });
      }

  aside-shows : left_of store ≢ 0 → (op : LocalOp) → TreeShows store scene.share op → StaysAside store op
      → CallShows (seen_of tasks task) scene (OpCall frame.user op None) None
  aside-shows unended op shows aside =
      let leads = shows.leads None in
      let same = done-held store.spec.discard store.spec.secret store.stage leads.answers in record {
        stands = record {
          mine = ap (λ (rest : Rest). rest.user) (sym framed.rests);
          step = aside-step (sealed scene.share.vault) (tasks.rest_of task).user scene.share.own op aside.apart
              shows.fits;
          brings = record { brings = aside-brings (own_view scene.share.own) op aside.apart shows.fits; long = tt };
          gains = [];
          gained = aside-gains scene.share.own op aside.apart;
          lets_go = lets-none _ _ (held-still Done leads.answers aside.goes_on same);
          held = inl (held-still Done leads.answers aside.goes_on same);
          leads = goes-leads Done _ (operated scene.share op None) (record {
            leads = leads;
            on = aside.goes_on;
            base = framed.base_stays scene.share op aside.apart base-has;
            whole = whole-aside scene.share (progress_of store.stage) _ (temp_of store) _ op aside.apart
                aside.unsynced frame.current
                (temp-written (operated scene.share op None) (store_after store Done) leads.facts) whole-has;
            makes = shows.makes;
            lists = aside-drops op aside.apart (own_record scene.share.own);
            draws = let kept : draws_of (store_after store Done) ≡ draws_of store =
                done-draws store.spec.discard store.spec.secret store.stage leads.answers in omega (arith, kept);
          });
        };
        may = tt;
        lasts = omega (arith, lasts unended);
      }

  sync-shows : left_of store ≢ 0 → StoreSync store scene.share → CallShows (seen_of tasks task) scene SyncCall None
  sync-shows unended shows =
      let leads = shows.leads in
      let on = settled-goes_on _ shows.settles in
      let same = done-held store.spec.discard store.spec.secret store.stage leads.answers in record {
        stands = record {
          quiet = refl;
          held = held-still Done leads.answers on same;
          leads = goes-leads Done no_cost (synced scene.share) (record {
            leads = leads;
            on = on;
            base = base-later _ (later-synced frame.before scene.share);
            whole = whole-synced scene.share (progress_of store.stage) _ (temp_of store) _ frame.current shows.settles
                (temp-written (synced scene.share) (store_after store Done) leads.facts) whole-has;
            makes = let none : makes_of (store_after store Done) ≡ 0 = ap makes_in shows.settles in
                omega (arith, none);
            lists = refl;
            draws = let kept : draws_of (store_after store Done) ≡ draws_of store =
                done-draws store.spec.discard store.spec.secret store.stage leads.answers in omega (arith, kept);
          });
        };
        may = tt;
        lasts = omega (arith, lasts unended);
      }

  -- each turn, but for what puts the directory in place
  pub framed-shows : (doing : Doing) (named : Option Blob) (change : Option LocalChange) → left_of store ≢ 0
      → DoingShows store scene.share doing
      → ((op : LocalOp) → TreeShows store scene.share op → PutsInPlace store op
      → TurnShows (seen_of tasks task) scene (op_turn frame.user op named change))
      → TurnShows (seen_of tasks task) scene (turn_of frame.user doing named change)
  framed-shows (Work job) named change unended shows placed = work-shows job shows
  framed-shows (Generate tag app_id) named change unended shows placed = record {
    stands = generate-shows tag app_id shows;
    may = tt;
    lasts = omega (arith, lasts unended);
  }
  framed-shows (Encrypt blob app_id nonce key) named change unended shows placed = record {
    stands = (refl, encrypt-shows blob app_id nonce key shows);
    may = tt;
    lasts = omega (arith, lasts unended);
  }
  framed-shows (Tree op) named change unended shows placed = elim shows.owned [
    | inl aside ↦ subst (TurnShows (seen_of tasks task) scene)
        (sym (aside-turn (own_view scene.share.own) frame.user op named change aside.apart shows.fits))
        (aside-shows unended op shows aside)
    | inr puts ↦ placed op shows puts
  ]
  framed-shows SyncDoing named change unended shows placed = sync-shows unended shows
