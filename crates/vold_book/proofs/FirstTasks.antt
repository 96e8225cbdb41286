-- A command that begins stands where its first task says, and holds nothing.
use Rattle.std.proofs.Common.{◌≡◌, ◌≢◌, ℕ, inl, cond, List, [], ◌∷◌, refl, sym, ap, ◌∙◌, subst}
use Rattle.std.specs.Prelude.{Option, Some, None, is_some, Contains}
use Rattle.std.proofs.lemmas.Bool.{eq-eqb}
use Rattle.std.proofs.lemmas.List.Elements.{Contains-append_right}
use Rattle.tree_model.specs.declared.places.Class.TheVariants.{Ce}
use Rattle.tree_model.specs.declared.places.Place.TheVariants.{De}
use Rattle.tree_model.specs.Disk.{view}
use Rattle.key_ring.specs.Ring.{has_owner}
use Rattle.key_ring.proofs.Owners.{found}
use Rattle.journal_model.specs.declared.commands.Actor.{Actor}
use Rattle.journal_model.specs.declared.commands.Actor.TheVariants.{Boot}
use Rattle.journal_model.specs.declared.commands.Reply.{Reply}
use Rattle.journal_model.specs.declared.commands.Reply.TheVariants.{Ready}
use Rattle.journal_model.specs.declared.entries.Entry.{Entry}
use Rattle.journal_model.specs.declared.entries.Entry.TheVariants.{Began}
use Rattle.journal_model.specs.declared.phase.Phase.{Phase}
use Rattle.journal_model.specs.declared.phase.Phase.TheVariants.{Up, Down, Halted}
use Rattle.journal_model.specs.declared.refusals.Facts.{Facts}
use Rattle.journal_model.specs.Command.{actor_of, user_in}
use Rattle.journal_model.specs.Refusals.{refusal_of, due}
use Rattle.journal_model.specs.Machine.{Machine, Running as BeganCommand, after_entry, begun, begun_by, is_up}
use Rattle.journal_model.specs.Machine.{is_present, is_full as is_full_there, is_unlocked, facts_of, verdict_of}
use Rattle.journal_model.specs.Machine.{TakesTurn}
use Rattle.journal_model.specs.Users.{fold_changes}
use Rattle.journal_model.proofs.ByCommand.{no-user, of-user, refusal-kind}
use Rattle.keystore_model.proofs.Elements.{Contains-first}
use Rattle.docket.specs.Docket.{begun_by as docket_begun}
use Rattle.user_world.specs.OwnWorlds.{own_record}
use Rattle.user_world.specs.Timelines.{own_of}
use Rattle.key_directory.specs.Opened.{WasGiven as GaveSecret}
use Rattle.key_directory.specs.Tried.{given_by, not_empty, if_of}
use Rattle.key_directory.specs.Vaults.{Attempts, Extends}
use Rattle.key_directory.proofs.Present.{there-record, there-user}
use Rattle.bench.specs.Known.{Knows}
use Rattle.task_turns.specs.Shares.{Share}
use Rattle.task_turns.specs.Turns.{Rests}
use Rattle.task_turns.proofs.Lasting.{facts-last}
use Rattle.user_tasks.specs.Tasks.{user_of, rest_of, accepted}
use Rattle.vold_book.specs.declared.tasks.Task.{Task}
use Rattle.vold_book.specs.Entries.{tried_with}
use Rattle.vold_book.specs.Slots.{is_full}
use Rattle.vold_book.specs.State.{Plain, Ground, machine_of, tried_in, timeline, ground_of, ground_at, vault_of}
use Rattle.vold_book.specs.State.{share_of}
use Rattle.vold_book.specs.Tasks.{TaskStands, held_in}
use Rattle.vold_book.specs.Turns.{user_there, facts_in, Start, start_in, AcceptedTask, FirstTask}
use Rattle.vold_book.specs.Whole.{Whole}
use Rattle.vold_book.proofs.CountedUsers.{crowds-agree}
use Rattle.vold_book.proofs.KnownSlots.{slots-agree}
use Rattle.vold_book.proofs.KnowsUsers.{HasBegun, knows-user}
use Rattle.vold_book.proofs.Moves.{tried-more}
use Rattle.vold_book.proofs.Plains.{Beginning, IsBeginning, begun_seen}
use Rattle.vold_book.proofs.SlotsToTry.{user-up, known-up}

-- a secret that isn't empty is the one of its list
given-some : (secret : List ℕ) → secret ≢ [] → Contains (not_empty secret) secret
given-some [] some = absurd (some refl)
given-some (byte ∷ bytes) some = Contains-first (byte ∷ bytes) []

ready-down : (phase : Phase) → TakesTurn phase Boot → due (is_up phase) Ready ≡ None → phase ≡ Down
ready-down Up takes none = cc
ready-down Down takes none = refl
ready-down Halted takes none = absurd takes

module _ (book : Plain) (actor : Actor) (begins : Beginning) where
  abbrev machine : Machine
  machine = machine_of book

  -- the entry of what begins, the machine then, and the command there
  abbrev pub begun_entry : Entry
  begun_entry = Began begins.number actor begins.command

  abbrev pub begun_machine : Machine
  begun_machine = after_entry book.ledger.entries machine begun_entry

  abbrev pub begun_command : BeganCommand
  begun_command = begun book.ledger.entries machine begins.command

  -- what was tried by then: the secret that it gives, too
  abbrev pub begun_tried : ℕ → Attempts
  begun_tried = tried_with book.seed machine (tried_in book) (Some begun_entry)

  pub more-tried : (user : ℕ) → Extends (tried_in book user) (begun_tried user)
  more-tried = tried-more book (Some begun_entry)

  -- the ground where this is what it does first
  abbrev pub begun_ground : Task → Ground
  begun_ground task = ground_at begun_tried book.seed (begun_seen task book.bench) begun_machine

  -- a command that begins stands where its first task says, and holds nothing
  pub record StandsFirst (task : Task) : Type 0 where
    pub stands : TaskStands (begun_ground task) task begun_command
    pub empty : held_in task ≡ []

  -- what the Book knows of what decides a refusal
  abbrev facts : Facts
  facts = facts_in book.bench.places book begins.command

  module _ (whole : Whole book) (takes : TakesTurn book.tracker.phase actor)
      (own : actor_of begins.command ≡ actor) where
    -- a user's command begins where the machine is up
    module _ (user : ℕ) (whose : user_in begins.command ≡ Some user) where
      up : book.tracker.phase ≡ Up
      up = user-up book.tracker.phase actor user takes (sym own ∙ of-user begins.command user whose)

      known : Knows book.bench.places (view book.bench.disk)
      known = known-up book actor whole takes user (sym own ∙ of-user begins.command user whose)

      -- the Book knows what decides the refusal
      facts-agree : facts ≡ facts_of machine begins.command
      facts-agree = λ i. record {
        present = there i;
        crowded = crowds-agree book whole up i;
        installed = is_unlocked (user_in begins.command) machine.ring;
        full = full-slots i;
        ready = is_up (sym whole.agrees.phase i);
      }
        where
          full-slots : is_full book.bench.places (user_in begins.command)
              ≡ is_full_there (user_in begins.command) (fold_changes machine.log)
          full-slots = subst (λ of. is_full book.bench.places of ≡ is_full_there of (fold_changes machine.log))
              (sym whose) (slots-agree book whole user known)

          there : user_there book.bench.places (user_in begins.command)
              ≡ is_present (user_in begins.command) (fold_changes machine.log)
          there = subst (λ of. user_there book.bench.places of ≡ is_present of (fold_changes machine.log)) (sym whose)
              (known.there (De user) ∙ there-user (vault_of (tried_in book) book.seed book.bench.store)
              (timeline book.bench.disk machine) user whole.worlds)

      abbrev share' : Share
      share' = share_of user (ground_at begun_tried book.seed book.bench begun_machine)

      gave : (secret : List ℕ) → given_by begins.command ≡ not_empty secret → GaveSecret (begun_tried user) secret
      gave secret is some = Contains-append_right (tried_in book user).secrets _ secret
          (subst (λ of. Contains (if_of user of (given_by begins.command)) secret) (sym whose)
          (subst (λ t. Contains (cond t (given_by begins.command) []) secret) (sym (eq-eqb user user refl))
          (subst (λ secrets. Contains secrets secret) (sym is) (given-some secret some))))

      -- what holds of the user's share holds still
      has-begun : HasBegun begins.command user (share_of user (ground_of book)) share'
      has-begun = record {
        still = λ fact held has. (facts-last (fact ∷ []) [] (share_of user (ground_of book)) share' (record {
          own = inl refl;
          level = refl;
          seed = refl;
          attempts = more-tried;
          keys = refl;
          kept = λ blob is entry live. live;
          named = λ blob names entry live. live;
        }) (held, tt) (has, tt)).0;
        gave = gave;
      }

    -- a recovery is refused by the phase alone
    verdict-is : refusal_of begins.command facts ≡ verdict_of machine begins.command
    verdict-is = by (user_in begins.command) refl
      where
        by : (of : Option ℕ) → user_in begins.command ≡ of
            → refusal_of begins.command facts ≡ verdict_of machine begins.command
        by (Some user) is = ap (refusal_of begins.command) (facts-agree user is)
        by None is =
            subst (λ c. refusal_of c (facts_in book.bench.places book c) ≡ verdict_of machine c)
            (sym (no-user begins.command is)) (λ i. due (is_up (sym whole.agrees.phase i)) Ready)

    abbrev start : Start
    start = start_in book.bench.places book actor

    index : docket_begun book.docket actor ≡ begun_by (actor_of begins.command) book.ledger.entries
    index = whole.numbers.counts actor ∙ ap (λ a. begun_by a book.ledger.entries) (sym own)

    same_began : begun_command.verdict ≡ None
        → accepted begins.command (docket_begun book.docket actor) ≡ begun_command
    same_began none =
        λ i. record { command = begins.command; verdict = sym none i; changes = []; index = index i }

    accepted-stands : begun_command.verdict ≡ None → refusal_of begins.command facts ≡ None → (of : Option ℕ)
        → user_in begins.command ≡ of → (task : Task) → AcceptedTask begins.command start of task
        → StandsFirst task
    accepted-stands none goes (Some user) of task (first, known_of, is_first, is_known, shows) =
        let line = timeline book.bench.disk machine in
        let vault = vault_of (tried_in book) book.seed book.bench.store in
        let share = share' (user_of first) shows.owned in
        let present : facts.present ≡ is_some (own_record (own_of (user_of first) line)) =
        ap (λ f. f.present) (facts-agree (user_of first) shows.owned)
        ∙ ap (λ o. is_present o (fold_changes machine.log)) shows.owned
        ∙ sym (there-user vault line (user_of first) whole.worlds)
        ∙ sym (there-record vault line (user_of first) whole.worlds) in
        let installed : is_unlocked (user_in begins.command) machine.ring ≡ is_some (share.keys Ce) =
        ap (λ o. is_unlocked o machine.ring) shows.owned
        ∙ ap (λ all. has_owner all (user_of first) Ce) whole.ring.owned
        ∙ found book.bench.keys (user_of first) Ce in
        let knows = knows-user book whole (user_of first) (known (user_of first) shows.owned) begins.command known_of
        shows.owned is_known goes share (has-begun (user_of first) shows.owned) in
        subst StandsFirst (sym is_first) (record {
          stands = subst (λ b. Rests (rest_of first) b begun_command share) (sym whole.agrees.boot)
              (subst (λ b. Rests (rest_of first) book.tracker.boot b share) (same_began none)
              (shows.rests facts share present installed goes whole.seeded knows));
          empty = shows.held;
        })
    accepted-stands none goes None of task first =
        let recovers = no-user begins.command of in
        let boot : actor ≡ Boot = sym own ∙ ap actor_of recovers in
        subst StandsFirst (sym first) (record {
          stands = (
            record { command = recovers; verdict = none },
            (
              whole.agrees.phase ∙ ready-down book.tracker.phase (subst (TakesTurn book.tracker.phase) boot takes)
                  (subst (λ c. refusal_of c (facts_in book.bench.places book begins.command) ≡ None) recovers goes),
              refl,
            ),
          );
          empty = refl;
        })

    first-stands : (verdict : Option Reply) → refusal_of begins.command facts ≡ verdict
        → FirstTask begins.command start verdict begins.task → StandsFirst begins.task
    first-stands (Some reply) verdict first =
        subst StandsFirst (sym first) (record {
          stands = (sym verdict-is ∙ verdict, refusal-kind begins.command facts reply verdict);
          empty = refl;
        })
    first-stands None verdict first =
        accepted-stands (sym verdict-is ∙ verdict) verdict (user_in begins.command) refl begins.task first

    pub begins-stands : IsBeginning book actor begins → StandsFirst begins.task
    begins-stands is = first-stands (refusal_of begins.command facts) refl is.first
