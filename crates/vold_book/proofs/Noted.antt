-- What was tried with secrets once a change of a user's command was noted: what the task shows of it, and what the
-- journal tells then.
use Rattle.std.proofs.Common.{◌≡◌, ◌==◌, ℕ, cond, true, false, List, [], refl, sym, ap, ◌∙◌, subst, arith, inl}
use Rattle.std.proofs.lemmas.Bool.{eqb-true}
use Rattle.std.proofs.lemmas.List.Elements.{Contains-append_left}
use Rattle.std.specs.Prelude.{Option, Some, None}
use Rattle.std.specs.FinMap as map
use Rattle.tree_model.specs.declared.blobs.Blob.{Blob}
use Rattle.tree_model.proofs.Parts.{fun_ext}
use Rattle.journal_model.specs.declared.entries.Birth.{Birth}
use Rattle.journal_model.specs.Machine.{Machine, Running as BeganCommand, if_running}
use Rattle.journal_model.specs.Users.{fold_changes}
use Rattle.user_world.specs.declared.changes.LocalChange.{LocalChange}
use Rattle.user_world.specs.Changes.{change_of, local_of}
use Rattle.user_world.specs.OwnWorlds.{own_record}
use Rattle.user_world.specs.Timelines.{own_of}
use Rattle.user_world.proofs.Worlds.{owner-change_of, local-change_of}
use Rattle.key_directory.specs.Tried.{additions_of, added_by, if_of, with_additions}
use Rattle.key_directory.specs.Vaults.{Extends, KeepsEntry, Later}
use Rattle.task_turns.specs.Shares.{Share, ShareFact, AllHas, AreHeld}
use Rattle.task_turns.specs.Turns.{Scene, noting}
use Rattle.task_turns.proofs.Lasting.{facts-last}
use Rattle.vold_book.specs.Entries.{changed_entry, tried_with}
use Rattle.vold_book.specs.State.{Plain, machine_of, tried_in, timeline, ground_of, vault_of}
use Rattle.vold_book.specs.Tasks.{scene_of}
use Rattle.vold_book.proofs.Moves.{same-tried}
use Rattle.deferred_delete.specs.declared.items.Item.{Item}

module _ (user : ℕ) (scene : Scene) where
  noting-extends : (note : Option LocalChange) (other : ℕ)
      → Extends (scene.share.vault.attempts other) ((noting user scene note).attempts other)
  noting-extends None other = same-tried (scene.share.vault.attempts other)
  noting-extends (Some change) other = record {
    additions = Contains-append_left (scene.share.vault.attempts other).additions _;
    secrets = λ secret has. has;
  }

  -- the vault is a later one, with the same entries
  pub noting-later : (note : Option LocalChange) → Later scene.share.vault (noting user scene note)
  noting-later None =
      record { level = omega arith; seed = refl; attempts = noting-extends None }
  noting-later (Some change) =
      record { level = omega arith; seed = refl; attempts = noting-extends (Some change) }

  pub noting-keeps : (note : Option LocalChange) (blob : Blob)
      → KeepsEntry scene.share.vault (noting user scene note) blob
  noting-keeps None blob = λ entry live. live
  noting-keeps (Some change) blob = λ entry live. live

  -- so facts of a share of the same vault last
  pub noting-facts : (note : Option LocalChange) (facts : List ShareFact) (held : List Blob) (share : Share)
      → share.vault ≡ scene.share.vault → AreHeld held facts → AllHas facts share
      → AllHas facts (record share { vault = noting user scene note })
  noting-facts note facts held share same known has =
      facts-last facts held share (record share { vault = noting user scene note }) (record {
        own = inl refl;
        level = level note ∙ ap (λ v. v.level) (sym same);
        seed = seed note ∙ ap (λ v. v.seed) (sym same);
        attempts = λ other. subst (λ v. Extends (v.attempts other) ((noting user scene note).attempts other))
            (sym same)
            (noting-extends note other);
        keys = refl;
        kept = λ blob is. kept blob;
        named = λ blob names. kept blob;
      }) known has
    where
      level : (note : Option LocalChange) → (noting user scene note).level ≡ scene.share.vault.level
      level None = refl
      level (Some change) = refl

      seed : (note : Option LocalChange) → (noting user scene note).seed ≡ scene.share.vault.seed
      seed None = refl
      seed (Some change) = refl

      kept : (blob : Blob) → KeepsEntry share.vault (noting user scene note) blob
      kept blob = subst (λ v. KeepsEntry v (noting user scene note) blob) (sym same) (noting-keeps note blob)

-- items of one user alone, where they are the same for that user
of-same : {A : Type 0} (user other : ℕ) (items more : List A) → (other ≡ user → items ≡ more)
    → if_of other (Some user) items ≡ if_of other (Some user) more
of-same user other items more same = by (user == other) refl
  where
    by : (t : _) → (user == other) ≡ t → cond t items [] ≡ cond t more []
    by true is = same (sym (eqb-true user other is))
    by false is = refl

module _ (book : Plain) (user number : ℕ) (began : BeganCommand)
    (at : map.get (machine_of book).running number ≡ Some began)
    (known : own_record (own_of user (timeline book.bench.disk (machine_of book)))
    ≡ map.get (fold_changes (machine_of book).log) user) where
  abbrev machine : Machine
  machine = machine_of book

  abbrev made : Birth
  made = record { boot = machine.boot; index = began.index }

  -- what the journal tells that the change added is what the task noted
  adds-same : (change : LocalChange) (other : ℕ)
      → if_of other (Some user) (additions_of book.seed other made
      (own_record (own_of user (timeline book.bench.disk machine))) change)
      ≡ if_of other (Some user) (added_by book.seed other machine number (change_of user change))
  adds-same change other =
      of-same user other _ _ (λ is.
      λ i. additions_of book.seed other made
      ((known ∙ ap (map.get (fold_changes machine.log)) (sym is)) i) (sym (local-change_of user change) i))
      ∙ ap (λ found. if_of other (Some user) (if_running found [] (λ running.
      additions_of book.seed other (record { boot = machine.boot; index = running.index })
      (map.get (fold_changes machine.log) other) (local_of (change_of user change))))) (sym at)

  pub noted-vault : (due : Option Item) (note : Option LocalChange)
      → vault_of (tried_with book.seed machine (tried_in book) (changed_entry number user note)) book.seed
      book.bench.store
      ≡ noting user (scene_of user (ground_of book) began due) note
  noted-vault due None = refl
  noted-vault due (Some change) = ap (λ tried. vault_of tried book.seed book.bench.store) (fun_ext _ _ (λ other.
      ap (with_additions (tried_in book other))
      (sym (adds-same change other
      ∙ ap (λ owner. if_of other (Some owner) (added_by book.seed other machine number (change_of user change)))
      (sym (owner-change_of user change))))))
