-- What a recovery does next is what the Book plans for its actor, and its calls have the room that they take.
use Rattle.std.proofs.Common.{◌≡◌, ◌+◌, ◌^◌, ◌<◌, ◌≤◌, Bool, true, false, List, [], ◌∷◌, length}
use Rattle.std.proofs.Common.{refl, sym, ◌∙◌, subst, arith}
use Rattle.std.specs.Prelude.{Some, not, IsTrue, ◌↔◌}
use Rattle.std.specs.FinMap as map
use Rattle.tree_model.specs.declared.ops.Op.{Op}
use Rattle.tree_model.specs.Disk.{view}
use Rattle.journal_model.specs.declared.commands.Actor.{Actor}
use Rattle.blob_custody.proofs.Left.{view-left}
use Rattle.task_turns.specs.declared.next.Next.{Next}
use Rattle.task_turns.specs.declared.next.Next.TheVariants.{Call as CallNext, Work as WorkNext, Reply as ReplyNext}
use Rattle.vold_book.specs.declared.recovery.Recovery.{Recovery}
use Rattle.vold_book.specs.declared.tasks.Running.{Running}
use Rattle.vold_book.specs.declared.tasks.Task.TheVariants.{Recovery as Recovers}
use Rattle.vold_book.specs.Parts.{changes_made}
use Rattle.vold_book.specs.Plans.{IsSettledNext}
use Rattle.vold_book.specs.Recovery.{max_places, is_nothing, RecoveryShows, RecoveryTurns}
use Rattle.vold_book.specs.State.{Plain, machine_of, ground_of}
use Rattle.vold_book.specs.Tasks.{TaskStands, TaskShows, RunsOn, Plans, due_to}
use Rattle.vold_book.specs.Whole.{Whole}

module _ (book : Plain) (whole : Whole book) where
  -- no more directories are in the view than commands make
  pub few-places : map.len (view book.bench.disk) ≤ max_places
  few-places =
      let small = whole.small.trees (view book.bench.disk) (view-left book.bench.disk) in
      let few = whole.numbers.few in
      omega (arith, small, few)

  -- the list has a number for whatever is found
  pub few-listed : book.bench.list.next + book.bench.list.promised + length book.bench.store.entries < 2 ^ 63
  few-listed =
      let listed = whole.small.listed in
      let unpromised = whole.small.unpromised in
      let entries = whole.small.entries in
      let few = whole.numbers.few in
      omega (arith, listed, unpromised, entries, few)

  -- an operation is pending exactly where one is tracked
  is-dirty : (dirty : Bool) (pending : List Bool) (ops : List Op)
      → pending ≡ changes_made book.bench.disk.stable ops → (IsTrue dirty ↔ ¬ (pending ≡ []))
      → dirty ≡ not (is_nothing ops)
  is-dirty true pending [] is iff = absurd (iff.0 refl is)
  is-dirty false pending [] is iff = refl
  is-dirty true pending (op ∷ ops) is iff = refl
  is-dirty false pending (op ∷ ops) is iff = absurd (no_true (iff.1 (λ none. some _ _ (sym is ∙ none))))
    where
      some : (b : Bool) (bs : List Bool) → (b ∷ bs) ≡ [] → ⊥
      some b bs e = cc

      no_true : false ≡ true → ⊥
      no_true e = cc

  module _ (actor : Actor) (it : Running) (recovery : Recovery) (dirty : Bool)
      (runs : map.get book.docket.running actor ≡ Some it) (is : it.task ≡ Recovers recovery)
      (iff : IsTrue dirty ↔ ¬ (book.tracker.pending ≡ [])) where
    on : RunsOn (ground_of book) (machine_of book) actor it
    on = whole.run actor it runs

    shows : (next : Next) → RecoveryTurns book.bench.places dirty recovery next
        → RecoveryShows (ground_of book) recovery next
    shows next turns = turns (ground_of book) refl
        (is-dirty dirty book.tracker.pending book.bench.disk.pending whole.agrees.pending iff) whole.worlds few-places
        (subst (λ task. TaskStands (ground_of book) task on.began) is on.stands).1

    -- it asks for no job
    pub recovery-settled : (next : Next) → RecoveryTurns book.bench.places dirty recovery next → IsSettledNext next
    recovery-settled (CallNext call change) turns = tt
    recovery-settled (WorkNext job) turns = absurd (shows (WorkNext job) turns)
    recovery-settled (ReplyNext reply) turns = tt

    pub planned-recovery : (next : Next) → RecoveryTurns book.bench.places dirty recovery next
        → Plans book actor it it.task next
    planned-recovery next turns = record {
      runs = runs;
      on = on;
      jobs = [];
      worked = refl;
      shows = subst (λ task. TaskShows (ground_of book) on.began (due_to book it) task next) (sym is)
          (shows next turns);
    }
