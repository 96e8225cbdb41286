-- A Book on which the lines were done and that was then looked at is one that its text shows.
use Rattle.std.proofs.Common.{◌≡◌, ℕ, List, ◌++◌, sym, ap, subst, ◌∙◌}
use Rattle.std.specs.Prelude.{None, IfSome}
use Rattle.std.specs.FinMap as map
use Rattle.journal_model.specs.Actor.{actor_cmp}
use Rattle.bench.specs.Bench.{BenchState, Senses}
use Rattle.script_text.specs.declared.script.Line.{Line}
use Rattle.vold_book.specs.State.{BookState, seen}
use Rattle.vold_book.specs.Whole.{IsWhole}
use Rattle.vold_book.specs.Whole.{AllAsGiven}
use Rattle.vold_book.specs.Stands.{IsLooked}
use Rattle.vold_run.specs.Fits.{LinesFit, history_of, nothing}
use Rattle.vold_run.specs.Lines.{commands_of, orders_of, AreLinesDone, EndsIdle, IsFresh, IsInOrder, IsBetweenLines}
use Rattle.vold_run.specs.Shown.{Shows}
use Rattle.vold_run.specs.Ends.{IsDone}

pub shown_is_done : {D E F : Type 0} (senses : Senses D E F) (start : BookState (BenchState D E F)) (lines : List Line)
    (worked book : BookState (BenchState D E F)) → IsFresh start lines → AreLinesDone senses None lines start worked
    → IsWhole senses book → IsLooked senses worked book
    → (text : List ℕ) → Shows (seen senses worked) (seen senses book) text → IsDone senses start lines book text
shown_is_done senses start lines worked book fresh done whole looked text shown =
    let commands : book.docket.commands ≡ commands_of lines = ap (λ b. b.docket.commands) looked.state ∙ done.commands
    ∙ ap (λ h. h.commands ++ commands_of lines) fresh.history in
    record {
      commands = commands;
      began = subst (λ given. AllAsGiven given book.ledger.entries) commands whole.numbers.as_given;
      fits =
          subst (LinesFit lines nothing) (sym (ap history_of looked.state))
          (subst (λ history. LinesFit lines history (history_of worked)) fresh.history done.fits);
      idle = subst (EndsIdle lines) (sym looked.state) done.idle;
      seed = ap (λ b. b.seed) looked.state ∙ done.seed ∙ fresh.seed;
      orders = ap (λ b. b.ledger.orders) looked.state ∙ done.orders ∙ ap (λ os. os ++ orders_of lines) fresh.orders;
      worked = worked;
      counted = done.counted;
      looked = looked;
      shown = shown;
    }

-- a Book as it is opened waits for its lines
pub fresh-between : {D E F : Type 0} (senses : Senses D E F) (book : BookState (BenchState D E F)) (lines : List Line)
    → IsWhole senses book → IsFresh book lines → IsBetweenLines senses book
fresh-between senses book lines whole fresh = record {
  whole = whole;
  level = ap (λ p. p.level) fresh.tracker;
  order =
      λ actor. subst (λ found. IfSome found (IsInOrder actor))
      (sym (ap (λ w. map.get w actor) fresh.waiting ∙ map.get-empty actor_cmp actor)) tt;
}
