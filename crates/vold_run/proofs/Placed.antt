-- Lines that stand where they may find the machine as they want it, and done lines make a script.
use Rattle.std.proofs.Common.{◌≡◌, ◌≢◌, ℕ, zero, suc, ◌+◌, ◌<◌, ◌≤◌, Bool, true, false, not, List, [], ◌∷◌, ◌++◌}
use Rattle.std.proofs.Common.{length, get_or, take, refl, sym, ap, ◌∙◌, subst, add-one, arith, append_assoc}
use Rattle.std.proofs.lemmas.Option.{same_Some}
use Rattle.std.proofs.Math.Seq.{take-suc}
use Rattle.std.proofs.lemmas.List.{append-nil, length-append}
use Rattle.std.specs.Prelude.{Option, Some, None, IsTrue, MatchBool}
use Rattle.std.specs.List.{flat_map, AllByRecursion}
use Rattle.bench.specs.Bench.{BenchState, Senses}
use Rattle.script_text.specs.declared.script.Line.{Line}
use Rattle.script_text.specs.declared.script.Line.TheVariants.{Seed, Do, Turns, All, Stop, Restart}
use Rattle.script_text.specs.Script.{is_stop, may_follow, IsLine, AreInOrder}
use Rattle.journal_model.specs.declared.phase.Phase.{Phase}
use Rattle.journal_model.specs.declared.phase.Phase.TheVariants.{Halted}
use Rattle.vold_book.specs.State.{BookState}
use Rattle.vold_run.specs.Fits.{History, LineFits, LinesFit, history_of}
use Rattle.vold_run.specs.Lines.{command_of, order_of, commands_of, orders_of, last_of, StandsStill, IsReadyFor}
use Rattle.vold_run.specs.Lines.{IsLineDone, AreLinesDone, IsBetweenLines, LeavesNothing}
use Rattle.vold_run.proofs.Counted.{counts-same, counts-joined}

runs_on : (stops : Bool) (phase : Phase) → IsTrue (not stops)
    → MatchBool stops (phase ≡ Halted) (phase ≢ Halted) → phase ≢ Halted
runs_on false phase may still = still
runs_on true phase may still = cc

stands : (stops : Bool) (phase : Phase) → IsTrue stops
    → MatchBool stops (phase ≡ Halted) (phase ≢ Halted) → phase ≡ Halted
stands true phase may still = still
stands false phase may still = cc

-- the machine is as a line wants it that may follow the line before
pub ready-for : (before : Option Line) (line : Line) (phase : Phase) → IsTrue (may_follow before line)
    → StandsStill before phase → IsReadyFor line phase
ready-for None (Seed bytes) phase may still = still
ready-for (Some line) (Seed bytes) phase may still = cc
ready-for before (Do command) phase may still = runs_on (is_stop before) phase may still
ready-for before (Turns actor count) phase may still = runs_on (is_stop before) phase may still
ready-for before All phase may still = runs_on (is_stop before) phase may still
ready-for before (Stop cut) phase may still = runs_on (is_stop before) phase may still
ready-for before (Restart level) phase may still = stands (is_stop before) phase may still

-- each of the lines may follow those before it
pub follows : (before : Option Line) (lines : List Line) (i : ℕ) (line : Line) → i < length lines
    → AreInOrder before lines → IsTrue (may_follow (last_of before (take i lines)) (get_or lines i line))
follows before [] i line within order = absurd (omega (arith, within))
follows before (first ∷ lines) zero line within order = order.0
follows before (first ∷ lines) (suc i) line within order =
    follows (Some first) lines i line (omega (arith, within)) order.1

-- and is a script's line
pub line-at : (lines : List Line) (i : ℕ) (line : Line) → i < length lines → AllByRecursion IsLine lines
    → IsLine (get_or lines i line)
line-at [] i line within all = absurd (omega (arith, within))
line-at (first ∷ lines) zero line within all = all.0
line-at (first ∷ lines) (suc i) line within all = line-at lines i line (omega (arith, within)) all.1

lines_more : (lines : List Line) (line : Line) (before between after : History) → LinesFit lines before between
    → LineFits line between after → LinesFit (lines ++ line ∷ []) before after
lines_more [] line before between after fit fits = (after, subst (λ b. LineFits line b after) fit fits, refl)
lines_more (other ∷ lines) line before between after fit fits =
    (fit.0, fit.1, lines_more lines line fit.0 between after fit.2 fits)

flat-more : {X : Type 0} (f : Line → List X) (lines : List Line) (line : Line)
    → flat_map f (lines ++ line ∷ []) ≡ flat_map f lines ++ f line
flat-more f [] line = append-nil (f line)
flat-more f (first ∷ lines) line =
    ap (λ xs. f first ++ xs) (flat-more f lines line) ∙ sym (append_assoc (f first) (flat_map f lines) (f line))

last-more : (before : Option Line) (lines : List Line) (line : Line) → last_of before (lines ++ line ∷ []) ≡ Some line
last-more before [] line = refl
last-more before (first ∷ lines) line = last-more (Some first) lines line

at_most_one : (line : Line) → length (command_of line) ≤ 1
at_most_one (Seed bytes) = omega arith
at_most_one (Do command) = omega arith
at_most_one (Turns actor count) = omega arith
at_most_one All = omega arith
at_most_one (Stop cut) = omega arith
at_most_one (Restart level) = omega arith

-- a line gives at most one command
pub few-more : {D E F : Type 0} (senses : Senses D E F) (line : Line) (before after : BookState (BenchState D E F))
    → IsLineDone senses line before after → length after.docket.commands ≤ length before.docket.commands + 1
few-more senses line before after done =
    let one = at_most_one line in
    let all = ap length done.commands ∙ length-append before.docket.commands (command_of line) in
    omega (arith, one, all)

module _ {D E F : Type 0} (senses : Senses D E F) (prior : Option Line) where
  pub no-lines : (book : BookState (BenchState D E F)) → StandsStill prior book.tracker.phase
      → IsBetweenLines senses book
      → AreLinesDone senses prior [] book book
  no-lines book still between = record {
    commands = sym (append-nil book.docket.commands);
    orders = sym (append-nil book.ledger.orders);
    seed = refl;
    fits = refl;
    counted = counts-same senses book book refl refl;
    idle = λ before last is. absurd (never before last is);
    still = still;
    between = between;
  }
    where
      never : (before : List Line) (last : Line) → [] ≡ before ++ last ∷ [] → ⊥
      never [] last is = cc
      never (first ∷ before) last is = cc

  more : (lines : List Line) (line : Line) (before between after : BookState (BenchState D E F))
      → AreLinesDone senses prior lines before between → IsLineDone senses line between after
      → AreLinesDone senses prior (lines ++ line ∷ []) before after
  more lines line before between after done then = record {
    commands =
        then.commands ∙ ap (λ cs. cs ++ command_of line) done.commands
        ∙ append_assoc before.docket.commands (commands_of lines) (command_of line)
        ∙ ap (λ cs. before.docket.commands ++ cs) (sym (flat-more command_of lines line));
    orders =
        then.orders ∙ ap (λ os. os ++ order_of line) done.orders
        ∙ append_assoc before.ledger.orders (orders_of lines) (order_of line)
        ∙ ap (λ os. before.ledger.orders ++ os) (sym (flat-more order_of lines line));
    seed = then.seed ∙ done.seed;
    fits = lines_more lines line (history_of before) (history_of between) (history_of after) done.fits then.fits;
    counted = counts-joined senses before between after done.counted then.counted;
    idle =
        λ front last is. subst (λ l. LeavesNothing l after)
        (same_Some line last (sym (last-more prior lines line) ∙ ap (last_of prior) is ∙ last-more prior front last))
        then.idle;
    still = subst (λ l. StandsStill l after.tracker.phase) (sym (last-more prior lines line)) then.still;
    between = then.between;
  }

  -- the next line after the first ones
  pub next-line : (lines : List Line) (i : ℕ) (line : Line) (before between after : BookState (BenchState D E F))
      → i < length lines
      → AreLinesDone senses prior (take i lines) before between
      → IsLineDone senses (get_or lines i line) between after
      → AreLinesDone senses prior (take (i + 1) lines) before after
  next-line lines i line before between after within done then =
      subst (λ ls. AreLinesDone senses prior ls before after)
      (sym (ap (λ n. take n lines) (add-one i) ∙ take-suc lines i line within))
      (more (take i lines) (get_or lines i line) before between after done then)
