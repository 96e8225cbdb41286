-- The docket and the journal tell the same after each kind of entry, after a command was given out, and after a
-- restart.
use Rattle.std.proofs.Common.{◌≡◌, ℕ, ◌+◌, ◌≤◌, List, [], ◌∷◌, ◌++◌, length, refl, sym, ap, ◌∙◌, subst, arith}
use Rattle.std.proofs.Common.{cond, true, false, length-append}
use Rattle.std.specs.Prelude.{Bool, Some, Contains, unwrap_or}
use Rattle.std.specs.FinMap as map
use Rattle.std.proofs.lemmas.List.{append-nil}
use Rattle.journal_model.specs.declared.commands.Actor.{Actor}
use Rattle.journal_model.specs.declared.commands.Command.{Command}
use Rattle.journal_model.specs.declared.entries.Entry.{Entry}
use Rattle.journal_model.specs.declared.entries.Entry.TheVariants.{Began, Changed, Synced, Installed, Evicted}
use Rattle.journal_model.specs.declared.entries.Entry.TheVariants.{Swept}
use Rattle.journal_model.specs.declared.entries.Entry.TheVariants.{Stopped, Restarted, Replied}
use Rattle.journal_model.specs.Machine.{Machine, Running as BeganCommand, begun_by, count_after, begun_from}
use Rattle.journal_model.specs.Machine.{number_begun, numbers_begun}
use Rattle.journal_model.proofs.Steps.{begun_by-append, numbers_begun-append}
use Rattle.docket.specs.Accounts.{Accounted}
use Rattle.docket.proofs.Accounts.{accounted-same, get-stays}
use Rattle.journal_model.specs.Command.{actor_of}
use Rattle.vold_book.specs.State.{Docket}
use Rattle.vold_book.specs.Whole.{BeganAsGiven, AllAsGiven, WasGiven, Numbers}

-- an entry that begins no command and counts none
pub record IsQuiet (entry : Entry) : Type 0 where
  pub number : number_begun entry ≡ []
  pub given : (commands : List Command) → BeganAsGiven commands entry
  pub count : (actor : Actor) (count : ℕ) → count_after actor count entry ≡ count

pub quiet-changed : (number : ℕ) (change : _) → IsQuiet (Changed number change)
quiet-changed number change = record { number = refl; given = λ cs. tt; count = λ a n. refl }

pub quiet-synced : IsQuiet Synced
quiet-synced = record { number = refl; given = λ cs. tt; count = λ a n. refl }

pub quiet-installed : (user : ℕ) (class : _) → IsQuiet (Installed user class)
quiet-installed user class = record { number = refl; given = λ cs. tt; count = λ a n. refl }

pub quiet-evicted : (user : ℕ) (class : _) → IsQuiet (Evicted user class)
quiet-evicted user class = record { number = refl; given = λ cs. tt; count = λ a n. refl }

pub quiet-swept : (blob : _) → IsQuiet (Swept blob)
quiet-swept blob = record { number = refl; given = λ cs. tt; count = λ a n. refl }

pub quiet-stopped : (kept : ℕ) → IsQuiet (Stopped kept)
quiet-stopped kept = record { number = refl; given = λ cs. tt; count = λ a n. refl }

pub quiet-replied : (number : ℕ) (reply : _) → IsQuiet (Replied number reply)
quiet-replied number reply = record { number = refl; given = λ cs. tt; count = λ a n. refl }

pub all_given-append : (commands : List Command) (entries : List Entry) (entry : Entry) → AllAsGiven commands entries
    → BeganAsGiven commands entry → AllAsGiven commands (entries ++ entry ∷ [])
all_given-append commands [] entry all one = (one, tt)
all_given-append commands (first ∷ entries) entry all one = (all.0, all_given-append commands entries entry all.1 one)

given-push : (commands : List Command) (command : Command) (entry : Entry) → BeganAsGiven commands entry
    → BeganAsGiven (commands ++ command ∷ []) entry
given-push commands command (Began n a c) given = (get-stays commands command c n given.0, given.1)
given-push commands command (Changed n c) given = tt
given-push commands command Synced given = tt
given-push commands command (Installed user class) given = tt
given-push commands command (Evicted user class) given = tt
given-push commands command (Swept blob) given = tt
given-push commands command (Stopped kept) given = tt
given-push commands command (Restarted boot level) given = tt
given-push commands command (Replied n r) given = tt

pub all_given-push : (commands : List Command) (command : Command) (entries : List Entry) → AllAsGiven commands entries
    → AllAsGiven (commands ++ command ∷ []) entries
all_given-push commands command [] all = tt
all_given-push commands command (entry ∷ entries) all =
    (given-push commands command entry all.0, all_given-push commands command entries all.1)

pub begun-quiet : (entries : List Entry) (entry : Entry) → number_begun entry ≡ []
    → numbers_begun (entries ++ entry ∷ []) ≡ numbers_begun entries
begun-quiet entries entry none =
    numbers_begun-append entries entry ∙ ap (λ ns. numbers_begun entries ++ ns) none
    ∙ append-nil (numbers_begun entries)

module _ (docket : Docket) (entries : List Entry) (machine : Machine) (entry : Entry) (quiet : IsQuiet entry) where
  -- what a command that began was given stays
  given-quiet : (number : ℕ) (began : BeganCommand) → WasGiven docket entries number began
      → WasGiven docket (entries ++ entry ∷ []) number began
  given-quiet number began was = record {
    given = was.given;
    begun = subst (λ ns. Contains ns number) (sym (begun-quiet entries entry quiet.number)) was.begun;
  }

  -- an entry that begins nothing, and leaves on the machine commands that began
  pub numbers-quiet : (machine' : Machine) → Numbers docket entries machine → machine'.boot ≡ machine.boot
      → ((number : ℕ) (began : BeganCommand) → map.get machine'.running number ≡ Some began
      → WasGiven docket entries number began)
      → Numbers docket (entries ++ entry ∷ []) machine'
  numbers-quiet machine' stand boot given = record {
    accounted =
        subst (λ ns. Accounted actor_of ns docket) (sym (begun-quiet entries entry quiet.number)) stand.accounted;
    as_given = all_given-append docket.commands entries entry stand.as_given (quiet.given docket.commands);
    given = λ number began at. given-quiet number began (given number began at);
    counts = λ actor. stand.counts actor
        ∙ sym (begun_by-append actor entries entry ∙ quiet.count actor (begun_by actor entries));
    boots = let was = stand.boots in omega (arith, was, boot);
    few = stand.few;
  }

-- what runs doesn't matter to the numbers
pub numbers-running : (docket : Docket) (entries : List Entry) (machine : Machine) (running : _)
    → Numbers docket entries machine → Numbers (record docket { running = running }) entries machine
numbers-running docket entries machine running stand = record {
  accounted =
      accounted-same actor_of (numbers_begun entries) docket
      (record docket { running = running }) stand.accounted refl refl;
  as_given = stand.as_given;
  given = λ number began at. let was = stand.given number began at in record { given = was.given; begun = was.begun };
  counts = stand.counts;
  boots = stand.boots;
  few = stand.few;
}

-- no more commands of an actor began in this boot than commands began
counted : (actor : Actor) (count : ℕ) (entry : Entry)
    → count_after actor count entry ≤ count + length (number_begun entry)
counted actor count (Began n a c) = either _
  where
    either : (t : Bool) → cond t (count + 1) count ≤ count + 1
    either true = omega arith
    either false = omega arith
counted actor count (Changed n c) = omega arith
counted actor count Synced = omega arith
counted actor count (Installed user class) = omega arith
counted actor count (Evicted user class) = omega arith
counted actor count (Swept blob) = omega arith
counted actor count (Stopped kept) = omega arith
counted actor count (Restarted boot level) = omega arith
counted actor count (Replied n r) = omega arith

counts-from : (actor : Actor) (count : ℕ) (entries : List Entry)
    → begun_from count actor entries ≤ count + length (numbers_begun entries)
counts-from actor count [] = omega arith
counts-from actor count (entry ∷ entries) =
    let one = counted actor count entry in
    let rest = counts-from actor (count_after actor count entry) entries in
    omega (arith, one, rest, length-append (number_begun entry) (numbers_begun entries))

-- so an actor's count is no more than the numbers that are given out
pub few-begun : (docket : Docket) (entries : List Entry) (machine : Machine) (actor : Actor)
    → Numbers docket entries machine → unwrap_or (map.get docket.begun actor) 0 ≤ length docket.commands
few-begun docket entries machine actor stand =
    let all = stand.accounted.total in
    let count = counts-from actor 0 entries in
    let is = stand.counts actor in
    omega (arith, all, count, is)
