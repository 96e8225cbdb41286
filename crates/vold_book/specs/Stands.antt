-- Where a command stands by the journal, and what looking at the device leaves of a Book.
use Rattle.std.specs.Prelude.{◌≡◌, ℕ, cond, nat_eq, nat_lt, List, [], ◌∷◌, length}
use Rattle.bench.specs.Bench.{BenchState, Senses}
use Rattle.journal_model.specs.declared.entries.Entry.{Entry}
use Rattle.journal_model.specs.declared.entries.Entry.TheVariants.{Began, Stopped, Replied}
use Rattle.vold_book.specs.declared.standings.Standing.{Standing}
use Rattle.vold_book.specs.declared.standings.Standing.TheVariants.{Unknown, Queued, Running, Answered, Lost}
use Rattle.vold_book.specs.State.{BookState, over, seen}

-- a queued command runs from its beginning on
abbrev pub queued_after : ℕ → Entry → Standing
queued_after number (Began begun actor command) = cond (nat_eq begun number) Running Queued
queued_after number entry = Queued

-- a running one ends with its reply, or is lost with the machine
abbrev pub running_after : ℕ → Entry → Standing
running_after number (Stopped kept) = Lost
running_after number (Replied replied reply) = cond (nat_eq replied number) (Answered reply) Running
running_after number entry = Running

abbrev pub stands_after : Standing → ℕ → Entry → Standing
stands_after Queued number entry = queued_after number entry
stands_after Running number entry = running_after number entry
stands_after standing number entry = standing

abbrev pub stands_from : Standing → ℕ → List Entry → Standing
stands_from standing number [] = standing
stands_from standing number (entry ∷ entries) = stands_from (stands_after standing number entry) number entries

-- where a command that was given its number stands by a journal
abbrev pub stands_in : List Entry → ℕ → Standing
stands_in entries number = stands_from Queued number entries

abbrev pub standing_of : {B : Type 0} → BookState B → ℕ → Standing
standing_of book number =
    cond (nat_lt number (length book.docket.commands)) (stands_in book.ledger.entries number) Unknown

-- only the devices were looked at, which leaves all but their counts
pub record IsLooked {D E F : Type 0} (senses : Senses D E F) (before after : BookState (BenchState D E F)) :
    Type 0 where
  pub state : after ≡ over before after.bench
  pub same : (seen senses after).bench ≡ record (seen senses before).bench {
    tree_counts = (seen senses after).bench.tree_counts;
    store_counts = (seen senses after).bench.store_counts;
    ring_counts = (seen senses after).bench.ring_counts;
  }
