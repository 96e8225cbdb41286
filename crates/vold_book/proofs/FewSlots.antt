-- The slots of a user whose command may take a turn are few, and so are those that it has to try.
use Rattle.std.proofs.Common.{◌≡◌, ℕ, ◌≤◌, List, length, refl, sym, ◌∙◌, arith}
use Rattle.std.specs.Prelude.{Option, Some, None}
use Rattle.std.specs.FinMap as map
use Rattle.tree_model.specs.Disk.{view}
use Rattle.journal_model.specs.declared.commands.Actor.{Actor}
use Rattle.journal_model.specs.declared.commands.Actor.TheVariants.{User}
use Rattle.journal_model.specs.declared.commands.Command.{Command}
use Rattle.journal_model.specs.declared.commands.Command.TheVariants.{Unlock, Protect}
use Rattle.journal_model.specs.Command.{actor_of, user_in}
use Rattle.journal_model.specs.Machine.{TakesTurn}
use Rattle.journal_model.proofs.ByCommand.{of-user}
use Rattle.vold_book.specs.Recovery.{max_places}
use Rattle.vold_book.specs.Slots.{slots_in, slots_for, slots_of}
use Rattle.vold_book.specs.State.{Plain}
use Rattle.vold_book.specs.Whole.{Whole}
use Rattle.vold_book.proofs.Counted.{length-keys}
use Rattle.vold_book.proofs.PlacedSlots.{few-known}
use Rattle.vold_book.proofs.SameKeys.{same-count}
use Rattle.vold_book.proofs.SlotsToTry.{few-in, known-up}
use Rattle.vold_book.proofs.Bounds.{small-bounds}

module _ (book : Plain) (actor : Actor) (whole : Whole book) (takes : TakesTurn book.tracker.phase actor) where
  pub few-places : (user : ℕ) → actor ≡ User user → map.len book.bench.places ≤ max_places
  few-places user is =
      let same = same-count book.bench.places (view book.bench.disk) (known-up book actor whole takes user is).there in
      let bound = (small-bounds book whole.small whole.numbers.few).places in
      omega (arith, same, bound)

  few-unlocked : (user : ℕ) (secret : List ℕ) → actor ≡ User user
      → length (slots_in book.bench.places user secret (map.keys book.bench.places)) ≤ max_places
  few-unlocked user secret is =
      let few = few-in book.bench.places user secret (map.keys book.bench.places) in
      let all = length-keys book.bench.places in
      let bound = few-places user is in
      omega (arith, few, all, bound)

-- those that it has to try
pub few-slots : (book : Plain) (actor : Actor) (command : Command) → Whole book
    → TakesTurn book.tracker.phase actor → actor_of command ≡ actor
    → length (slots_for book.bench.places command) ≤ max_places
few-slots book actor (Unlock user secret) whole takes own = few-unlocked book actor whole takes user secret (sym own)
few-slots book actor (Protect user given fresh) whole takes own =
    few-unlocked book actor whole takes user given (sym own)
few-slots book actor command whole takes own = omega arith

-- and all of its user's
pub few-of-user : (book : Plain) (actor : Actor) (command : Command) → Whole book
    → TakesTurn book.tracker.phase actor → actor_of command ≡ actor
    → length (slots_of book.bench.places (user_in command)) ≤ max_places
few-of-user book actor command whole takes own = by (user_in command) refl
  where
    by : (of : Option ℕ) → user_in command ≡ of → length (slots_of book.bench.places of) ≤ max_places
    by None is = omega arith
    by (Some user) is =
        let few = few-known user book.bench.places in
        let bound = few-places book actor whole takes user (sym own ∙ of-user command user is) in
        omega (arith, few, bound)
