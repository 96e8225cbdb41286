-- What comes only of a right secret, and which slot an unlock keeps.
use Rattle.std.specs.Prelude.{◌≡◌, ℕ, List, [], ◌∷◌, ◌++◌, Some, IfSome, slice_get}
use Rattle.std.specs.FinMap as map
use Rattle.tree_model.specs.declared.places.Slot.{Slot}
use Rattle.journal_model.specs.declared.commands.Actor.{Actor}
use Rattle.journal_model.specs.declared.commands.Command.{Command}
use Rattle.journal_model.specs.declared.commands.Command.TheVariants.{Unlock}
use Rattle.journal_model.specs.declared.entries.Change.TheVariants.{Drop}
use Rattle.journal_model.specs.declared.entries.Entry.{Entry}
use Rattle.journal_model.specs.declared.entries.Entry.TheVariants.{Changed, Installed, Replied}
use Rattle.journal_model.specs.Command.{user_in}
use Rattle.journal_model.specs.Users.{Record, HasSecret, fold_changes}
use Rattle.key_directory.specs.Vaults.{NoChanceMatch}
use Rattle.task_turns.specs.Shares.{IsNewestUnder}
use Rattle.task_turns.specs.Turns.{TellsOpened, opening_secret}
use Rattle.vold_book.specs.declared.tasks.Running.{Running}
use Rattle.vold_book.specs.State.{Plain, machine_of, tried_in}

-- the entries of an unlock and of a protect that come only once the user's key was opened: a key in the ring, a
-- change, and that an unlock did its work
abbrev pub ComesOfOpening : Entry → Command → Type 0
ComesOfOpening (Installed user class) command = Unit {0}
ComesOfOpening (Changed number change) command = Unit {0}
ComesOfOpening (Replied number reply) command = TellsOpened reply command
ComesOfOpening entry command = ⊥

-- one of the user's slots is recorded under the secret, where no tag matched by chance
pub record IsRecorded (book : Plain) (secret : List ℕ) (user : ℕ) : Type 0 where
  pub known : Record
  pub there : map.get (fold_changes (machine_of book).log) user ≡ Some known
  pub under : NoChanceMatch (tried_in book user) → HasSecret known secret

-- the command opens no key, or gave a right secret
abbrev pub GaveRecorded : Plain → Command → Type 0
GaveRecorded book command =
    IfSome (opening_secret command) (λ secret. IfSome (user_in command) (IsRecorded book secret))

-- a turn enters such an entry only for a command that gave a right secret
abbrev pub OpensFirst : Plain → Plain → Actor → Type 0
OpensFirst before after actor = (it : Running) (command : Command) (entry : Entry)
    → map.get before.docket.running actor ≡ Some it → slice_get before.docket.commands it.number ≡ Some command
    → after.ledger.entries ≡ before.ledger.entries ++ entry ∷ [] → ComesOfOpening entry command
    → GaveRecorded before command

-- the slot isn't the newest of the user's under the secret, where no tag matched by chance
abbrev pub IsSpare : Plain → ℕ → List ℕ → Slot → Type 0
IsSpare book user secret slot = NoChanceMatch (tried_in book user)
    → IfSome (map.get (fold_changes (machine_of book).log) user) (λ known. ¬ (IsNewestUnder known secret slot))

-- a turn of an unlock drops no other slot
abbrev pub KeepsOpened : Plain → Plain → Actor → Type 0
KeepsOpened before after actor = (it : Running) (user : ℕ) (secret : List ℕ) (slot : Slot)
    → map.get before.docket.running actor ≡ Some it
    → slice_get before.docket.commands it.number ≡ Some (Unlock user secret)
    → after.ledger.entries ≡ before.ledger.entries ++ Changed it.number (Drop user slot) ∷ []
    → IsSpare before user secret slot
