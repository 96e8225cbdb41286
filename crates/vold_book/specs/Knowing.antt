-- What a Book knows of a user as a command begins, and what it tells the turns of the command.
use Rattle.std.specs.Prelude.{◌≡◌, ℕ, Bool, false, true, List, Option, Some, None, is_some, IsSome}
use Rattle.std.specs.FinMap as map
use Rattle.std.specs.FinSet as set
use Rattle.tree_model.specs.declared.places.Class.{Class}
use Rattle.tree_model.specs.declared.places.Class.TheVariants.{De as ForDe, Ce as ForCe}
use Rattle.tree_model.specs.declared.places.Place.TheVariants.{De, Temp}
use Rattle.tree_model.specs.declared.places.Slot.TheVariants.{Current}
use Rattle.key_ring.specs.Ring.{Owner, has_owner}
use Rattle.journal_model.specs.declared.commands.Command.{Command}
use Rattle.journal_model.specs.Command.{user_in}
use Rattle.step_core.specs.Table.{NamedPlaces}
use Rattle.user_tasks.specs.declared.looks.Known.{Known}
use Rattle.user_tasks.specs.declared.looks.Looks.{Looks}
use Rattle.vold_book.specs.Owed.{Owed, due_of}
use Rattle.vold_book.specs.Slots.{slots_for, slots_of, last_slot, slot_next}
use Rattle.vold_book.specs.State.{Plain}
use Rattle.vold_book.specs.Sweeping.{IsNextSite}

-- whether the user, if there is one, has a key of this class in the ring; and a temporary directory
abbrev pub has_key_in : List Owner → Option ℕ → Class → Bool
has_key_in ring None class = false
has_key_in ring (Some user) class = has_owner ring user class

abbrev pub has_temp_in : NamedPlaces → Option ℕ → Bool
has_temp_in places None = false
has_temp_in places (Some user) = is_some (map.get places (Temp user))

-- it is what the known places tell of the command's user, and whose keys are in the ring
pub record IsKnown (places : NamedPlaces) (ring : List Owner) (command : Command) (known : Known) : Type 0 where
  pub slots : known.slots.items ≡ slots_of places (user_in command)
  pub to_try : known.to_try.items ≡ slots_for places command
  pub newest : known.newest ≡ last_slot Current (slots_of places (user_in command))
  pub next : known.next ≡ slot_next places command
  pub has_ce : known.has_ce ≡ has_key_in ring (user_in command) ForCe
  pub has_de : known.has_de ≡ has_key_in ring (user_in command) ForDe
  pub has_temp : known.has_temp ≡ has_temp_in places (user_in command)

-- what a turn of a user's command is told: what is in the way by the known places; that no change of the user's waits,
-- where the user is there and isn't marked; and the first of what the command listed that is due
pub record IsTold (book : Plain) (user : ℕ) (owed : Owed) (looks : Looks) : Type 0 where
  pub in_the_way : IsNextSite book.bench.places user looks.in_the_way
  pub durable : looks.durable ≡ true → IsSome (map.get book.bench.places (De user))
      × (set.contains book.marks user ≡ false)
  pub due : looks.due ≡ due_of book.bench.list owed
