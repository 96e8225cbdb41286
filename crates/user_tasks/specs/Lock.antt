-- A lock as a task over its user's share of the devices: what each stage rests on.
use Rattle.std.specs.Prelude.{◌≡◌, ℕ, false, [], ◌∷◌, List}
use Rattle.tree_model.specs.declared.places.Class.TheVariants.{Ce as ForCe}
use Rattle.journal_model.specs.declared.commands.Command.TheVariants.{Lock as LockCommand}
use Rattle.journal_model.specs.Machine.{Running as Began}
use Rattle.task_turns.specs.declared.calls.Answer.{Answer}
use Rattle.task_turns.specs.declared.calls.Answer.TheVariants.{Done}
use Rattle.task_turns.specs.Shares.{ShareFact, HasKey}
use Rattle.task_turns.specs.Turns.{Rest}
use Rattle.user_tasks.specs.declared.locks.Lock.{Lock}
use Rattle.user_tasks.specs.declared.locks.LockStage.{LockStage}
use Rattle.user_tasks.specs.declared.locks.LockStage.TheVariants.{Evicting, Ended}

abbrev pub first_lock : ℕ → Lock
first_lock user = record { user = user; stage = Evicting }

-- what the machine has of its command
pub record IsLock (user : ℕ) (boot : ℕ) (began : Began) : Type 0 where
  pub command : began.command ≡ LockCommand user

-- in the end the credential key is not in the ring
abbrev pub facts_at : LockStage → List ShareFact
facts_at Evicting = []
facts_at Ended = HasKey ForCe false ∷ []

abbrev pub left_at : LockStage → ℕ
left_at Evicting = 2
left_at Ended = 1

abbrev pub lock_rest : Lock → Rest
lock_rest lock = record {
  user = lock.user;
  facts = facts_at lock.stage;
  held = [];
  serves = IsLock lock.user;
  left = left_at lock.stage;
  makes = 0;
  draws = 0;
}

abbrev pub after : Lock → Lock
after lock = record lock { stage = Ended }

-- the answers that it may hear
abbrev pub hears_at : LockStage → Answer → Type 0
hears_at Evicting answer = answer ≡ Done
hears_at Ended answer = ⊥

abbrev pub hears : Lock → Answer → Type 0
hears lock answer = hears_at lock.stage answer
