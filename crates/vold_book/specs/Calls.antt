-- What came of a call that was made over devices of any kind, and what its command owes then; and that nothing did.
use Rattle.std.specs.Prelude.{◌≡◌, Ok}
use Rattle.task_turns.specs.declared.calls.Call.{Call}
use Rattle.bench.specs.declared.bench.Bench.{Bench}
use Rattle.bench.specs.Bench.{Senses, IsMade, AreCounted, device_of, told_of, seen}
use Rattle.bench.specs.Seen.{AnswersWhole, marks_told, state_of}
use Rattle.vold_book.specs.declared.calls.Called.{Called}
use Rattle.vold_book.specs.Owed.{Owed, more_owed, drops_of}

-- the call was made and counted by its device, and followed in what is known
pub record WasCalled {T K G : Type 0} (senses : Senses T K G) (before after : Bench T K G) (call : Call) (owed : Owed)
    (called : Called) : Type 0 where
  pub made : IsMade (seen senses (state_of before)) (seen senses (state_of after)) call (Ok called.made)
  pub counted : AreCounted (seen senses (state_of before)) (seen senses (state_of after)) (device_of call)
      (told_of (Ok called.made))
  pub marks : after.table.marks ≡ marks_told before.table.marks call (Ok called.made)
  -- a blob that is answered has 32 bytes
  pub answers : AnswersWhole (Ok called.made)
  pub more : called.more ≡ more_owed owed before.list.next (drops_of before.table.places call)

-- what is seen of the devices and known of them is as it was
pub record IsUntouched {T K G : Type 0} (senses : Senses T K G) (before after : Bench T K G) : Type 0 where
  pub same : seen senses (state_of after) ≡ seen senses (state_of before)
  pub marks : after.table.marks ≡ before.table.marks
