-- What a sink in memory is.
use Rattle.std.specs.Prelude.{ℕ, List, Option}

-- the bytes that it took, how many writes and faults there were, and the number of the write that fails, counted from
-- 0
pub record SinkState : Type 0 where
  pub taken : List ℕ
  pub calls : ℕ
  pub faults : ℕ
  pub fail_at : Option ℕ
