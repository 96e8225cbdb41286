-- What a source in memory is.
use Rattle.std.specs.Prelude.{ℕ, List, Option}

-- the bytes that are left, how many reads and faults there were, and the number of the read that fails, counted from 0
pub record SourceState : Type 0 where
  pub rest : List ℕ
  pub calls : ℕ
  pub faults : ℕ
  pub fail_at : Option ℕ
