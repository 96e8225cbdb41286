-- What a reader or a writer of std is as a source or a sink.
use Rattle.std.specs.Prelude.{ℕ}

-- the reader or writer itself, and how many of its calls failed
pub record Adapted (Inner : Type 0) : Type 0 where
  pub inner : Inner
  pub faults : ℕ
