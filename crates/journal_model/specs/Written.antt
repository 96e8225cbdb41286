-- What contracts see of a journal: its entries, and how many more it has room for.
use Rattle.std.specs.Prelude.{ℕ, List}
use Rattle.journal_model.specs.declared.entries.Entry.{Entry}

pub record Written : Type 0 where
  pub entries : List Entry
  pub room : ℕ
