-- What a contract sees of a memory tree: its disk and its counts.
use Rattle.std.specs.Prelude.{[], refl}
use Rattle.std.specs.FinMap as map
use Rattle.std.specs.Coded.{Coded, code_by, coded×}
use Rattle.tree_model.specs.Counted.{Counts}
use Rattle.tree_model.specs.Disk.{Disk}
use Rattle.call_counter.specs.Counts.{counts_code}
use Rattle.tree_memory.specs.Held.{disk_code}

pub record Medium : Type 0 where
  pub disk : Disk
  pub counts : Counts

abbrev pub medium_code : Coded Medium
medium_code =
    code_by (Disk × Counts) (coded× disk_code counts_code) (λ medium. (medium.disk, medium.counts))
    (λ parts. record { disk = parts.0; counts = parts.1 }) (λ _. refl)

-- an empty tree with nothing pending
abbrev pub empty_disk : Disk
empty_disk = record { stable = map.empty; pending = [] }
