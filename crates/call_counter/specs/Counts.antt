-- The counts of a device that tells its planned calls.
use Rattle.std.specs.Prelude.{ℕ, Some, [], refl}
use Rattle.std.specs.Coded.{Coded, code_by, coded×, coded_ℕ, coded_list, coded_option}
use Rattle.tree_model.specs.Counted.{Counts, Plan}

abbrev pub counts_code : Coded Counts
counts_code =
    code_by (ℕ × (ℕ × Plan)) (coded× coded_ℕ (coded× coded_ℕ (coded_option (coded_list coded_ℕ))))
    (λ counts. (counts.calls, (counts.faults, counts.plan)))
    (λ parts. record { calls = parts.0; faults = parts.1.0; plan = parts.1.1 }) (λ _. refl)

-- no calls, no faults and no planned call
abbrev pub no_counts : Counts
no_counts = record { calls = 0; faults = 0; plan = Some [] }
