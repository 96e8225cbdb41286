-- The codes of births, of users' records and of the map of users.
use Rattle.std.specs.Prelude.{ℕ, refl}
use Rattle.std.specs.Coded.{Coded, code_by, coded×, coded_ℕ, coded_list}
use Rattle.std.specs.FinMap as map
use Rattle.tree_model.specs.Order.{slot_code}
use Rattle.journal_model.specs.declared.entries.Birth.{Birth}
use Rattle.journal_model.specs.Users.{Secrets, Record, Users}

-- a birth is stored as the pair of its fields
abbrev pub birth_code : Coded Birth
birth_code =
    code_by (ℕ × ℕ) (coded× coded_ℕ coded_ℕ) (λ birth. (birth.boot, birth.index))
    (λ parts. record { boot = parts.0; index = parts.1 }) (λ _. refl)

-- a record is stored as the pair of its fields
abbrev pub record_code : Coded Record
record_code =
    code_by (Birth × Secrets) (coded× birth_code (map.code slot_code (coded_list coded_ℕ)))
    (λ user. (user.birth, user.secrets)) (λ parts. record { birth = parts.0; secrets = parts.1 }) (λ _. refl)

abbrev pub users_code : Coded Users
users_code = map.code coded_ℕ record_code
