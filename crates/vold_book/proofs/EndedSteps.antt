-- Whether a user's keys were ended by a journal, after one more of its entries.
use Rattle.std.proofs.Common.{◌≡◌, ℕ, Bool, false, List, [], ◌∷◌, ◌++◌, refl}
use Rattle.journal_model.specs.declared.entries.Entry.{Entry}
use Rattle.journal_model.specs.Endings.{ended_after, ended_from, is_ended}
use Rattle.journal_model.specs.Machine.{Machine, first_machine, after_entry, machine_from, machine_after}

ended_from-append : (user : ℕ) (before : List Entry) (machine : Machine) (ended : Bool) (entries : List Entry)
    (entry : Entry) → ended_from user before machine ended (entries ++ entry ∷ [])
    ≡ ended_after user (machine_from before machine entries) (ended_from user before machine ended entries) entry
ended_from-append user before machine ended [] entry = refl
ended_from-append user before machine ended (first ∷ entries) entry =
    ended_from-append user (before ++ first ∷ []) (after_entry before machine first)
    (ended_after user machine ended first) entries entry

pub ended-append : (user : ℕ) (entries : List Entry) (entry : Entry) → is_ended (entries ++ entry ∷ []) user
    ≡ ended_after user (machine_after entries) (is_ended entries user) entry
ended-append user entries entry = ended_from-append user [] first_machine false entries entry
