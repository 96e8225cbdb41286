-- One more entry, and one more change: the surviving changes and the map that they make.
use Rattle.std.proofs.Common.{◌≡◌, ◌+◌, ◌<◌, ℕ, List, [], ◌∷◌, ◌++◌, length, get_or, take, refl, sym, ap, ◌∙◌}
use Rattle.std.proofs.lemmas.List.{take_more}
use Rattle.journal_model.specs.declared.entries.Change.{Change}
use Rattle.journal_model.specs.declared.entries.Entry.{Entry}
use Rattle.journal_model.specs.declared.entries.Entry.TheVariants.{Began, Changed, Synced, Installed, Evicted}
use Rattle.journal_model.specs.declared.entries.Entry.TheVariants.{Swept, Stopped, Restarted, Replied}
use Rattle.journal_model.specs.Users.{Users, no_users, after_change, folded, fold_changes}
use Rattle.journal_model.specs.Log.{log_after}
use Rattle.journal_model.specs.Machine.{Machine, after_entry, log_of, machine_after}
use Rattle.journal_model.proofs.Steps.{machine_after-append}

log-after_entry : (before : List Entry) (machine : Machine) (entry : Entry)
    → (after_entry before machine entry).log ≡ log_after machine.log entry
log-after_entry before machine (Began number actor command) = refl
log-after_entry before machine (Changed number change) = refl
log-after_entry before machine Synced = refl
log-after_entry before machine (Installed user class) = refl
log-after_entry before machine (Evicted user class) = refl
log-after_entry before machine (Swept blob) = refl
log-after_entry before machine (Stopped kept) = refl
log-after_entry before machine (Restarted boot level) = refl
log-after_entry before machine (Replied number reply) = refl

-- the surviving changes with one more entry
pub log_of-append : (entries : List Entry) (entry : Entry)
    → log_of (entries ++ entry ∷ []) ≡ log_after (log_of entries) entry
log_of-append entries entry =
    ap (λ (machine : Machine). machine.log) (machine_after-append entries entry)
    ∙ log-after_entry entries (machine_after entries) entry

-- the surviving changes of one more of a journal's entries
pub log_of-more : (entries : List Entry) (i : ℕ) (default : Entry) (log log' : List Change) → i < length entries
    → log' ≡ log_after log (get_or entries i default) → log ≡ log_of (take i entries)
    → log' ≡ log_of (take (i + 1) entries)
log_of-more entries i default log log' within next so_far =
    next ∙ ap (λ (changes : List Change). log_after changes (get_or entries i default)) so_far
    ∙ sym (ap log_of (take_more entries i default within)
    ∙ log_of-append (take i entries) (get_or entries i default))

-- a fold with one more change
pub folded-append : (users : Users) (changes : List Change) (change : Change)
    → folded users (changes ++ change ∷ []) ≡ after_change (folded users changes) change
folded-append users [] change = refl
folded-append users (first ∷ changes) change = folded-append (after_change users first) changes change

-- the map that one more of the changes makes
pub fold_changes-more : (changes : List Change) (i : ℕ) (default : Change) (users users' : Users) → i < length changes
    → users' ≡ after_change users (get_or changes i default) → users ≡ fold_changes (take i changes)
    → users' ≡ fold_changes (take (i + 1) changes)
fold_changes-more changes i default users users' within next so_far =
    next ∙ ap (λ (before : Users). after_change before (get_or changes i default)) so_far
    ∙ sym (ap fold_changes (take_more changes i default within)
    ∙ folded-append no_users (take i changes) (get_or changes i default))
