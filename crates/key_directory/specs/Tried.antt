-- What a journal tells of the secrets that a user's commands gave, and of the directories made under secrets.
use Rattle.std.specs.Prelude.{◌≡◌, ℕ, ◌==◌, cond, List, [], ◌∷◌, ◌++◌, map, Option, Some, None, Contains}
use Rattle.std.specs.Prelude.{flat_map}
use Rattle.std.specs.FinMap as maps
use Rattle.tree_model.specs.declared.places.Class.TheVariants.{Ce as ForCe}
use Rattle.tree_model.specs.Tree.{if_there}
use Rattle.journal_model.specs.declared.commands.Command.{Command}
use Rattle.journal_model.specs.declared.commands.Command.TheVariants.{Unlock, Protect}
use Rattle.journal_model.specs.declared.entries.Birth.{Birth}
use Rattle.journal_model.specs.declared.entries.Change.{Change}
use Rattle.journal_model.specs.declared.entries.Entry.{Entry}
use Rattle.journal_model.specs.declared.entries.Entry.TheVariants.{Began, Changed}
use Rattle.journal_model.specs.Command.{user_in}
use Rattle.journal_model.specs.Machine.{Machine, first_machine, after_entry, if_running, machine_after}
use Rattle.journal_model.specs.Made.{key_of, nonce_of, discardable_of}
use Rattle.journal_model.specs.Users.{Record, fold_changes, owner_of}
use Rattle.user_world.specs.declared.changes.LocalChange.{LocalChange}
use Rattle.user_world.specs.declared.changes.LocalChange.TheVariants.{Added}
use Rattle.user_world.specs.Changes.{local_of}
use Rattle.key_directory.specs.Vaults.{Addition, Attempts, NoChanceMatch, Extends}

-- a secret as a list, unless it is empty
abbrev pub not_empty : List ℕ → List (List ℕ)
not_empty [] = []
not_empty (byte ∷ bytes) = (byte ∷ bytes) ∷ []

-- what a command gives to open with
abbrev pub given_by : Command → List (List ℕ)
given_by (Unlock user secret) = not_empty secret
given_by (Protect user given fresh) = not_empty given
given_by command = []

-- the directory of a user of this birth that a command makes under a secret: of the boot, at the index
abbrev pub addition : List ℕ → ℕ → Birth → Birth → List ℕ → Addition
addition seed user born made secret = record {
  discard = discardable_of seed ForCe user made;
  nonce = nonce_of seed ForCe user made;
  key = key_of seed ForCe user born;
  secret = secret;
}

-- the directories under secrets that a change of a user adds
abbrev pub additions_of : List ℕ → ℕ → Birth → Option Record → LocalChange → List Addition
additions_of seed user made known (Added slot secret) =
    if_there known [] (λ (user_known : Record). map (addition seed user user_known.birth made) (not_empty secret))
additions_of seed user made known change = []

-- items of a user alone
abbrev pub if_of : {A : Type 0} → ℕ → Option ℕ → List A → List A
if_of user None items = []
if_of user (Some owner) items = cond (owner == user) items []

abbrev pub with_secrets : Attempts → List (List ℕ) → Attempts
with_secrets attempts more = record attempts { secrets = attempts.secrets ++ more }

abbrev pub with_additions : Attempts → List Addition → Attempts
with_additions attempts more = record attempts { additions = attempts.additions ++ more }

-- what a running command's change adds
abbrev pub added_by : List ℕ → ℕ → Machine → ℕ → Change → List Addition
added_by seed user machine number change = if_running (maps.get machine.running number) []
    (λ running. additions_of seed user (record { boot = machine.boot; index = running.index })
    (maps.get (fold_changes machine.log) user) (local_of change))

-- what was tried of a user once an entry came
abbrev pub attempts_after : List ℕ → ℕ → Machine → Attempts → Entry → Attempts
attempts_after seed user machine attempts (Began number actor command) =
    with_secrets attempts (if_of user (user_in command) (given_by command))
attempts_after seed user machine attempts (Changed number change) =
    with_additions attempts (if_of user (Some (owner_of change)) (added_by seed user machine number change))
attempts_after seed user machine attempts entry = attempts

abbrev pub attempts_from : List ℕ → ℕ → List Entry → Machine → Attempts → List Entry → Attempts
attempts_from seed user before machine attempts [] = attempts
attempts_from seed user before machine attempts (entry ∷ entries) =
    attempts_from seed user (before ++ entry ∷ []) (after_entry before machine entry)
    (attempts_after seed user machine attempts entry) entries

-- what a journal tells, by the script's seed
abbrev pub attempts_of : List ℕ → List Entry → ℕ → Attempts
attempts_of seed entries user =
    attempts_from seed user [] first_machine (record { additions = []; secrets = [] }) entries

-- one more entry, and more entries: more was tried, and so a match by chance in the front is one in the whole
pub record LawOfTried : Type 0 where
  pub entry : (seed : List ℕ) (user : ℕ) (entries : List Entry) (entry : Entry)
      → attempts_of seed (entries ++ entry ∷ []) user
      ≡ attempts_after seed user (machine_after entries) (attempts_of seed entries user) entry
  pub extends : (seed : List ℕ) (user : ℕ) (entries more : List Entry)
      → Extends (attempts_of seed entries user) (attempts_of seed (entries ++ more) user)
  pub front : (seed : List ℕ) (user : ℕ) (entries more : List Entry)
      → NoChanceMatch (attempts_of seed (entries ++ more) user) → NoChanceMatch (attempts_of seed entries user)

-- the secrets that an entry names of a user, but for the empty one
abbrev pub secrets_of : Command → List (List ℕ)
secrets_of (Unlock user secret) = not_empty secret
secrets_of (Protect user given fresh) = not_empty given ++ not_empty fresh
secrets_of command = []

abbrev pub added_under : LocalChange → List (List ℕ)
added_under (Added slot secret) = not_empty secret
added_under change = []

abbrev pub secrets_in : ℕ → Entry → List (List ℕ)
secrets_in user (Began number actor command) = if_of user (user_in command) (secrets_of command)
secrets_in user (Changed number change) = if_of user (Some (owner_of change)) (added_under (local_of change))
secrets_in user entry = []

-- the journal names no secret of the user but this one and the empty one
abbrev pub NamesOnly : ℕ → List Entry → List ℕ → Type 0
NamesOnly user entries secret =
    (other : List ℕ) → Contains (flat_map (secrets_in user) entries) other → other ≡ secret

-- where a journal names at most one secret of a user that isn't empty, no tag matched by chance
abbrev pub LawOfOneSecret : Type 0
LawOfOneSecret = (seed : List ℕ) (user : ℕ) (entries : List Entry) (secret : List ℕ)
    → NamesOnly user entries secret → NoChanceMatch (attempts_of seed entries user)
