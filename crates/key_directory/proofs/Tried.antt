-- What a journal tells of secrets grows with its entries, and where it names one secret no tag matched by chance.
use Rattle.std.proofs.Common.{◌≡◌, ◌==◌, ℕ, true, false, cond, inl, inr, List, [], ◌∷◌, ◌++◌, map, refl, sym, ◌∙◌}
use Rattle.std.proofs.Common.{subst}
use Rattle.std.specs.Prelude.{Option, Some, None, Contains, flat_map}
use Rattle.std.specs.FinMap as maps
use Rattle.std.proofs.lemmas.List.Elements.{Contains-append_left, Contains-append_right, Contains-append_cases}
use Rattle.journal_model.specs.declared.commands.Command.{Command}
use Rattle.journal_model.specs.declared.commands.Command.TheVariants.{Unlock, Protect}
use Rattle.journal_model.specs.declared.entries.Birth.{Birth}
use Rattle.journal_model.specs.declared.entries.Entry.{Entry}
use Rattle.journal_model.specs.declared.entries.Entry.TheVariants.{Began, Changed}
use Rattle.journal_model.specs.Command.{user_in}
use Rattle.journal_model.specs.Machine.{Machine, Running, first_machine, after_entry, if_running, machine_from}
use Rattle.journal_model.specs.Users.{Record, fold_changes, owner_of}
use Rattle.keystore_model.proofs.Elements.{Contains-none, Contains-first, Contains-cases}
use Rattle.user_world.specs.declared.changes.LocalChange.{LocalChange}
use Rattle.user_world.specs.declared.changes.LocalChange.TheVariants.{Added}
use Rattle.user_world.specs.Changes.{local_of}
use Rattle.key_directory.specs.Tried.{not_empty, given_by, addition, additions_of, if_of, added_by, attempts_after}
use Rattle.key_directory.specs.Tried.{attempts_from, attempts_of, LawOfTried, secrets_of, added_under, secrets_in}
use Rattle.key_directory.specs.Tried.{LawOfOneSecret}
use Rattle.key_directory.specs.Vaults.{Addition, Attempts, Extends}
use Rattle.key_directory.proofs.Lasting.{fewer-match}

all-extends : (attempts : Attempts) → Extends attempts attempts
all-extends attempts = record { additions = λ added has. has; secrets = λ secret has. has }

module _ (seed : List ℕ) (user : ℕ) where
  from-append : (before : List Entry) (machine : Machine) (attempts : Attempts) (entries : List Entry) (entry : Entry)
      → attempts_from seed user before machine attempts (entries ++ entry ∷ [])
      ≡ attempts_after seed user (machine_from before machine entries)
      (attempts_from seed user before machine attempts entries) entry
  from-append before machine attempts [] entry = refl
  from-append before machine attempts (first ∷ entries) entry =
      from-append (before ++ first ∷ []) (after_entry before machine first)
      (attempts_after seed user machine attempts first) entries entry

  after-extends : (machine : Machine) (attempts : Attempts) (entry : Entry)
      → Extends attempts (attempts_after seed user machine attempts entry)
  after-extends machine attempts (Began number actor command) = record {
    additions = λ added has. has;
    secrets = Contains-append_left attempts.secrets _;
  }
  after-extends machine attempts (Changed number change) = record {
    additions = Contains-append_left attempts.additions _;
    secrets = λ secret has. has;
  }
  after-extends machine attempts entry = all-extends attempts

  from-extends : (before : List Entry) (machine : Machine) (attempts : Attempts) (entries : List Entry)
      → Extends attempts (attempts_from seed user before machine attempts entries)
  from-extends before machine attempts [] = all-extends attempts
  from-extends before machine attempts (entry ∷ entries) =
      let first = after-extends machine attempts entry in
      let later = from-extends (before ++ entry ∷ []) (after_entry before machine entry)
      (attempts_after seed user machine attempts entry) entries in record {
        additions = λ added has. later.additions added (first.additions added has);
        secrets = λ secret has. later.secrets secret (first.secrets secret has);
      }

  -- more entries tell of more
  more-extends : (before : List Entry) (machine : Machine) (attempts : Attempts) (entries more : List Entry)
      → Extends (attempts_from seed user before machine attempts entries)
      (attempts_from seed user before machine attempts (entries ++ more))
  more-extends before machine attempts [] more = from-extends before machine attempts more
  more-extends before machine attempts (entry ∷ entries) more =
      more-extends (before ++ entry ∷ []) (after_entry before machine entry)
      (attempts_after seed user machine attempts entry) entries more

abbrev none-tried : Attempts
none-tried = record { additions = []; secrets = [] }

pub tried : LawOfTried
tried = record {
  entry = λ seed user entries entry. from-append seed user [] first_machine none-tried entries entry;
  extends = λ seed user entries more. more-extends seed user [] first_machine none-tried entries more;
  front = λ seed user entries more.
      fewer-match (attempts_of seed entries user) (attempts_of seed (entries ++ more) user)
      (more-extends seed user [] first_machine none-tried entries more);
}

-- an element of a user's items, where it leads to one of other items of the same user
of-user : {A B : Type 0} (user : ℕ) (owner : Option ℕ) (items : List A) (others : List B) (a : A) (b : B)
    → (Contains items a → Contains others b) → Contains (if_of user owner items) a
    → Contains (if_of user owner others) b
of-user user None items others a b leads has = absurd (Contains-none a has)
of-user user (Some owner) items others a b leads has =
    elim (owner == user) as (λ t. Contains (cond t items []) a → Contains (cond t others []) b) [
      | true ↦ leads
      | false ↦ λ none. absurd (Contains-none a none)
    ] has

-- what a command gives is among the secrets that it names
given-named : (command : Command) (secret : List ℕ) → Contains (given_by command) secret
    → Contains (secrets_of command) secret
given-named (Unlock user given) secret has = has
given-named (Protect user given fresh) secret has = Contains-append_left (not_empty given) (not_empty fresh) secret has
given-named command secret has = absurd (Contains-none secret has)

module _ (seed : List ℕ) (user : ℕ) where
  addition-under : (born made : Birth) (secret : List ℕ) (added : Addition)
      → Contains (map (addition seed user born made) (not_empty secret)) added
      → Contains (not_empty secret) added.secret
  addition-under born made [] added has = absurd (Contains-none added has)
  addition-under born made (byte ∷ bytes) added has =
      elim (Contains-cases (addition seed user born made (byte ∷ bytes)) [] added has) [
        | inl is ↦ subst (λ (a : Addition). Contains ((byte ∷ bytes) ∷ []) a.secret) is
            (Contains-first (byte ∷ bytes) [])
        | inr none ↦ absurd (Contains-none added none)
      ]

  -- what a change adds is under a secret that it names
  change-under : (made : Birth) (known : Option Record) (change : LocalChange) (added : Addition)
      → Contains (additions_of seed user made known change) added → Contains (added_under change) added.secret
  change-under made None (Added slot secret) added has = absurd (Contains-none added has)
  change-under made (Some known) (Added slot secret) added has = addition-under known.birth made secret added has
  change-under made known change added has = absurd (Contains-none added has)

  running-under : (machine : Machine) (found : Option Running) (change : LocalChange) (added : Addition)
      → Contains (if_running found [] (λ running. additions_of seed user
      (record { boot = machine.boot; index = running.index }) (maps.get (fold_changes machine.log) user) change)) added
      → Contains (added_under change) added.secret
  running-under machine None change added has = absurd (Contains-none added has)
  running-under machine (Some running) change added has =
      change-under _ (maps.get (fold_changes machine.log) user) change added has

-- all that was tried is of one secret
record OnlyUnder (secret : List ℕ) (attempts : Attempts) : Type 0 where
  pub additions : (added : Addition) → Contains attempts.additions added → added.secret ≡ secret
  pub secrets : (given : List ℕ) → Contains attempts.secrets given → given ≡ secret

module _ (seed : List ℕ) (user : ℕ) (secret : List ℕ) where
  only-after : (machine : Machine) (attempts : Attempts) (entry : Entry) → OnlyUnder secret attempts
      → ((other : List ℕ) → Contains (secrets_in user entry) other → other ≡ secret)
      → OnlyUnder secret (attempts_after seed user machine attempts entry)
  only-after machine attempts (Began number actor command) only names = record {
    additions = only.additions;
    secrets = λ given has. elim (Contains-append_cases attempts.secrets _ given has) [
      | inl old ↦ only.secrets given old
      | inr new ↦ names given (of-user user (user_in command) (given_by command) (secrets_of command) given given
          (given-named command given) new)
    ];
  }
  only-after machine attempts (Changed number change) only names = record {
    additions = λ added has. elim (Contains-append_cases attempts.additions _ added has) [
      | inl old ↦ only.additions added old
      | inr new ↦ names added.secret (of-user user (Some (owner_of change))
          (added_by seed user machine number change) (added_under (local_of change)) added added.secret
          (running-under seed user machine (maps.get machine.running number) (local_of change) added) new)
    ];
    secrets = only.secrets;
  }
  only-after machine attempts entry only names = only

  only-from : (before : List Entry) (machine : Machine) (attempts : Attempts) (entries : List Entry)
      → OnlyUnder secret attempts
      → ((other : List ℕ) → Contains (flat_map (secrets_in user) entries) other → other ≡ secret)
      → OnlyUnder secret (attempts_from seed user before machine attempts entries)
  only-from before machine attempts [] only names = only
  only-from before machine attempts (entry ∷ entries) only names =
      let here = secrets_in user entry in
      let later = flat_map (secrets_in user) entries in
      only-from (before ++ entry ∷ []) (after_entry before machine entry)
      (attempts_after seed user machine attempts entry) entries
      (only-after machine attempts entry only (λ other has. names other (Contains-append_left here later other has)))
      (λ other has. names other (Contains-append_right here later other has))

pub one-secret : LawOfOneSecret
one-secret seed user entries secret names =
    let only = only-from seed user secret [] first_machine none-tried entries (record {
      additions = λ added has. absurd (Contains-none added has);
      secrets = λ given has. absurd (Contains-none given has);
    }) names in record {
      none = λ added given has gave differ.
          absurd (differ (only.secrets given gave ∙ sym (only.additions added has)));
    }
