-- Durable changes stay: entry by entry, and of a command that was answered.
use Rattle.std.proofs.Common.{◌≡◌, ◌≢◌, ℕ, ◌≤◌, List, [], ◌∷◌, ◌++◌, length, take, inl, inr, refl, sym, ap, ◌∙◌}
use Rattle.std.proofs.Common.{subst, arith, append_assoc, length-append}
use Rattle.std.specs.Prelude.{drop, Option, Some, None, IsSomeAnd, Contains}
use Rattle.std.specs.FinMap as map
use Rattle.std.proofs.lemmas.List.{append-nil, take-append-drop, take-append-le, take_all, length-take-le}
use Rattle.std.proofs.lemmas.List.Elements.{Contains-push_cases, Contains-append_cases}
use Rattle.journal_model.specs.declared.commands.Command.{Command}
use Rattle.journal_model.specs.declared.commands.Command.TheVariants.{Create, Protect}
use Rattle.journal_model.specs.declared.commands.Reply.{Reply}
use Rattle.journal_model.specs.declared.commands.Reply.TheVariants.{Done}
use Rattle.journal_model.specs.declared.entries.Change.{Change}
use Rattle.journal_model.specs.declared.entries.Entry.{Entry}
use Rattle.journal_model.specs.declared.entries.Entry.TheVariants.{Began, Changed, Synced, Installed, Evicted}
use Rattle.journal_model.specs.declared.entries.Entry.TheVariants.{Swept, Stopped, Restarted, Replied}
use Rattle.journal_model.specs.Users.{owner_of}
use Rattle.journal_model.specs.Machine.{Machine, Running, first_machine, after_entry, machine_from, NoChangeOf}
use Rattle.journal_model.specs.Machine.{AllowsReply, MayEnd, ComesTo, DidWork, kind_of_reply, evidence_of}
use Rattle.journal_model.specs.Machine.{MayCome, IsLegal, IsLegalFrom}
use Rattle.journal_model.specs.Durable.{durable_changes, IsFront, Survive, LawOfAnswered, MadeDurably}

-- no more changes are durable than there are
abbrev IsCounted : Machine → Type 0
IsCounted machine = machine.kept ≤ length machine.log

-- fewer of a list come first among more of it
fronts : {A : Type 0} (few more : ℕ) (all : List A) → few ≤ more → more ≤ length all
    → IsFront (take few all) (take more all)
fronts {A} few more all less within = (
  drop few (take more all),
  sym (take-append-drop few (take more all))
      ∙ ap (λ front. front ++ drop few (take more all)) same,
)
  where
    rest : List A
    rest = drop more all

    same : take few (take more all) ≡ take few all
    same =
        sym (take-append-le few (take more all) rest
        (subst (λ n. few ≤ n) (sym (length-take-le more all within)) less))
        ∙ ap (take few) (take-append-drop more all)

survive-same : (machine after : Machine) → after.kept ≡ machine.kept → after.log ≡ machine.log → Survive machine after
survive-same machine after kept log = record {
  fewer = omega (arith, kept);
  first =
      ([], ap (λ n. take n after.log) kept ∙ ap (take machine.kept) log ∙ sym (append-nil (durable_changes machine)));
}

survive-later : (first second third : Machine) → Survive first second → Survive second third → Survive first third
survive-later first second third before after = record {
  fewer = omega (arith, before.fewer, after.fewer);
  first = (
    before.first.0 ++ after.first.0,
    after.first.1 ∙ ap (λ front. front ++ after.first.0) before.first.1
        ∙ append_assoc (durable_changes first) before.first.0 after.first.0,
  );
}

-- one more entry
step : (before : List Entry) (machine : Machine) (entry : Entry) → IsCounted machine → MayCome before machine entry
    → IsCounted (after_entry before machine entry) × Survive machine (after_entry before machine entry)
step before machine (Began number actor command) counted may = (counted, survive-same machine _ refl refl)
step before machine (Changed number change) counted may = (
  omega (arith, counted, length-append machine.log (change ∷ [])),
  record {
    fewer = omega arith;
    first = (
      [],
      take-append-le machine.kept machine.log (change ∷ []) counted
          ∙ sym (append-nil (durable_changes machine)),
    );
  },
)
step before machine Synced counted may = (
  omega arith,
  record { fewer = counted; first = fronts machine.kept (length machine.log) machine.log counted (omega arith) },
)
step before machine (Installed user class) counted may = (counted, survive-same machine _ refl refl)
step before machine (Evicted user class) counted may = (counted, survive-same machine _ refl refl)
step before machine (Swept blob) counted may = (counted, survive-same machine _ refl refl)
step before machine (Stopped kept) counted may =
    let cut : length (take kept machine.log) ≡ kept = length-take-le kept machine.log may.2 in
    let again : take kept (take kept machine.log) ≡ take kept machine.log =
    take_all kept (take kept machine.log) (omega (arith, cut)) in (
      omega (arith, cut),
      record {
        fewer = may.1;
        first =
            subst (IsFront (durable_changes machine)) (sym again) (fronts machine.kept kept machine.log may.1 may.2);
      },
    )
step before machine (Restarted boot level) counted may = (counted, survive-same machine _ refl refl)
step before machine (Replied number reply) counted may = (counted, survive-same machine _ refl refl)

-- further entries
steps : (before : List Entry) (machine : Machine) (more : List Entry) → IsCounted machine
    → IsLegalFrom before machine more
    → Survive machine (machine_from before machine more)
steps before machine [] counted legal = survive-same machine machine refl refl
steps before machine (entry ∷ more) counted legal =
    let one = step before machine entry counted legal.0 in
    let after = after_entry before machine entry in
    survive-later machine after (machine_from (before ++ entry ∷ []) after more) one.1
    (steps (before ++ entry ∷ []) after more one.0 legal.1)

-- further entries behind others
behind : (before : List Entry) (machine : Machine) (entries more : List Entry) → IsCounted machine
    → IsLegalFrom before machine (entries ++ more)
    → Survive (machine_from before machine entries) (machine_from before machine (entries ++ more))
behind before machine [] more counted legal = steps before machine more counted legal
behind before machine (entry ∷ entries) more counted legal =
    behind (before ++ entry ∷ []) (after_entry before machine entry) entries more
    (step before machine entry counted legal.0).0 legal.1

pub survives : (entries more : List Entry) → IsLegal (entries ++ more)
    → Survive (machine_from [] first_machine entries) (machine_from [] first_machine (entries ++ more))
survives entries more legal = behind [] first_machine entries more (omega arith) legal

-- what has no change of a user has none that is the user's
another-change : (user : ℕ) (changes : List Change) (change : Change)
    → NoChangeOf user changes → Contains changes change
    → owner_of change ≢ user
another-change user [] change none there = absurd (omega (arith, there.1))
another-change user (first ∷ changes) change none there =
    elim (Contains-append_cases (first ∷ []) changes change there) [
      | inl one ↦ elim (Contains-push_cases [] first change one) [
        | inl nothing ↦ absurd (omega (arith, nothing.1))
        | inr is ↦ λ mine. none.0 (ap owner_of is ∙ mine)
      ]
      | inr rest ↦ another-change user changes change none.1 rest
    ]

-- a logged change is durable where none of its user's is undurable
pub logged-durable : (machine : Machine) (user : ℕ) (change : Change) → owner_of change ≡ user
    → Contains machine.log change → NoChangeOf user (drop machine.kept machine.log)
    → Contains (durable_changes machine) change
logged-durable machine user change mine logged all =
    elim (Contains-append_cases (durable_changes machine) (drop machine.kept machine.log) change
    (subst (λ log. Contains log change) (sym (take-append-drop machine.kept machine.log)) logged)) [
      | inl there ↦ there
      | inr behind ↦ absurd (another-change user (drop machine.kept machine.log) change all behind mine)
    ]

-- what may come of a running command that was not refused
pub may-end : (machine : Machine) (running : Running) (reply : Reply) (found : Option Running)
    → found ≡ Some running → running.verdict ≡ None
    → IsSomeAnd found (λ r. AllowsReply machine r r.verdict reply)
    → MayEnd (kind_of_reply reply) (ComesTo machine running reply)
may-end machine running reply None is none may = absurd may
may-end machine running reply (Some r) is none may =
    let same : r ≡ running = cc in
    subst (λ verdict. AllowsReply machine running verdict reply) none
    (subst (λ r. AllowsReply machine r r.verdict reply) same may)

pub answered : LawOfAnswered
answered entries number running is none may =
    told running.command (may-end machine running Done (map.get machine.running number) is none may)
  where
    machine : Machine
    machine = machine_from [] first_machine entries

    told : (command : Command) → DidWork (evidence_of machine) machine.boot running command
        → MadeDurably machine running command
    told (Create user) did = logged-durable machine user _ refl did.0 did.1
    told (Protect user given fresh) did = (did.0.0, did.0.1, logged-durable machine user _ refl did.0.2 did.1)
    told command did = tt
