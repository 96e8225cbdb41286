-- A create begins where its user isn't there, with the keys of its birth.
use Rattle.std.proofs.Common.{◌≡◌, ℕ, List, refl, sym, ap, ◌∙◌, subst, arith}
use Rattle.std.specs.Prelude.{Bool, true, false, None}
use Rattle.tree_model.specs.declared.places.Class.{Class}
use Rattle.tree_model.specs.declared.places.Class.TheVariants.{De as ForDe, Ce as ForCe}
use Rattle.tree_model.proofs.Logic.{is_none}
use Rattle.journal_model.specs.declared.commands.Command.TheVariants.{Create as CreateCommand}
use Rattle.journal_model.specs.declared.commands.Reply.TheVariants.{UserExists, TooManyUsers}
use Rattle.journal_model.specs.declared.entries.Birth.{Birth}
use Rattle.journal_model.specs.Made.{boot_seed_of, stream_bytes, stream_number, made, key_place, key_of}
use Rattle.journal_model.specs.Refusals.{due, first_due}
use Rattle.keystore_model.proofs.Elements.{Contains-none}
use Rattle.user_world.specs.OwnWorlds.{own_record}
use Rattle.store_task.specs.declared.turns.StoreSpec.{StoreSpec}
use Rattle.store_task.specs.declared.stages.Stage.TheVariants.{First}
use Rattle.user_tasks.specs.declared.creates.Stage.TheVariants.{Clearing}
use Rattle.user_tasks.specs.declared.looks.Known.{Known}
use Rattle.user_tasks.specs.declared.tasks.UserTask.TheVariants.{Create as OfCreate}
use Rattle.user_tasks.specs.Create.{Creating}
use Rattle.user_tasks.specs.Made.{IsMadeSpec, IsFirst}
use Rattle.user_tasks.specs.Tasks.{Begins}

-- the words of the stream are those of the key
key-words : (seed : List ℕ) (class : Class) (user : ℕ) (birth : Birth)
    → stream_bytes (boot_seed_of seed birth.boot) (stream_number user birth.index) (key_place class) 16
    ≡ key_of seed class user birth
unfolding key_of made
key-words seed class user birth = refl

key-given : (seed boot_seed : List ℕ) (class : Class) (user : ℕ) (birth : Birth) (spec : StoreSpec)
    → IsMadeSpec user birth class boot_seed spec → boot_seed ≡ boot_seed_of seed birth.boot
    → spec.key ≡ key_of seed class user birth
key-given seed boot_seed class user birth spec made is =
    made.key ∙ ap (λ bytes. stream_bytes bytes (stream_number user birth.index) (key_place class) 16) is
    ∙ key-words seed class user birth

none-present : (present crowded : Bool) → first_due (due present UserExists) (due crowded TooManyUsers) ≡ None
    → present ≡ false
none-present true crowded e = cc
none-present false crowded e = refl

module _ (user : ℕ) (birth : Birth) (boot_seed : List ℕ) (known : Known)
    (ce_spec de_spec : StoreSpec) (ce_job de_job : ℕ) where
  abbrev first_create : Creating
  first_create = record {
    user = user;
    birth = birth;
    ce = record { spec = ce_spec; job = ce_job; stage = First };
    de = record { spec = de_spec; job = de_job; stage = First };
    stage = Clearing;
  }

  create-begins : IsMadeSpec user birth ForCe boot_seed ce_spec → IsMadeSpec user birth ForDe boot_seed de_spec
      → Begins (CreateCommand user) birth boot_seed known (OfCreate first_create)
  create-begins ce_made de_made = record {
    owned = refl;
    few = omega arith;
    makes = omega arith;
    draws = omega arith;
    held = refl;
    rests = λ facts share present installed accepted seeded knows. record {
      of_user = refl;
      accepted = refl;
      serves = record { command = refl; born = refl; changes = refl };
      facts = (
        is_none (own_record share.own) (sym present ∙ none-present facts.present facts.crowded accepted),
        (
          key-given share.vault.seed boot_seed ForCe user birth ce_spec ce_made seeded,
          (key-given share.vault.seed boot_seed ForDe user birth de_spec de_made seeded, tt),
        ),
      );
      known = (tt, (tt, (tt, tt)));
      owned = λ blob none. absurd (Contains-none blob none);
    };
  }

-- as it is made
pub first-begins : (user : ℕ) (birth : Birth) (number : ℕ) (boot_seed : List ℕ) (known : Known)
    (create : Creating) → IsFirst user birth number boot_seed create
    → Begins (CreateCommand user) birth boot_seed known (OfCreate create)
first-begins user birth number boot_seed known create first =
    subst (λ it. Begins (CreateCommand user) birth boot_seed known (OfCreate it)) (sym same)
    (create-begins user birth boot_seed known create.ce.spec create.de.spec create.ce.job create.de.job
    first.ce.made first.de.made)
  where
    same : create ≡ first_create user birth boot_seed known create.ce.spec create.de.spec create.ce.job
        create.de.job
    same = λ i. record {
      user = first.of_user i;
      birth = first.born i;
      ce = record { spec = create.ce.spec; job = create.ce.job; stage = first.ce.first i };
      de = record { spec = create.de.spec; job = create.de.job; stage = first.de.first i };
      stage = first.stage i;
    }
