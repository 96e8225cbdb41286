-- A protect begins with the slots that it has to try, and with the bytes that are made for it.
use Rattle.std.proofs.Common.{◌≡◌, ℕ, List, refl, sym, ap, ◌∙◌, subst, arith}
use Rattle.tree_model.specs.declared.places.Class.TheVariants.{Ce as ForCe}
use Rattle.journal_model.specs.declared.commands.Command.TheVariants.{Protect as ProtectCommand}
use Rattle.journal_model.specs.declared.entries.Birth.{Birth}
use Rattle.journal_model.specs.Made.{boot_seed_of, stream_bytes, stream_number, made, nonce_place, nonce_of}
use Rattle.journal_model.specs.Made.{discardable_place, discardable_of}
use Rattle.keystore_model.proofs.Elements.{Contains-none}
use Rattle.task_turns.specs.Shares.{IsNextSlot}
use Rattle.open_task.specs.declared.stages.Stage.TheVariants.{Reading}
use Rattle.store_task.specs.declared.turns.StoreSpec.{StoreSpec}
use Rattle.store_task.specs.declared.stages.Stage.TheVariants.{First}
use Rattle.user_tasks.specs.declared.protects.ProtectStage.TheVariants.{Opening as IsOpening}
use Rattle.user_tasks.specs.declared.looks.Known.{Known}
use Rattle.user_tasks.specs.declared.tasks.UserTask.TheVariants.{Protect as OfProtect}
use Rattle.user_tasks.specs.Made.{IsFurtherSpec, IsFirstProtect}
use Rattle.user_tasks.specs.Protect.{Protecting, slot_at}
use Rattle.user_tasks.specs.Tasks.{Begins}

-- the bytes that are made for it are words of its stream
drawn-words : (seed : List ℕ) (user : ℕ) (birth : Birth) →
    let bytes = stream_bytes (boot_seed_of seed birth.boot) (stream_number user birth.index) in
    (bytes (nonce_place ForCe) 3 ≡ nonce_of seed ForCe user birth)
    × (bytes (discardable_place ForCe) 4096 ≡ discardable_of seed ForCe user birth)
unfolding nonce_of discardable_of made
drawn-words seed user birth = (refl, refl)

module _ (user : ℕ) (given fresh : List ℕ) (birth : Birth) (boot_seed : List ℕ) (known : Known) where
  abbrev beginning : StoreSpec → ℕ → ℕ → Protecting
  beginning spec reads stores = record {
    made = birth;
    opening = record { user = user; secret = given; job = reads; left = known.to_try.items; stage = Reading };
    store = record { spec = spec; job = stores; stage = First };
    stage = IsOpening;
  }

  protect-begins : (spec : StoreSpec) (reads stores : ℕ) → IsFurtherSpec user birth known.next fresh boot_seed spec
      → Begins (ProtectCommand user given fresh) birth boot_seed known (OfProtect (beginning spec reads stores))
  protect-begins spec reads stores made = record {
    owned = refl;
    few = omega arith;
    makes = omega arith;
    draws = omega arith;
    held = refl;
    rests = λ facts share present installed accepted seeded knows.
        let words = drawn-words share.vault.seed user birth in
        let stream = stream_number user birth.index in
        record {
          of_user = refl;
          accepted = refl;
          serves = record {
            command = ap (ProtectCommand user given) (sym made.secret);
            made_by = refl;
            changes = refl;
          };
          facts = (
            subst (IsNextSlot share) (sym (ap slot_at made.target)) knows.1,
            (
              (
                made.nonce ∙ ap (λ seed. stream_bytes seed stream (nonce_place ForCe) 3) seeded ∙ words.0,
                made.discard ∙ ap (λ seed. stream_bytes seed stream (discardable_place ForCe) 4096) seeded ∙ words.1,
              ),
              (knows.0.gave, (knows.0.left, tt)),
            ),
          );
          known = (tt, (tt, (tt, (tt, tt))));
          owned = λ blob none. absurd (Contains-none blob none);
        };
  }

  -- as it is made
  pub first-protect : (number reads : ℕ) (protect : Protecting)
      → IsFirstProtect user birth number boot_seed fresh known.next protect
      → protect.opening ≡ (beginning protect.store.spec reads protect.store.job).opening
      → Begins (ProtectCommand user given fresh) birth boot_seed known (OfProtect protect)
  first-protect number reads protect first opening =
      subst (λ it. Begins (ProtectCommand user given fresh) birth boot_seed known (OfProtect it)) (sym same)
      (protect-begins protect.store.spec reads protect.store.job first.spec)
    where
      same : protect ≡ beginning protect.store.spec reads protect.store.job
      same = λ i. record {
        made = first.made_by i;
        opening = opening i;
        store = record { spec = protect.store.spec; job = protect.store.job; stage = first.first i };
        stage = first.stage i;
      }
