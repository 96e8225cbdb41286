use Rattle.std.proofs.Common.{◌≡◌, List, ℕ, refl, sym, ap, ◌∙◌}
use Rattle.std.specs.Prelude.{Result, Ok, Err, MatchResult, IfOk}
use Rattle.tree_model.specs.declared.blobs.Blob.{Blob}
use Rattle.tree_model.specs.declared.device.DevFault.{DevFault}
use Rattle.keystore_model.specs.declared.entry.Tag.{Tag}
use Rattle.keystore_model.specs.Store.{Store, IsStore, IsGenerated, IsCurrent, entry_of, new_entry}
use Rattle.keystore_model.proofs.Stores.{after-generate}
use Rattle.keystore_memory.proofs.tests.generate.Goals as goal

-- what is generated is current
current : (before after : Store) (tag : Tag) (app_id : List ℕ) (result : Result Blob DevFault) → IsStore before
    → MatchResult result (IsGenerated before after tag app_id) (λ _. after ≡ before)
    → IfOk result (λ blob. IsCurrent after blob app_id)
current before after tag app_id (Err fault) whole made = tt
current before after tag app_id (Ok blob) whole made = record {
  entry = new_entry before blob tag app_id made.key;
  found =
      ap (λ store. entry_of store.entries blob) made.made
      ∙ (after-generate before blob tag app_id made.key whole made.fresh).found;
  bound = refl;
  current = sym (ap (λ store. store.level) made.made);
}

pub returns-clause-current : goal.returns-clause-current
returns-clause-current c = current _ _ _ _ _ c.level-level.ensures.whole c.generate.ensures.generated
