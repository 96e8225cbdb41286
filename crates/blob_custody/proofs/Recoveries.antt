-- Stops, and what a recovery lists and ends with, keep the blobs in order.
use Rattle.std.proofs.Common.{◌≡◌, ◌⊎◌, inl, inr, true, false, List, []}
use Rattle.std.specs.Prelude.{Option, Contains}
use Rattle.tree_model.specs.declared.blobs.Blob.{Blob}
use Rattle.tree_model.specs.Tree.{Tree}
use Rattle.tree_model.specs.Disk.{view}
use Rattle.tree_model.specs.Named.{IsNamed}
use Rattle.keystore_model.specs.Store.{IsLive, Differ}
use Rattle.keystore_model.proofs.Elements.{Contains-none}
use Rattle.blob_custody.specs.Custody.{Custody, IsListed, IsClean}
use Rattle.blob_custody.specs.Steps.{IsLost, with_listed, after_stop, made_ready}
use Rattle.blob_custody.proofs.Left.{gone-settled}
use Rattle.blob_custody.proofs.Listed.{pushed-cases, pushed-keeps, pushed-once}

-- nothing is listed or held, and the machine isn't ready
pub clean-stop : (custody : Custody) (tree : Tree) (base : Option Tree) → IsClean (after_stop custody tree base)
clean-stop custody tree base = record {
  placed = λ ready. absurd (unlike ready);
  once = λ item other has. absurd (Contains-none item has);
  live = λ item has. absurd (Contains-none item has);
  unnamed = λ item has. absurd (Contains-none item has);
  free = λ item has. absurd (Contains-none item has);
  gone = λ none item has. absurd (Contains-none item has);
  held_live = λ blob has. absurd (Contains-none blob has);
  held_gone = λ blob has. absurd (Contains-none blob has);
}
  where
    unlike : false ≡ true → ⊥
    unlike e = cc

-- live blobs that nothing names are listed
pub clean-listing : (custody : Custody) (found : List Blob) → IsClean custody
    → custody.disk.pending ≡ [] → Differ found
    → ((blob : Blob) → Contains found blob → IsLost custody blob)
    → IsClean (with_listed custody found custody.held)
clean-listing custody found clean settled differ lost = record {
  placed = λ ready blob live. elim (clean.placed ready blob live) [
    | inl named ↦ inl named
    | inr waits ↦ elim waits [
      | inl held ↦ inr (inl held)
      | inr listed ↦ inr (inr (pushed-keeps custody.list found true blob listed))
    ]
  ];
  once = pushed-once custody.list found true clean.once differ (λ blob has. (lost blob has).unlisted);
  live = λ item has. elim (pushed-cases custody.list found true item has) [
    | inl before ↦ clean.live item before
    | inr new ↦ (lost item.blob new.0).live
  ];
  unnamed = λ item has. elim (pushed-cases custody.list found true item has) [
    | inl before ↦ clean.unnamed item before
    | inr new ↦ (lost item.blob new.0).unnamed
  ];
  free = λ item has. elim (pushed-cases custody.list found true item has) [
    | inl before ↦ clean.free item before
    | inr new ↦ (lost item.blob new.0).free
  ];
  gone = λ none item has was. elim (pushed-cases custody.list found true item has) [
    | inl before ↦ clean.gone none item before was
    | inr new ↦ gone-settled custody.disk item.blob settled (lost item.blob new.0).unnamed
  ];
  held_live = clean.held_live;
  held_gone = clean.held_gone;
}

-- each live blob is named or listed, and nothing is held
pub clean-readiness : (custody : Custody) → IsClean custody
    → ((blob : Blob) → IsLive custody.entries blob → IsNamed (view custody.disk) blob ⊎ IsListed custody.list blob)
    → IsClean (made_ready custody)
clean-readiness custody clean placed = record {
  placed = λ ready blob live. elim (placed blob live) [ inl named ↦ inl named | inr listed ↦ inr (inr listed) ];
  once = clean.once;
  live = clean.live;
  unnamed = clean.unnamed;
  free = λ item has held. Contains-none item.blob held;
  gone = clean.gone;
  held_live = λ blob held. absurd (Contains-none blob held);
  held_gone = λ blob held. absurd (Contains-none blob held);
}
