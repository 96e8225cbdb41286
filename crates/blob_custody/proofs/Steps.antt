-- Entries that are added, operations, syncs, replies and deletes keep the blobs in order.
use Rattle.std.proofs.Common.{◌≡◌, ◌≢◌, inl, inr, ℕ, true, false, List, [], ◌∷◌, ◌++◌, refl, sym, ap, ◌∙◌, subst}
use Rattle.std.specs.Prelude.{Option, None, is_some, Contains}
use Rattle.std.specs.Cmp.{nat_cmp_total}
use Rattle.std.specs.FinMap.{nat_cmp-IsAntisymmetric}
use Rattle.std.proofs.lemmas.List.Elements.{Contains-append_left, Contains-push, Contains-push_cases}
use Rattle.tree_model.specs.declared.blobs.Blob.{Blob}
use Rattle.tree_model.specs.declared.ops.Fill.TheVariants.{Same}
use Rattle.tree_model.specs.declared.sites.LocalOp.{LocalOp}
use Rattle.tree_model.specs.Tree.{Tree, after_op}
use Rattle.tree_model.specs.Disk.{view, with_op, synced}
use Rattle.tree_model.specs.Named.{PartNames, IsNamed}
use Rattle.tree_model.specs.Parts.{part_of}
use Rattle.tree_model.specs.Sites.{op_of}
use Rattle.tree_model.proofs.Maps.{decide_key}
use Rattle.tree_model.proofs.Images.{IsImage-applied}
use Rattle.tree_model.proofs.Parts.{part-own_filled, part-other_filled}
use Rattle.keystore_model.specs.declared.entry.StoreEntry.{StoreEntry}
use Rattle.keystore_model.specs.Store.{entry_of, IsLive, without, Differ}
use Rattle.keystore_model.proofs.Elements.{Contains-none}
use Rattle.keystore_model.proofs.Stores.{decide-bytes, none-live, entry-push, entry-push_other}
use Rattle.keystore_model.proofs.Stores.{entry-without_same, entry-without_other, live-without}
use Rattle.deferred_delete.specs.declared.items.Item.{Item}
use Rattle.deferred_delete.specs.Deferral.{IsNumbered}
use Rattle.blob_custody.specs.Custody.{Custody, IsPlaced, IsClean}
use Rattle.blob_custody.specs.Steps.{NamesLive, Exchanges, LetsGo, KeepsEntries}
use Rattle.blob_custody.specs.Steps.{with_held_entry, with_operation, after_sync, with_listed, without_item}
use Rattle.blob_custody.proofs.Left.{view-left, view-op, gone-settled, named-op, own-named, other-named, gone-op}
use Rattle.blob_custody.proofs.Listed.{same_blob, pushed-cases, pushed-keeps, pushed-listed, pushed-once, noted-from}
use Rattle.blob_custody.proofs.Listed.{noted-keeps, noted-once, taken-there, taken-apart, taken-keeps, one_number}

-- a new entry, of a blob that had none
module _ (custody : Custody) (entry : StoreEntry) (clean : IsClean custody)
    (names : NamesLive custody.disk custody.entries) (fresh : entry_of custody.entries entry.blob ≡ None) where
  new-apart : (blob : Blob) → IsLive custody.entries blob → blob ≢ entry.blob
  new-apart blob live same =
      none-live (entry_of custody.entries blob) (ap (entry_of custody.entries) same ∙ fresh) live

  live-still : (blob : Blob) → IsLive custody.entries blob → IsLive (custody.entries ++ entry ∷ []) blob
  live-still blob live = ap is_some (entry-push_other custody.entries entry blob (new-apart blob live)) ∙ live

  entry-placed : custody.ready ≡ true → (blob : Blob) → IsLive (custody.entries ++ entry ∷ []) blob
      → IsPlaced (with_held_entry custody entry) blob
  entry-placed ready blob live = elim (decide-bytes blob entry.blob) [
    | inl same ↦
        inr (inl (subst (λ b. Contains (custody.held ++ entry.blob ∷ []) b) (sym same)
        (Contains-push custody.held entry.blob)))
    | inr differ ↦
        elim (clean.placed ready blob (ap is_some (sym (entry-push_other custody.entries entry blob differ)) ∙ live)) [
          | inl named ↦ inl named
          | inr waits ↦ elim waits [
            | inl held ↦ inr (inl (Contains-append_left custody.held (entry.blob ∷ []) blob held))
            | inr listed ↦ inr (inr listed)
          ]
        ]
  ]

  pub clean-generated : IsClean (with_held_entry custody entry)
  clean-generated = record {
    placed = entry-placed;
    once = clean.once;
    live = λ item has. live-still item.blob (clean.live item has);
    unnamed = clean.unnamed;
    free = λ item has held. elim (Contains-push_cases custody.held entry.blob item.blob held) [
      | inl before ↦ clean.free item has before
      | inr same ↦ new-apart item.blob (clean.live item has) (sym same)
    ];
    gone = clean.gone;
    held_live = λ blob held. elim (Contains-push_cases custody.held entry.blob blob held) [
      | inl before ↦ live-still blob (clean.held_live blob before)
      | inr same ↦ subst (IsLive (custody.entries ++ entry ∷ [])) same
          (ap is_some (entry-push custody.entries entry fresh))
    ];
    held_gone = λ blob held. elim (Contains-push_cases custody.held entry.blob blob held) [
      | inl before ↦ clean.held_gone blob before
      | inr same ↦ record { gone = λ left is named. new-apart blob (names.live left is blob named) (sym same) }
    ];
  }

-- one user's operation: held blobs become named, and named ones are dropped, which are listed
module _ (custody : Custody) (user : ℕ) (op : LocalOp) (gains drops held : List Blob) (clean : IsClean custody)
    (exchanges : Exchanges custody user op gains drops held) where
  abbrev before : Tree
  before = view custody.disk

  abbrev after : Tree
  after = after_op before (op_of user op)

  was-named : (blob : Blob) → Contains drops blob → IsNamed before blob
  was-named blob dropped = record { user = user; there = exchanges.renames.dropped blob dropped }

  -- named after the operation in the tree that it leaves of the view, so in the view
  in-view : (blob : Blob) → IsNamed after blob → IsNamed (view (with_op custody.disk (op_of user op))) blob
  in-view blob named = subst (λ tree. IsNamed tree blob) (sym (view-op custody.disk (op_of user op))) named

  -- what was named is named still, or dropped, and then listed
  own-placed : (blob : Blob) → PartNames (part_of before user) blob
      → IsPlaced (with_operation custody user op drops held) blob
  own-placed blob names = elim (exchanges.renames.lost blob names) [
    | inl still ↦ inl (in-view blob (own-named before user Same op blob still))
    | inr dropped ↦ inr (inr (pushed-listed custody.list drops false blob dropped))
  ]

  named-placed : (blob : Blob) → IsNamed before blob → IsPlaced (with_operation custody user op drops held) blob
  named-placed blob named = elim (decide_key nat_cmp_total nat_cmp-IsAntisymmetric named.user user) [
    | inl same ↦ own-placed blob (subst (λ u. PartNames (part_of before u) blob) same named.there)
    | inr other ↦ inl (in-view blob (other-named before user Same op blob named other))
  ]

  operation-placed : custody.ready ≡ true → (blob : Blob) → IsLive custody.entries blob
      → IsPlaced (with_operation custody user op drops held) blob
  operation-placed ready blob live = elim (clean.placed ready blob live) [
    | inl named ↦ named-placed blob named
    | inr waits ↦ elim waits [
      | inl was_held ↦ elim (exchanges.lets_go.all blob was_held) [
        | inl still ↦ inr (inl still)
        | inr gained ↦ inl (in-view blob (own-named before user Same op blob (exchanges.renames.named blob gained)))
      ]
      | inr listed ↦ inr (inr (pushed-keeps custody.list drops false blob listed))
    ]
  ]

  -- what is neither named nor gained isn't named afterwards
  not-named : (blob : Blob) → ¬ (IsNamed before blob) → ¬ (Contains gains blob) → ¬ (IsNamed after blob)
  not-named blob unnamed not_gained named = elim (named-op before user Same op blob named) [
    | inl was ↦ unnamed was
    | inr now ↦ elim (exchanges.renames.gained before Same blob
        (IsImage-applied custody.disk.stable custody.disk.pending) now) [
          | inl was ↦ unnamed (record { user = user; there = was })
          | inr gained ↦ not_gained gained
        ]
  ]

  -- nor is what is dropped, since no other user named it
  dropped-unnamed : (blob : Blob) → Contains drops blob → ¬ (IsNamed after blob)
  dropped-unnamed blob dropped named = elim (decide_key nat_cmp_total nat_cmp-IsAntisymmetric named.user user) [
    | inl same ↦ exchanges.renames.unnamed blob dropped
        (subst (λ part. PartNames part blob)
        (ap (part_of after) same ∙ part-own_filled before user Same op) named.there)
    | inr other ↦ other (exchanges.names.one_user named.user user blob
        (subst (λ part. PartNames part blob) (part-other_filled before user named.user Same op other) named.there)
        (exchanges.renames.dropped blob dropped))
  ]

  -- a listed blob isn't gained, since it wasn't held
  not-gained : (item : Item) → Contains custody.list.items item → ¬ (Contains gains item.blob)
  not-gained item has gained = clean.free item has (exchanges.lets_go.were item.blob gained)

  pub clean-operation : IsClean (with_operation custody user op drops held)
  clean-operation = record {
    placed = operation-placed;
    once = pushed-once custody.list drops false clean.once exchanges.differ (λ blob dropped listed.
        clean.unnamed listed.item listed.has (subst (IsNamed before) (sym listed.is) (was-named blob dropped)));
    live = λ item has. elim (pushed-cases custody.list drops false item has) [
      | inl was ↦ clean.live item was
      | inr new ↦ exchanges.names.live before (view-left custody.disk) item.blob (was-named item.blob new.0)
    ];
    unnamed = λ item has named.
        let there : IsNamed after item.blob =
        subst (λ tree. IsNamed tree item.blob) (view-op custody.disk (op_of user op)) named in
        elim (pushed-cases custody.list drops false item has) [
          | inl was ↦ not-named item.blob (clean.unnamed item was) (not-gained item was) there
          | inr new ↦ dropped-unnamed item.blob new.0 there
        ];
    free = λ item has still. elim (pushed-cases custody.list drops false item has) [
      | inl was ↦ clean.free item was (exchanges.lets_go.still item.blob still)
      | inr new ↦ (clean.held_gone item.blob (exchanges.lets_go.still item.blob still)).gone before
          (view-left custody.disk) (was-named item.blob new.0)
    ];
    gone = λ none item has synced. elim (pushed-cases custody.list drops false item has) [
      | inl was ↦ gone-op custody.disk user op gains drops exchanges.renames item.blob (not-gained item was)
          (clean.gone none item was synced)
      | inr new ↦ absurd (unlike (sym new.1 ∙ synced))
    ];
    held_live = λ blob still. clean.held_live blob (exchanges.lets_go.still blob still);
    held_gone =
        λ blob still. gone-op custody.disk user op gains drops exchanges.renames blob
        (exchanges.lets_go.apart blob still) (clean.held_gone blob (exchanges.lets_go.still blob still));
  }
    where
      unlike : false ≡ true → ⊥
      unlike e = cc

-- a sync: the view is the only tree that a stop can leave, and each item is synced
module _ (custody : Custody) (base : Option Tree) (clean : IsClean custody) where
  module _ (item : Item) (has : Contains (after_sync custody base).list.items item) where
    abbrev before-sync : Item
    before-sync = (noted-from custody.list.items item has).0

    before-has : Contains custody.list.items before-sync
    before-has = (noted-from custody.list.items item has).1.0

    before-blob : before-sync.blob ≡ item.blob
    before-blob = same_blob (noted-from custody.list.items item has).1.1

    unnamed-still : ¬ (IsNamed (view custody.disk) item.blob)
    unnamed-still named =
        clean.unnamed before-sync before-has (subst (IsNamed (view custody.disk)) (sym before-blob) named)

  pub clean-sync : IsClean (after_sync custody base)
  clean-sync = record {
    placed = λ ready blob live. elim (clean.placed ready blob live) [
      | inl named ↦ inl named
      | inr waits ↦
          elim waits [ inl held ↦ inr (inl held) | inr listed ↦ inr (inr (noted-keeps custody.list blob listed)) ]
    ];
    once = noted-once custody.list.items clean.once;
    live =
        λ item has. subst (IsLive custody.entries) (before-blob item has)
        (clean.live (before-sync item has) (before-has item has));
    unnamed = unnamed-still;
    free =
        λ item has held. clean.free (before-sync item has) (before-has item has)
        (subst (Contains custody.held) (sym (before-blob item has)) held);
    gone = λ none item has was. gone-settled (synced custody.disk) item.blob refl (unnamed-still item has);
    held_live = clean.held_live;
    held_gone =
        λ blob held. gone-settled (synced custody.disk) blob refl
        ((clean.held_gone blob held).gone (view custody.disk) (view-left custody.disk));
  }

-- a command that fails lists what it held
pub clean-reply : (custody : Custody) (failed held : List Blob) → IsClean custody
    → LetsGo custody.held failed held → Differ failed
    → IsClean (with_listed custody failed held)
clean-reply custody failed held clean lets_go differ = record {
  placed = λ ready blob live. elim (clean.placed ready blob live) [
    | inl named ↦ inl named
    | inr waits ↦ elim waits [
      | inl was_held ↦ elim (lets_go.all blob was_held) [
        | inl still ↦ inr (inl still)
        | inr let_go ↦ inr (inr (pushed-listed custody.list failed true blob let_go))
      ]
      | inr listed ↦ inr (inr (pushed-keeps custody.list failed true blob listed))
    ]
  ];
  once = pushed-once custody.list failed true clean.once differ (λ blob has listed.
      clean.free listed.item listed.has (subst (Contains custody.held) (sym listed.is) (lets_go.were blob has)));
  live = λ item has. elim (pushed-cases custody.list failed true item has) [
    | inl before ↦ clean.live item before
    | inr new ↦ clean.held_live item.blob (lets_go.were item.blob new.0)
  ];
  unnamed = λ item has. elim (pushed-cases custody.list failed true item has) [
    | inl before ↦ clean.unnamed item before
    | inr new ↦ (clean.held_gone item.blob (lets_go.were item.blob new.0)).gone
        (view custody.disk) (view-left custody.disk)
  ];
  free = λ item has still. elim (pushed-cases custody.list failed true item has) [
    | inl before ↦ clean.free item before (lets_go.still item.blob still)
    | inr new ↦ lets_go.apart item.blob still new.0
  ];
  gone = λ none item has synced. elim (pushed-cases custody.list failed true item has) [
    | inl before ↦ clean.gone none item before synced
    | inr new ↦ clean.held_gone item.blob (lets_go.were item.blob new.0)
  ];
  held_live = λ blob still. clean.held_live blob (lets_go.still blob still);
  held_gone = λ blob still. clean.held_gone blob (lets_go.still blob still);
}

-- the delete of an item's blob
module _ (custody : Custody) (item : Item) (clean : IsClean custody) (numbered : IsNumbered custody.list)
    (listed : Contains custody.list.items item) where
  was-live : (blob : Blob) → IsLive (without custody.entries item.blob) blob → blob ≢ item.blob
  was-live blob live same =
      none-live (entry_of (without custody.entries item.blob) blob)
      (ap (entry_of (without custody.entries item.blob)) same ∙ entry-without_same custody.entries item.blob) live

  keeps-live : (blob : Blob) → blob ≢ item.blob → IsLive custody.entries blob
      → IsLive (without custody.entries item.blob) blob
  keeps-live blob differ live = ap is_some (entry-without_other custody.entries item.blob blob differ) ∙ live

  there : (other : Item) → Contains (without_item custody item).list.items other → Contains custody.list.items other
  there other has = taken-there custody.list.items item.number other has

  other-blob : (other : Item) → Contains (without_item custody item).list.items other → other.blob ≢ item.blob
  other-blob other has same =
      taken-apart custody.list.items item.number other has
      (ap (λ (i : Item). i.number) (clean.once other item (there other has) listed same))

  item-kept : (other : Item) → Contains custody.list.items other → other.blob ≢ item.blob
      → Contains (without_item custody item).list.items other
  item-kept other has differ = taken-keeps custody.list.items item.number other has
      (λ same. differ
      (same_blob (one_number custody.list.items numbered.rising other item has listed same)))

  pub clean-delete : IsClean (without_item custody item)
  clean-delete = record {
    placed = λ ready blob live. elim (clean.placed ready blob (live-without custody.entries item.blob blob live)) [
      | inl named ↦ inl named
      | inr waits ↦ elim waits [
        | inl held ↦ inr (inl held)
        | inr other ↦ inr (inr (record {
          item = other.item;
          has = item-kept other.item other.has (λ same. was-live blob live (sym other.is ∙ same));
          is = other.is;
        }))
      ]
    ];
    once = λ one other has also. clean.once one other (there one has) (there other also);
    live = λ other has. keeps-live other.blob (other-blob other has) (clean.live other (there other has));
    unnamed = λ other has. clean.unnamed other (there other has);
    free = λ other has. clean.free other (there other has);
    gone = λ none other has. clean.gone none other (there other has);
    held_live =
        λ blob held. keeps-live blob (λ same. clean.free item listed (subst (Contains custody.held) same held))
        (clean.held_live blob held);
    held_gone = clean.held_gone;
  }

-- where there is no base, the blob of a synced item is needed by nothing
pub due-entries : (custody : Custody) (item : Item) → IsClean custody → custody.base ≡ None
    → Contains custody.list.items item → item.synced ≡ true
    → KeepsEntries custody (without_item custody item).entries
due-entries custody item clean none listed synced = record {
  named = λ left is blob named. entry-without_other custody.entries item.blob blob
      (λ same. (clean.gone none item listed synced).gone left is (subst (IsNamed left) same named));
  held = λ blob held. entry-without_other custody.entries item.blob blob
      (λ same. clean.free item listed (subst (Contains custody.held) same held));
}

-- nothing is let go where nothing is gained
pub lets-none : (held then : List Blob) → then ≡ held → LetsGo held [] then
lets-none held then same = record {
  all = λ blob has. inl (subst (λ blobs. Contains blobs blob) (sym same) has);
  still = λ blob has. subst (λ blobs. Contains blobs blob) same has;
  apart = λ blob has none. Contains-none blob none;
  were = λ blob none. absurd (Contains-none blob none);
}
