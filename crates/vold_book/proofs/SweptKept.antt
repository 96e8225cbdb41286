-- What was deleted was given once and has no entry any more, after each call; and the numbers of the list rise.
use Rattle.std.proofs.Common.{◌≡◌, ◌⊎◌, ℕ, inl, inr, List, [], ◌∷◌, ◌++◌, refl, sym, ap, ◌∙◌, subst}
use Rattle.std.proofs.lemmas.Option.{same_Some}
use Rattle.std.specs.Prelude.{Option, Some, None, Ok, Contains, Bool}
use Rattle.journal_model.specs.declared.entries.Entry.TheVariants.{Began, Changed, Synced, Installed, Evicted}
use Rattle.journal_model.specs.declared.entries.Entry.TheVariants.{Swept, Stopped, Restarted, Replied}
use Rattle.task_turns.specs.declared.calls.Call.TheVariants.{Op as OpCall, Sync, Generate, Encrypt, Decrypt}
use Rattle.task_turns.specs.declared.calls.Call.TheVariants.{List as ListCall, Read, Entries, Add, Remove, Delete}
use Rattle.journal_model.specs.declared.commands.Actor.{Actor}
use Rattle.tree_model.specs.declared.blobs.Blob.{Blob}
use Rattle.task_turns.specs.declared.calls.Call.{Call}
use Rattle.std.proofs.lemmas.List.Elements.{Contains-append_cases}
use Rattle.keystore_model.proofs.Elements.{Contains-cases, Contains-none}
use Rattle.bench.specs.Bench.{Does, Fits, IsMade, Plain as Seen}
use Rattle.journal_model.specs.declared.entries.Entry.{Entry}
use Rattle.bench.specs.declared.made.Made.TheVariants.{Failed, Heard}
use Rattle.deferred_delete.specs.Deferral.{IsNumbered, taken}
use Rattle.deferred_delete.specs.declared.items.Item.{Item}
use Rattle.user_world.specs.declared.changes.LocalChange.{LocalChange}
use Rattle.bench.specs.declared.made.Made.{Made}
use Rattle.vold_book.proofs.MadeCalls.{MadeCall, left_by}
use Rattle.vold_book.specs.State.{Plain}
use Rattle.vold_book.specs.declared.tasks.Running.{Running}
use Rattle.vold_book.specs.Whole.{WasSwept, Whole}
use Rattle.journal_model.specs.Machine.{blobs_swept, blob_swept}
use Rattle.keystore_model.proofs.Stores.{entry-without_same}
use Rattle.keystore_model.specs.Store.{Store, deleted}
use Rattle.std.proofs.lemmas.List.Concat.{flat_map-append}
use Rattle.vold_book.specs.Entries.{entry_of, made_entry}
use Rattle.vold_book.proofs.Carried.{carried}
use Rattle.vold_book.specs.Parts.{with_entry}
use Rattle.vold_book.proofs.Numbering.{numbered-made}

-- the blobs that an entry tells of come behind those of the journal
pub swept-with : (entries : List Entry) (entry : Option Entry) (blob : Blob)
    → Contains (blobs_swept (with_entry entries entry)) blob
    → Contains (blobs_swept entries) blob ⊎ (entry ≡ Some (Swept blob))
swept-with entries None blob has = inl has
swept-with entries (Some entry) blob has = elim (Contains-append_cases (blobs_swept entries) (blob_swept entry ++ [])
    blob (subst (λ blobs. Contains blobs blob) (flat_map-append blob_swept entries (entry ∷ [])) has))
    as (λ _. Contains (blobs_swept entries) blob ⊎ (Some entry ≡ Some (Swept blob))) [
      | inl was ↦ inl was
      | inr new ↦ inr (ap Some (of entry new))
    ]
  where
    of : (entry : Entry) → Contains (blob_swept entry ++ []) blob → entry ≡ Swept blob
    of (Swept other) has = elim (Contains-cases other [] blob has) [
      | inl same ↦ ap Swept same
      | inr none ↦ absurd (Contains-none blob none)
    ]
    of (Began number actor command) has = absurd (Contains-none blob has)
    of (Changed number change) has = absurd (Contains-none blob has)
    of Synced has = absurd (Contains-none blob has)
    of (Installed user class) has = absurd (Contains-none blob has)
    of (Evicted user class) has = absurd (Contains-none blob has)
    of (Stopped kept) has = absurd (Contains-none blob has)
    of (Restarted boot level) has = absurd (Contains-none blob has)
    of (Replied number reply) has = absurd (Contains-none blob has)

-- an entry that tells of no delete leaves what was deleted
pub swept-quiet : (store : Store) (entries : List Entry) (entry : Entry) → blob_swept entry ≡ []
    → ((blob : Blob) → Contains (blobs_swept entries) blob → WasSwept store blob)
    → (blob : Blob) → Contains (blobs_swept (entries ++ entry ∷ [])) blob → WasSwept store blob
swept-quiet store entries entry quiet swept blob has = elim (swept-with entries (Some entry) blob has) [
  | inl was ↦ swept blob was
  | inr new ↦ absurd (none (sym quiet ∙ ap blob_swept (same_Some entry (Swept blob) new)))
]
  where
    none : [] ≡ blob ∷ [] → ⊥
    none e = cc

-- an entry of a call tells of a delete where the call is one
deletes-it : (number : ℕ) (call : Call) (change : Option LocalChange) (blob : Blob)
    → entry_of number call change ≡ Some (Swept blob)
    → (item : Item) × (tells : Bool) × (call ≡ Delete item tells) × (item.blob ≡ blob)
deletes-it number (Delete item tells) change blob is = (item, tells, refl, same is)
  where
    same : Some (Swept item.blob) ≡ Some (Swept blob) → item.blob ≡ blob
    same e = cc
deletes-it number (OpCall user op names) None blob is = cc
deletes-it number (OpCall user op names) (Some change) blob is = cc
deletes-it number Sync change blob is = cc
deletes-it number ListCall change blob is = cc
deletes-it number (Read place) change blob is = cc
deletes-it number (Generate tag app_id) change blob is = cc
deletes-it number (Encrypt held app_id nonce key) change blob is = cc
deletes-it number (Decrypt held app_id text) change blob is = cc
deletes-it number Entries change blob is = cc
deletes-it number (Add user class key) change blob is = cc
deletes-it number (Remove user class) change blob is = cc

module _ (book : Plain) (whole : Whole book) (number : ℕ) (call : Call) (change : Option LocalChange) (bench : Seen)
    (fits : Fits book.bench call) where
  newly-swept : (made : Made) → IsMade book.bench bench call (Ok made) → (blob : Blob)
      → made_entry made (entry_of number call change) ≡ Some (Swept blob) → WasSwept bench.store blob
  newly-swept (Failed device) is_made blob is = cc
  newly-swept (Heard answer) is_made blob is =
      let of = deletes-it number call change blob is in
      subst (WasSwept bench.store) of.3
      (gone of.0 (subst (Fits book.bench) of.2 fits).0 (subst (λ c. Does book.bench bench c answer) of.2 is_made).1)
    where
      gone : (item : Item) → Contains book.bench.list.items item
          → bench ≡ record book.bench {
            store = deleted book.bench.store item.blob;
            store_counts = bench.store_counts;
            list = record book.bench.list { items = taken book.bench.list.items item.number };
          } → WasSwept bench.store item.blob
      gone item listed done = subst (λ b. WasSwept b.store item.blob) (sym done) (record {
        given = whole.store.given item.blob (whole.clean.live item listed);
        gone = entry-without_same book.bench.store.entries item.blob;
      })

module _ (book : Plain) (whole : Whole book) (actor : Actor) (it : Running) (done : MadeCall book actor it) where
  pub called-swept : (blob : Blob)
      → Contains (blobs_swept (with_entry book.ledger.entries (left_by book actor it done).entry)) blob
      → WasSwept done.bench.store blob
  called-swept blob has = elim (swept-with book.ledger.entries (left_by book actor it done).entry blob has) [
    | inl was ↦
        let carries = carried book whole it.number done.making.change done.making.then done.bench done.making.call
        done.made done.fits done.is_made in
        let swept = whole.swept blob was in
        record { given = carries.given blob swept.given; gone = carries.swept blob swept.given swept.gone }
    | inr new ↦ newly-swept book whole it.number done.making.call done.making.change done.bench done.fits done.made
        done.is_made blob new
  ]

  pub called-numbered : IsNumbered done.bench.list
  called-numbered = numbered-made book.bench done.bench whole.numbered done.making.call done.made done.fits
      done.is_made
