-- An entry leaves the keystore only in a turn that deletes it, and its blob was listed and synced before.
use Rattle.std.proofs.Common.{◌≡◌, inl, inr, ap, subst, sym, not}
use Rattle.std.proofs.lemmas.List.Elements.{Contains-append_left}
use Rattle.std.specs.Prelude.{Ok, Contains}
use Rattle.keystore_model.specs.Store.{same_bytes}
use Rattle.keystore_model.proofs.Stores.{bytes-apart, decide-bytes}
use Rattle.blob_custody.proofs.Lists.{filter-keeps}
use Rattle.task_turns.specs.declared.calls.Answer.{Answer}
use Rattle.task_turns.specs.declared.calls.Call.{Call}
use Rattle.task_turns.specs.declared.calls.Call.TheVariants.{Op, Sync, List as ListCall, Read, Generate, Encrypt}
use Rattle.task_turns.specs.declared.calls.Call.TheVariants.{Decrypt, Entries, Add, Remove, Delete}
use Rattle.bench.specs.declared.made.Made.{Made}
use Rattle.bench.specs.declared.made.Made.TheVariants.{Heard, Failed}
use Rattle.bench.specs.Bench.{Plain as Seen, Fits, Does, IsMade}
use Rattle.bench.proofs.Failures.{failed-leaves}
use Rattle.vold_book.specs.Endings.{EndsDue}

module _ (before after : Seen) where
  pub same-ends : after.store ≡ before.store → EndsDue before after
  same-ends same entry has = inl (subst (λ s. Contains s.entries entry) (sym same) has)

  done-ends : (call : Call) (answer : Answer) → Fits before call → Does before after call answer
      → EndsDue before after
  done-ends (Op user op names) answer fits does = same-ends (ap (λ b. b.store) does.1)
  done-ends Sync answer fits does = same-ends (ap (λ b. b.store) does.1)
  done-ends ListCall answer fits does = same-ends (ap (λ b. b.store) does.2)
  done-ends (Read place) answer fits does = same-ends (ap (λ b. b.store) does.3)
  done-ends (Generate tag app_id) answer fits does = λ entry has.
      inl (subst (λ entries. Contains entries entry) (sym (ap (λ s. s.entries) does.2.made))
      (Contains-append_left before.store.entries _ entry has))
  done-ends (Encrypt blob app_id nonce key) answer fits does = same-ends (ap (λ b. b.store) does.1)
  done-ends (Decrypt blob app_id text) answer fits does = same-ends (ap (λ b. b.store) does.1)
  done-ends Entries answer fits does = same-ends (ap (λ b. b.store) does.1.2)
  done-ends (Add user class key) answer fits does = same-ends (ap (λ b. b.store) does.1)
  done-ends (Remove user class) answer fits does = same-ends (ap (λ b. b.store) does.1)
  done-ends (Delete item tells) answer fits does = λ entry has. elim (decide-bytes item.blob entry.blob) [
    | inl same ↦ inr (record { item = item; has = fits.0; names = same; synced = fits.1 })
    | inr other ↦ inl (subst (λ s. Contains s.entries entry) (sym (ap (λ b. b.store) does.1))
        (filter-keeps (λ e. not (same_bytes item.blob e.blob)) before.store.entries entry
        (ap not (bytes-apart item.blob entry.blob other)) has))
  ]

  pub made-ends : (call : Call) (made : Made) → Fits before call → IsMade before after call (Ok made)
      → EndsDue before after
  made-ends call (Heard answer) fits is_made = done-ends call answer fits is_made
  made-ends call (Failed device) fits is_made =
      same-ends (ap (λ b. b.store) (failed-leaves before after call is_made.1))
