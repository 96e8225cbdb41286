-- The turn that ends a user's keys lists every blob that the user's directories name, and its command owes them until
-- its reply.
use Rattle.std.proofs.Common.{◌≡◌, ◌+◌, ℕ, inl, inr, Bool, true, false, List, [], ◌∷◌, ◌++◌, length, refl, sym, ap}
use Rattle.std.proofs.Common.{◌∙◌, subst}
use Rattle.std.proofs.lemmas.List.{append-nil, append_assoc}
use Rattle.std.proofs.lemmas.Option.{none-some, same_Some}
use Rattle.std.specs.Prelude.{Option, Some, None, IsNone, Ok, is_some, Contains}
use Rattle.std.specs.FinMap as map
use Rattle.tree_model.specs.declared.blobs.Blob.{Blob}
use Rattle.tree_model.specs.declared.sites.LocalOp.{LocalOp}
use Rattle.tree_model.specs.declared.sites.LocalOp.TheVariants.{MakeDir, Write, RenameFile, RenameDir, RemoveFile}
use Rattle.tree_model.specs.declared.sites.LocalOp.TheVariants.{RemoveDir}
use Rattle.tree_model.specs.declared.sites.Site.TheVariants.{De, Ce, Temp}
use Rattle.tree_model.specs.declared.places.Slot.TheVariants.{Current, Cx}
use Rattle.tree_model.specs.Parts.{Part, local_kind, has_device}
use Rattle.tree_model.specs.Tree.{Kind, Add, Destroy as Destroys, Drop, Settle, kind_if}
use Rattle.tree_model.proofs.Maps.{get-insert_same, get-remove_same}
use Rattle.deferred_delete.specs.Deferral.{Deferral, pushed}
use Rattle.journal_model.specs.declared.commands.Actor.{Actor}
use Rattle.journal_model.specs.declared.commands.Actor.TheVariants.{User}
use Rattle.journal_model.specs.declared.entries.Change.{Change}
use Rattle.journal_model.specs.declared.entries.Change.TheVariants.{Destroy}
use Rattle.journal_model.specs.declared.entries.Entry.TheVariants.{Changed, Replied}
use Rattle.journal_model.specs.Actor.{actor_total, actor_exact}
use Rattle.blob_custody.specs.Steps.{pushed_all}
use Rattle.user_world.specs.declared.changes.LocalChange.{LocalChange}
use Rattle.user_world.specs.declared.changes.LocalChange.TheVariants.{Born, Added, Dropped, Settled, Destroyed}
use Rattle.user_world.specs.Changes.{change_of, noted_kind}
use Rattle.user_world.specs.OwnWorlds.{own_view}
use Rattle.user_world.specs.Timelines.{own_of}
use Rattle.task_turns.specs.declared.calls.Answer.{Answer}
use Rattle.task_turns.specs.declared.calls.Call.{Call}
use Rattle.task_turns.specs.declared.calls.Call.TheVariants.{Op, Sync, List as ListCall, Read, Delete}
use Rattle.task_turns.specs.declared.calls.Call.TheVariants.{Generate, Encrypt, Decrypt, Entries, Add as AddKey}
use Rattle.task_turns.specs.declared.calls.Call.TheVariants.{Remove}
use Rattle.task_turns.specs.declared.next.Next.TheVariants.{Call as CallNext}
use Rattle.user_tasks.specs.Tasks.{user_of}
use Rattle.bench.specs.declared.made.Made.{Made}
use Rattle.bench.specs.declared.made.Made.TheVariants.{Heard, Failed}
use Rattle.bench.specs.Bench.{BenchState, Senses, Plain as Seen, IsMade, dropped, was_done}
use Rattle.vold_book.specs.declared.tasks.Running.{Running}
use Rattle.vold_book.specs.declared.tasks.Task.{Task}
use Rattle.vold_book.specs.declared.tasks.Task.TheVariants.{User as Using, Recovery as Recovers, Refusal, Fault}
use Rattle.vold_book.specs.Entries.{entry_of, made_entry}
use Rattle.vold_book.specs.Listing.{ListsNamed, ListsEnded, OwesOn, blobs_named}
use Rattle.vold_book.specs.Owed.{Owed, items_from, with_more, more_owed, owed_after}
use Rattle.vold_book.specs.State.{BookState, Plain, seen, ground_of}
use Rattle.vold_book.specs.Steps.{CallsOn, GoesOn}
use Rattle.vold_book.specs.Tasks.{TaskStands, TaskShows, Plans, due_to}
use Rattle.vold_book.specs.Whole.{IsWhole}
use Rattle.vold_book.proofs.NamedBlobs.{names-all, numbers, slot-numbers}
use Rattle.vold_book.proofs.PassedItems.{owed-still}
use Rattle.vold_book.proofs.RightSecrets.{last-entry}
use Rattle.vold_book.proofs.UserRuns.{known-up}
use Rattle.vold_book.proofs.Worked.{stands-now}

-- blobs that come on the list come behind what is there
pushed-items : (list : Deferral) (blobs : List Blob)
    → (pushed_all list blobs false).items ≡ list.items ++ items_from list.next blobs
pushed-items list [] = sym (append-nil list.items)
pushed-items list (blob ∷ blobs) = pushed-items (pushed list blob false) blobs
    ∙ append_assoc list.items ((record { number = list.next; blob = blob; synced = false }) ∷ [])
    (items_from (list.next + 1) blobs)

more-items : (next : ℕ) (blobs : List Blob) (owed : Owed)
    → (with_more true (more_owed owed next blobs) owed).items ≡ owed.items ++ items_from next blobs
more-items next [] owed = sym (append-nil owed.items)
more-items next (blob ∷ blobs) owed = refl

-- only the removal of the device key's directory ends a user
kind-apart : (may : Bool) (kind : Kind) → kind_if may kind ≡ Some Destroys → kind ≡ Destroys
kind-apart true kind is = same_Some kind Destroys is
kind-apart false kind is = cc

removes-device : (part : Part) (op : LocalOp) → local_kind part op ≡ Some Destroys → op ≡ RemoveDir De
removes-device part (RemoveDir De) ends = refl
removes-device part (RemoveDir (Ce slot)) ends = let drop = kind-apart (has_device part) Drop ends in cc
removes-device part (RemoveDir Temp) ends = cc
removes-device part (RenameDir Temp De) ends = cc
removes-device part (RenameDir Temp (Ce (Cx n))) ends = let add = kind-apart (has_device part) Add ends in cc
removes-device part (RenameDir Temp (Ce Current)) ends = cc
removes-device part (RenameDir Temp Temp) ends = cc
removes-device part (RenameDir (Ce (Cx n)) (Ce Current)) ends =
    let settle = kind-apart (has_device part) Settle ends in cc
removes-device part (RenameDir (Ce (Cx n)) De) ends = cc
removes-device part (RenameDir (Ce (Cx n)) (Ce (Cx m))) ends = cc
removes-device part (RenameDir (Ce (Cx n)) Temp) ends = cc
removes-device part (RenameDir (Ce Current) to) ends = cc
removes-device part (RenameDir De to) ends = cc
removes-device part (MakeDir site) ends = cc
removes-device part (Write site file bytes) ends = cc
removes-device part (RenameFile site from to) ends = cc
removes-device part (RemoveFile site file) ends = cc

-- a change that ends a user
record IsEnd (user owner : ℕ) (local : LocalChange) : Type 0 where
  owned : owner ≡ user
  ends : local ≡ Destroyed

end-by : (user owner : ℕ) (local : LocalChange) → change_of owner local ≡ Destroy user → IsEnd user owner local
end-by user owner Destroyed same = record { owned = cc; ends = refl }
end-by user owner (Born birth) same = cc
end-by user owner (Added slot secret) same = cc
end-by user owner (Dropped slot) same = cc
end-by user owner (Settled slot) same = cc

-- the call that made it was done, and is that removal, by the user's actor
record EndsBy (actor : Actor) (call : Call) (made : Made) (user : ℕ) : Type 0 where
  names : Option Blob
  answer : Answer
  is_call : call ≡ Op user (RemoveDir De) names
  heard : made ≡ Heard answer
  own : actor ≡ User user

module _ (book : Plain) (actor : Actor) (it : Running) (task : Task) (call : Call) (change : Option LocalChange)
    (plans : Plans book actor it task (CallNext call change)) (number other user : ℕ) where
  ended-by : (made : Made) → made_entry made (entry_of number call change) ≡ Some (Changed other (Destroy user))
      → EndsBy actor call made user
  ended-by (Failed device) is = cc
  ended-by (Heard answer) is = by task call change is (stands-now book actor it task (CallNext call change) plans)
      plans.shows
    where
      same-change : (change : Change) → Some (Changed number change) ≡ Some (Changed other (Destroy user))
          → change ≡ Destroy user
      same-change change e = cc

      removed : (part : Part) (op : LocalOp) (local : LocalChange) → local_kind part op ≡ noted_kind (Some local)
          → local ≡ Destroyed → op ≡ RemoveDir De
      removed part op local noted ends =
          removes-device part op (noted ∙ ap (λ change. noted_kind (Some change)) ends)

      by : (task : Task) (call : Call) (change : Option LocalChange)
          → entry_of number call change ≡ Some (Changed other (Destroy user))
          → TaskStands (ground_of book) task plans.on.began
          → TaskShows (ground_of book) plans.on.began (due_to book it) task (CallNext call change)
          → EndsBy actor call (Heard answer) user
      by (Using user_task) (Op owner op names) (Some local) is stands shows =
          let end = end-by user owner local (same-change (change_of owner local) is) in
          let removal = removed (own_view (own_of (user_of user_task) (ground_of book).line)) op local
          shows.stands.step.noted end.ends in record {
            names = names;
            answer = answer;
            is_call = λ i. Op (end.owned i) (removal i) names;
            heard = refl;
            own = sym plans.on.own ∙ stands.of_user ∙ ap User (sym shows.stands.mine ∙ end.owned);
          }
      by (Recovers recovery) (Op owner op names) (Some local) is stands shows = let none = shows.0 in cc
      by (Refusal reply) (Op owner op names) (Some local) is stands shows = cc
      by (Fault device held) (Op owner op names) (Some local) is stands shows = cc
      by task (Op owner op names) None is stands shows = cc
      by task Sync change is stands shows = cc
      by task ListCall change is stands shows = cc
      by task (Read place) change is stands shows = cc
      by task (Generate tag app_id) change is stands shows = cc
      by task (Encrypt blob app_id nonce key) change is stands shows = cc
      by task (Decrypt blob app_id text) change is stands shows = cc
      by task Entries change is stands shows = cc
      by task (AddKey owner class key) change is stands shows = cc
      by task (Remove owner class) change is stands shows = cc
      by task (Delete item tells) change is stands shows = cc

module _ {D E F : Type 0} (senses : Senses D E F) (before after : BookState (BenchState D E F)) (actor : Actor) where
  pub begins-listed : IsNone (map.get before.docket.running actor)
      → ListsEnded (seen senses before) (seen senses after) actor
  begins-listed idle it number user runs told = absurd (apart (sym (ap is_some runs) ∙ idle))
    where
      apart : true ≡ false → ⊥
      apart e = cc

  module _ (whole : IsWhole senses before) (calls : CallsOn senses before after actor) (user : ℕ)
      (ends : EndsBy actor calls.making.call calls.makes.made user) where
    abbrev plain : Plain
    plain = seen senses before

    abbrev then : Plain
    then = seen senses after

    abbrev named : List Blob
    named = blobs_named before.bench.places user (numbers before.bench.places user)

    does : IsMade plain.bench then.bench (Op user (RemoveDir De) ends.names) (Ok (Heard ends.answer))
    does = subst (λ made. IsMade plain.bench then.bench (Op user (RemoveDir De) ends.names) (Ok made)) ends.heard
        (subst (λ call. IsMade plain.bench then.bench call (Ok calls.makes.made)) ends.is_call calls.makes.is_made)

    on-list : after.bench.list.items
        ≡ before.bench.list.items ++ items_from before.bench.list.next named
    on-list = ap (λ (b : Seen). b.list.items) does.1
        ∙ pushed-items (record before.bench.list {
          promised = before.bench.list.promised
              + length (dropped before.bench.places user (RemoveDir De));
        }) (dropped before.bench.places user (RemoveDir De))
        ∙ ap (λ blobs. before.bench.list.items ++ items_from before.bench.list.next blobs)
        (names-all before.bench.places user)

    owes-them : calls.making.owed.items ≡ calls.it.owed.items ++ items_from before.bench.list.next named
    owes-them = ap (λ (owed : Owed). owed.items) calls.makes.owed
        ∙ (λ i. (owed_after before.bench.places before.bench.list.next (ends.is_call i) (was_done (ends.heard i))
        calls.it.owed).items)
        ∙ more-items before.bench.list.next (dropped before.bench.places user (RemoveDir De)) calls.it.owed
        ∙ ap (λ blobs. calls.it.owed.items ++ items_from before.bench.list.next blobs)
        (names-all before.bench.places user)

    call-lists : ListsNamed plain then actor calls.it user
    call-lists = record {
      known = known-up plain whole actor calls.it calls.plans.runs user ends.own;
      numbers = numbers before.bench.places user;
      slots = slot-numbers before.bench.places user;
      listed = on-list;
      then = record { number = calls.it.number; task = calls.making.then; owed = calls.making.owed };
      runs = ap (λ b. map.get b.docket.running actor) calls.makes.state
          ∙ get-insert_same actor_total actor_exact before.docket.running actor _;
      owed = owes-them;
    }

  pub goes-listed : IsWhole senses before → GoesOn senses before after actor
      → ListsEnded (seen senses before) (seen senses after) actor
  goes-listed whole (inl calls) it number user runs told =
      let ends = ended-by (seen senses before) actor calls.it calls.making.task calls.making.call calls.making.change
      calls.plans calls.it.number number user calls.makes.made
      (last-entry before.ledger.entries _ (Changed number (Destroy user))
      (sym (ap (λ b. b.ledger.entries) calls.makes.state) ∙ told)) in
      subst (λ ran. ListsNamed (seen senses before) (seen senses after) actor ran user)
      (same_Some calls.it it (sym calls.plans.runs ∙ runs)) (call-lists whole calls user ends)
  goes-listed whole (inr replies) it number user runs told =
      absurd (apart (last-entry before.ledger.entries (Some (Replied replies.it.number replies.reply))
      (Changed number (Destroy user)) (sym (ap (λ b. b.ledger.entries) replies.replies.state) ∙ told)))
    where
      apart : Some (Replied replies.it.number replies.reply) ≡ Some (Changed number (Destroy user)) → ⊥
      apart e = cc

  -- what the actor's command owed it owes still, as long as it goes on
  pub begins-owing : IsNone (map.get before.docket.running actor)
      → OwesOn (seen senses before) (seen senses after) actor
  begins-owing idle it then item runs goes has = absurd (apart (sym (ap is_some runs) ∙ idle))
    where
      apart : true ≡ false → ⊥
      apart e = cc

  pub goes-owing : GoesOn senses before after actor → OwesOn (seen senses before) (seen senses after) actor
  goes-owing (inl calls) it further item runs goes has =
      let same = same_Some it calls.it (sym runs ∙ calls.plans.runs) in
      let made : Running = record {
        number = calls.it.number;
        task = calls.making.then;
        owed = calls.making.owed;
      } in
      let now : map.get after.docket.running actor ≡ Some made =
      ap (λ b. map.get b.docket.running actor) calls.makes.state
      ∙ get-insert_same actor_total actor_exact before.docket.running actor made in
      subst (λ (ran : Running). Contains ran.owed.items item) (same_Some made further (sym now ∙ goes))
      (subst (λ (owed : Owed). Contains owed.items item) (sym calls.makes.owed)
      (owed-still before.bench.places before.bench.list.next calls.making.call (was_done calls.makes.made)
      calls.it.owed item (subst (λ (ran : Running). Contains ran.owed.items item) same has)))
  goes-owing (inr replies) it further item runs goes has =
      absurd (none-some further (sym (get-remove_same actor_total actor_exact before.docket.running actor)
      ∙ sym (ap (λ b. map.get b.docket.running actor) replies.replies.state) ∙ goes))
