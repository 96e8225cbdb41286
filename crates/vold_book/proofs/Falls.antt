-- Each turn that goes leaves fewer turns.
use Rattle.std.proofs.Common.{◌≡◌, ◌≢◌, inl, inr, ℕ, ◌+◌, ◌<◌, ◌≤◌, T, cond, List, [], ◌∷◌}
use Rattle.std.proofs.Common.{length, refl, sym, ap, ◌∙◌, subst, arith}
use Rattle.std.proofs.lemmas.Option.{none-some}
use Rattle.std.specs.Prelude.{Option, Some, None, IsNone, Ok, map as map_list}
use Rattle.std.specs.declared.cmp.Ordering.{Ordering}
use Rattle.std.specs.Cmp.{IsTotalOrder}
use Rattle.std.specs.FinMap as map
use Rattle.std.specs.FinMap.{IsAntisymmetric, entries_sorted}
use Rattle.std.specs.FinMap.Entries.{find, is_sorted, below_all}
use Rattle.tree_model.proofs.Logic.{T_first, T_second}
use Rattle.tree_model.proofs.Maps.{tied, decide_key, get-remove_same, get-remove_other, insert-remove}
use Rattle.tree_model.specs.declared.sites.LocalOp.{LocalOp}
use Rattle.tree_model.specs.declared.sites.LocalOp.TheVariants.{MakeDir, Write, RenameFile}
use Rattle.tree_model.specs.declared.sites.LocalOp.TheVariants.{RenameDir, RemoveFile, RemoveDir}
use Rattle.tree_model.specs.Disk.{view}
use Rattle.tree_model.specs.Parts.{part_of, LocalFits}
use Rattle.journal_model.specs.declared.commands.Actor.{Actor}
use Rattle.journal_model.specs.declared.commands.Actor.TheVariants.{Boot}
use Rattle.journal_model.specs.declared.commands.Command.{Command}
use Rattle.journal_model.specs.declared.commands.Reply.{Reply}
use Rattle.journal_model.specs.declared.phase.Phase.TheVariants.{Down}
use Rattle.journal_model.specs.Actor.{actor_total, actor_exact}
use Rattle.journal_model.specs.Command.{actor_of, user_in}
use Rattle.journal_model.proofs.ByCommand.{no-user}
use Rattle.sorted_map.specs.Sums.{total_by}
use Rattle.sorted_map.proofs.Sums.{worth, sum-insert, sum-remove}
use Rattle.docket.proofs.Accounts.{sum-left}
use Rattle.step_core.specs.Table.{NamedPlaces, Users}
use Rattle.task_turns.specs.declared.calls.Answer.{Answer}
use Rattle.task_turns.specs.declared.calls.Call.{Call}
use Rattle.task_turns.specs.declared.calls.Call.TheVariants.{Op as OpCall, Sync, List as ListCall, Read, Delete}
use Rattle.task_turns.specs.declared.calls.Call.TheVariants.{Generate, Encrypt, Decrypt, Entries, Add, Remove}
use Rattle.bench.specs.declared.made.Made.{Made}
use Rattle.bench.specs.declared.made.Made.TheVariants.{Heard, Failed}
use Rattle.bench.specs.Bench.{Plain as Seen, Fits, Does, IsFailed, IsFailedOp, IsMade}
use Rattle.user_tasks.specs.declared.tasks.UserTask.{UserTask}
use Rattle.vold_book.specs.declared.recovery.Recovery.{Recovery}
use Rattle.vold_book.specs.declared.tasks.Running.{Running}
use Rattle.vold_book.specs.declared.tasks.Task.{Task}
use Rattle.vold_book.specs.declared.tasks.Task.TheVariants.{User as Using, Recovery as Recovers, Refusal, Fault}
use Rattle.vold_book.specs.State.{Plain, machine_of, ground_of}
use Rattle.vold_book.specs.Tasks.{TaskStands, RunsOn}
use Rattle.vold_book.specs.Turns.{Start, FirstTask, AcceptedTask, Making, after_call}
use Rattle.vold_book.specs.Whole.{Whole, PhaseStands, most_turns, turns_of_task, count_from, turns_of, turns_left}
use Rattle.vold_book.proofs.Counted.{found-later}
use Rattle.vold_book.proofs.Plains.{Beginning, begun_plain, begun_seen, work_of, replied_plain}
use Rattle.vold_book.proofs.Shown.{CallFalls, cost_made, drops_made}
use Rattle.vold_book.proofs.Sizes.{len-with_op}
use Rattle.vold_book.proofs.Small.{FewSlots}
use Rattle.task_turns.specs.Turns.{cost_of}

-- two counts that agree on each value of a map have one sum
module _ {K X : Type 0} {R : K → K → Ordering} (total : IsTotalOrder R) (exact : IsAntisymmetric R) (f g : X → ℕ) where
  same-rows : (rows : List (K × X)) → T (is_sorted R rows)
      → ((k : K) (x : X) → find R k rows ≡ Some x → f x ≡ g x)
      → total_by f (map_list (λ row. row.1) rows) ≡ total_by g (map_list (λ row. row.1) rows)
  same-rows [] sorted same = refl
  same-rows (row ∷ rows) sorted same =
      let below = T_first (below_all R row.0 rows) (is_sorted R rows) sorted in
      let here = same row.0 row.1
      (ap (λ t. cond t (Some row.1) (find R row.0 rows)) (tied total exact row.0 row.0 refl)) in
      let rest = same-rows rows (T_second (below_all R row.0 rows) (is_sorted R rows) sorted)
      (λ k x found. same k x (found-later total exact row rows k x below found)) in
      omega (arith, here, rest)

  pub same-sums : (m : map.FinMap R X) → ((k : K) (x : X) → map.get m k ≡ Some x → f x ≡ g x)
      → total_by f (map.values m) ≡ total_by g (map.values m)
  same-sums m same =
      same-rows (map.entries m) (entries_sorted m) (λ k x found. same k x (map.get-entries m k ∙ found))

  -- the sum by another count once one value is another, where the counts agree on the others
  pub sum-changed : (m : map.FinMap R X) (k : K) (v : X)
      → ((q : K) (x : X) → q ≢ k → map.get m q ≡ Some x → g x ≡ f x)
      → total_by g (map.values (map.insert m k v)) + worth f (map.get m k) ≡ total_by f (map.values m) + g v
  sum-changed m k v agree =
      let put = sum-insert total g (map.remove m k) k v in
      let none = ap (worth g) (get-remove_same total exact m k) in
      let back = ap (λ n. total_by g (map.values n)) (insert-remove total exact m k v) in
      let less = sum-remove total f exact m k in
      let same = same-sums (map.remove m k) (λ q x at. elim (decide_key total exact q k) [
        | inl is ↦ absurd (none-some x (sym (ap (map.get (map.remove m k)) is ∙ get-remove_same total exact m k) ∙ at))
        | inr differ ↦ sym (agree q x differ (sym (get-remove_other total exact m k q differ) ∙ at))
      ]) in
      omega (arith, put, none, back, less, same)

-- what a call leaves of the number of directories, with those that it made and removed
failed-op-len : (before after : Seen) (user : ℕ) (op : LocalOp) → LocalFits (part_of (view before.disk) user) op
    → IsFailedOp before after user op → map.len (view after.disk) ≡ map.len (view before.disk)
failed-op-len before after user (MakeDir site) fits failed = ap (λ b. map.len (view b.disk)) failed
failed-op-len before after user (Write site file bytes) fits failed =
    let l = len-with_op before.disk user (Write site file failed.0) fits in
    let e = ap (λ b. map.len (view b.disk)) failed.1 in
    omega (arith, l, e)
failed-op-len before after user (RenameFile site from to) fits failed = absurd fits
failed-op-len before after user (RenameDir from to) fits failed = ap (λ b. map.len (view b.disk)) failed
failed-op-len before after user (RemoveFile site file) fits failed = absurd fits
failed-op-len before after user (RemoveDir site) fits failed = ap (λ b. map.len (view b.disk)) failed

failed-len : (before after : Seen) (call : Call) → Fits before call → IsFailed before after call
    → map.len (view after.disk) ≡ map.len (view before.disk)
failed-len before after (OpCall user op names) fits failed = failed-op-len before after user op fits.0 failed
failed-len before after Sync fits failed = ap (λ b. map.len (view b.disk)) failed
failed-len before after ListCall fits failed = ap (λ b. map.len (view b.disk)) failed
failed-len before after (Read place) fits failed = ap (λ b. map.len (view b.disk)) failed
failed-len before after (Generate tag app_id) fits failed = ap (λ b. map.len (view b.disk)) failed
failed-len before after (Encrypt blob app_id nonce key) fits failed = ap (λ b. map.len (view b.disk)) failed
failed-len before after (Decrypt blob app_id text) fits failed = ap (λ b. map.len (view b.disk)) failed
failed-len before after Entries fits failed = ap (λ b. map.len (view b.disk)) failed
failed-len before after (Add user class key) fits failed = ap (λ b. map.len (view b.disk)) failed
failed-len before after (Remove user class) fits failed = ap (λ b. map.len (view b.disk)) failed
failed-len before after (Delete item tells) fits failed = ap (λ b. map.len (view b.disk)) failed

done-len : (before after : Seen) (call : Call) (answer : Answer) → Fits before call → Does before after call answer
    → map.len (view after.disk) + (cost_made call (Heard answer)).takes
    ≡ map.len (view before.disk) + (cost_made call (Heard answer)).makes
done-len before after (OpCall user op names) answer fits does =
    let l = len-with_op before.disk user op fits.0 in
    let e = ap (λ b. map.len (view b.disk)) does.1 in
    omega (arith, l, e)
done-len before after Sync answer fits does = ap (λ b. map.len (view b.disk) + 0) does.1
done-len before after ListCall answer fits does = ap (λ b. map.len (view b.disk) + 0) does.2
done-len before after (Read place) answer fits does = ap (λ b. map.len (view b.disk) + 0) does.3
done-len before after (Generate tag app_id) answer fits does = ap (λ b. map.len (view b.disk) + 0) does.3
done-len before after (Encrypt blob app_id nonce key) answer fits does = ap (λ b. map.len (view b.disk) + 0) does.1
done-len before after (Decrypt blob app_id text) answer fits does = ap (λ b. map.len (view b.disk) + 0) does.1
done-len before after Entries answer fits does = ap (λ b. map.len (view b.disk) + 0) does.1.2
done-len before after (Add user class key) answer fits does = ap (λ b. map.len (view b.disk) + 0) does.1
done-len before after (Remove user class) answer fits does = ap (λ b. map.len (view b.disk) + 0) does.1
done-len before after (Delete item tells) answer fits does = ap (λ b. map.len (view b.disk) + 0) does.1

made-len : (before after : Seen) (call : Call) (made : Made) → Fits before call
    → IsMade before after call (Ok made)
    → map.len (view after.disk) + (cost_made call made).takes
    ≡ map.len (view before.disk) + (cost_made call made).makes
made-len before after call (Heard answer) fits is_made = done-len before after call answer fits is_made
made-len before after call (Failed device) fits is_made =
    let same = failed-len before after call fits is_made.1 in omega (arith, same)

-- what begins has so many turns at most
first-turns : (command : Command) (start : Start) (verdict : Option Reply) (task : Task)
    → FewSlots command start → FirstTask command start verdict task → (places : NamedPlaces)
    → turns_of_task places task < most_turns
first-turns command start (Some reply) task slots first places =
    let e = ap (turns_of_task places) first in omega (arith, e)
first-turns command start None task slots first places = by (user_in command) first
  where
    by : (user : Option ℕ) → AcceptedTask command start user task → turns_of_task places task < most_turns
    by (Some user) first =
        let e = ap (turns_of_task places) first.2 in
        let few = first.4.few in
        let tried = ap length first.3.to_try in
        let owned = ap length first.3.slots in
        let few_tried = slots.tried in
        let few_owned = slots.owned in
        omega (arith, e, few, tried, owned, few_tried, few_owned)
    by None first = let e = ap (turns_of_task places) first in omega (arith, e)

no_worth : (f : Running → ℕ) (found : Option Running) → IsNone found → worth f found ≡ 0
no_worth f None e = refl
no_worth f (Some r) e = cc

module _ (book : Plain) (whole : Whole book) where
  -- a recovery is the boot's, on a machine that is down
  other-turns : (places : NamedPlaces) (other : Actor) (o : Running) → map.get book.docket.running other ≡ Some o
      → (book.tracker.phase ≡ Down → other ≡ Boot → ⊥)
      → turns_of places o ≡ turns_of book.bench.places o
  other-turns places other o at apart =
      ap (λ turns. turns + count_from o.owed.from o.owed.items) (by o.task run.stands)
    where
      run : RunsOn (ground_of book) (machine_of book) other o
      run = whole.run other o at

      by : (task : Task) → TaskStands (ground_of book) task run.began
          → turns_of_task places task ≡ turns_of_task book.bench.places task
      by (Using task) stands = refl
      by (Recovers recovery) stands = absurd
          (apart (sym whole.agrees.phase ∙ stands.1.0) (sym run.own ∙ ap actor_of stands.0.command))
      by (Refusal reply) stands = refl
      by (Fault device held) stands = refl

  module _ (actor : Actor) where
    -- fewer turns are left once a command began
    module _ (begins : Beginning) (start : Start) (verdict : Option Reply) where
      abbrev Starts : Task → Type 0
      Starts task = FirstTask begins.command start verdict task

      begun-len : (task : Task) → map.len (view (begun_seen task book.bench).disk) ≡ map.len (view book.bench.disk)
      begun-len (Using task) = refl
      begun-len (Recovers recovery) = refl
      begun-len (Refusal reply) = refl
      begun-len (Fault device held) = refl

      starts-recovery : Starts begins.task → {recovery : Recovery} → begins.task ≡ Recovers recovery
          → actor_of begins.command ≡ Boot
      starts-recovery first is = by verdict first
        where
          accepted : (user : Option ℕ) → user_in begins.command ≡ user
              → AcceptedTask begins.command start user begins.task → actor_of begins.command ≡ Boot
          accepted (Some user) of first = absurd (unlike first.0 (sym first.2 ∙ is))
            where
              unlike : (task : UserTask) → {recovery : Recovery} → Using task ≡ Recovers recovery → ⊥
              unlike task e = cc
          accepted None of first = ap actor_of (no-user begins.command of)

          by : (verdict : Option Reply) → FirstTask begins.command start verdict begins.task
              → actor_of begins.command ≡ Boot
          by (Some reply) first = cc
          by None first = accepted (user_in begins.command) refl first

      pub begun-falls : IsNone (map.get book.docket.running actor)
          → map.get book.docket.waiting actor ≡ Some (begins.number ∷ begins.numbers)
          → actor_of begins.command ≡ actor → FewSlots begins.command start → Starts begins.task
          → turns_left (begun_plain book actor begins) < turns_left book
      begun-falls idle queue own tried first =
          let q = sum-left actor_total actor_exact book.docket.waiting actor begins.number begins.numbers queue in
          let s = sum-changed actor_total actor_exact (turns_of book.bench.places)
          (turns_of (begun_seen begins.task book.bench).places) book.docket.running actor (work_of begins)
          (λ other o differ at. kept begins.task refl other o differ at) in
          let w = no_worth (turns_of book.bench.places) (map.get book.docket.running actor) idle in
          let few = first-turns begins.command start verdict begins.task tried first
          (begun_seen begins.task book.bench).places in
          let same = begun-len begins.task in
          omega (arith, q, s, w, few, same)
        where
          kept : (task : Task) → begins.task ≡ task → (other : Actor) (o : Running) → other ≢ actor
              → map.get book.docket.running other ≡ Some o
              → turns_of (begun_seen task book.bench).places o ≡ turns_of book.bench.places o
          kept (Using task) is other o differ at = refl
          kept (Recovers recovery) is other o differ at =
              other-turns map.empty other o at
              (λ down boot. differ (boot ∙ sym (starts-recovery first is) ∙ own))
          kept (Refusal reply) is other o differ at = refl
          kept (Fault device held) is other o differ at = refl

    module _ (it : Running) (runs : map.get book.docket.running actor ≡ Some it) where
      -- what it owes then is what it owed and what it dropped, and a delete is one less
      abbrev pub OwesFewer : Making → Made → Type 0
      OwesFewer making made =
          count_from making.owed.from making.owed.items + (cost_of None making.call).deletes
          ≤ count_from it.owed.from it.owed.items + drops_made book.bench.places making.call made

      -- once a call was made, also where its device failed
      pub called-falls : (making : Making) (made : Made) (marks : Users) (after : Seen)
          → CallFalls book.bench.places after.places making.call made it.task making.then → OwesFewer making made
          → Fits book.bench making.call → IsMade book.bench after making.call (Ok made)
          → turns_left (after_call book actor it.number making made marks after) < turns_left book
      called-falls making made marks after shows owes fits is_made =
          let l = made-len book.bench after making.call made fits is_made in
          let s = sum-changed actor_total actor_exact (turns_of book.bench.places) (turns_of after.places)
          book.docket.running actor (record { number = it.number; task = making.then; owed = making.owed })
          (λ other o differ at. other-turns after.places other o at (λ down boot. differ (boot ∙ sym (alone down)))) in
          let w = ap (worth (turns_of book.bench.places)) runs in
          let turns = shows.turns in
          omega (arith, l, s, w, turns, owes)
        where
          alone : book.tracker.phase ≡ Down → actor ≡ Boot
          alone down = (subst (λ phase. PhaseStands phase book (machine_of book)) down whole.phase).1 actor it runs

      -- and once a reply was given
      pub replied-falls : (command : Command) (reply : Reply) → 0 < turns_of_task book.bench.places it.task
          → turns_left (replied_plain book actor it command reply) < turns_left book
      replied-falls command reply lasts =
          let s = sum-remove actor_total (turns_of book.bench.places) actor_exact book.docket.running actor in
          let w = ap (worth (turns_of book.bench.places)) runs in
          omega (arith, s, w, lasts)
