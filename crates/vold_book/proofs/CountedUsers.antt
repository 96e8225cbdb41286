-- The Book's count of the users who are there or being created is the machine's.
use Rattle.std.proofs.Common.{◌≡◌, ◌≢◌, ℕ, ◌+◌, ◌<◌, ◌≤◌, Bool, true, false, cond, List, [], ◌∷◌, ◌++◌, length, get_or}
use Rattle.std.proofs.Common.{take, refl, sym, ap, ◌∙◌, subst, arith, length-append, append-nil}
use Rattle.std.specs.Prelude.{Option, Some, None, is_some, IsSomeAnd, Contains, slice_get, nat_le}
use Rattle.std.specs.List.{flat_map}
use Rattle.std.specs.Ordering.{nat_cmp}
use Rattle.std.specs.Cmp.{nat_cmp_total}
use Rattle.std.specs.FinMap as map
use Rattle.std.specs.FinMap.{nat_cmp-IsAntisymmetric}
use Rattle.std.proofs.lemmas.List.{take_more}
use Rattle.std.proofs.lemmas.List.Concat.{flat_map-append}
use Rattle.std.proofs.lemmas.List.Folds.{flat_map-map}
use Rattle.std.proofs.lemmas.Option.{same_Some}
use Rattle.tree_model.specs.declared.places.Place.{Place}
use Rattle.tree_model.specs.declared.places.Place.TheVariants.{De, Ce, Temp}
use Rattle.tree_model.specs.Disk.{view}
use Rattle.tree_model.specs.Order.{place_total, place_exact}
use Rattle.keystore_model.proofs.Elements.{Contains-none, Contains-first}
use Rattle.journal_model.specs.declared.commands.Actor.{Actor}
use Rattle.journal_model.specs.declared.commands.Actor.TheVariants.{User}
use Rattle.journal_model.specs.declared.commands.Command.{Command}
use Rattle.journal_model.specs.declared.commands.Command.TheVariants.{Create}
use Rattle.journal_model.specs.declared.commands.Reply.{Reply}
use Rattle.journal_model.specs.declared.phase.Phase.TheVariants.{Up}
use Rattle.journal_model.specs.Actor.{actor_total, actor_exact}
use Rattle.journal_model.specs.Command.{actor_of}
use Rattle.journal_model.specs.Machine.{Machine, Running as Began, max_users, new_user, new_user_unless, creating}
use Rattle.journal_model.specs.Machine.{newcomers, is_crowded as is_crowded_there}
use Rattle.journal_model.specs.Users.{Users, fold_changes}
use Rattle.key_directory.proofs.Present.{there-user}
use Rattle.step_core.specs.Table.{NamedPlaces}
use Rattle.bench.specs.Known.{Knows}
use Rattle.vold_book.specs.declared.tasks.Running.{Running}
use Rattle.vold_book.specs.declared.tasks.Task.{Task}
use Rattle.vold_book.specs.declared.tasks.Task.TheVariants.{User as Using, Recovery as Recovers, Refusal, Fault}
use Rattle.vold_book.specs.Crowds.{user_at, users_in, unless_known, made_by, coming_by, coming_of, users_coming}
use Rattle.vold_book.specs.Crowds.{is_crowded}
use Rattle.vold_book.specs.State.{Docket, Plain, Ground, machine_of, timeline, ground_of, tried_in, vault_of}
use Rattle.vold_book.specs.Tasks.{TaskStands}
use Rattle.vold_book.specs.Whole.{Whole, PhaseStands}
use Rattle.vold_book.proofs.Counted.{NoneTwice, same-count, all_of, all-found, from-all, all-once, values-all}
use Rattle.vold_book.proofs.Counted.{Contains-single, length-keys, keys-once, keys-found, found-key}
use Rattle.vold_book.proofs.SlotsToTry.{some-of}

-- what the elements of a list hold together, with one more of them
pub flat-more : {X : Type 0} (f : X → List ℕ) (xs : List X) (i : ℕ) (default : X) → i < length xs
    → length (flat_map f (take (i + 1) xs)) ≡ length (flat_map f (take i xs)) + length (f (get_or xs i default))
flat-more f xs i default within =
    ap (λ ys. length (flat_map f ys)) (take_more xs i default within)
    ∙ ap length (flat_map-append f (take i xs) (get_or xs i default ∷ []))
    ∙ length-append (flat_map f (take i xs)) (f (get_or xs i default) ++ [])
    ∙ ap (λ ys. length (flat_map f (take i xs)) + length ys) (append-nil (f (get_or xs i default)))

there-of : {X : Type 0} (found : Option X) → found ≢ None → is_some found ≡ true
there-of None some = absurd (some refl)
there-of (Some x) some = refl

at-user : (place : Place) (u : ℕ) → Contains (user_at place) u → place ≡ De u
at-user (De user) u has = ap De (Contains-single user u has)
at-user (Ce user slot) u has = absurd (Contains-none u has)
at-user (Temp user) u has = absurd (Contains-none u has)

at-short : (place : Place) → length (user_at place) ≤ 1
at-short (De user) = omega arith
at-short (Ce user slot) = omega arith
at-short (Temp user) = omega arith

unless-short : (found : Option (Option (List ℕ))) (user : ℕ) → length (unless_known found user) ≤ 1
unless-short None user = omega arith
unless-short (Some named) user = omega arith

made-short : (places : NamedPlaces) (command : Option Command) → length (made_by places command) ≤ 1
made-short places None = omega arith
made-short places (Some (Create user)) = unless-short (map.get places (De user)) user
made-short places (Some command) = omega arith

coming-short : (places : NamedPlaces) (command : Option Command) (task : Task)
    → length (coming_by places command task) ≤ 1
coming-short places command (Using task) = made-short places command
coming-short places command (Recovers recovery) = made-short places command
coming-short places command (Refusal reply) = omega arith
coming-short places command (Fault device held) = made-short places command

cond-short : (there : Bool) (user : ℕ) → length (cond there [] (user ∷ [])) ≤ 1
cond-short true user = omega arith
cond-short false user = omega arith

cond-single : (there : Bool) (user u : ℕ) → Contains (cond there [] (user ∷ [])) u → user ≡ u
cond-single true user u has = absurd (Contains-none u has)
cond-single false user u has = Contains-single user u has

new-short : (verdict : Option Reply) (users : Users) (command : Command)
    → length (new_user_unless verdict users command) ≤ 1
new-short (Some refusal) users command = omega arith
new-short None users (Create user) = cond-short (map.contains_key users user) user
new-short None users command = omega arith

-- who is being created is whom the command creates
new-creates : (verdict : Option Reply) (users : Users) (command : Command) (u : ℕ)
    → Contains (new_user_unless verdict users command) u → command ≡ Create u
new-creates (Some refusal) users command u has = absurd (Contains-none u has)
new-creates None users (Create user) u has = ap Create (cond-single (map.contains_key users user) user u has)
new-creates None users command u has = absurd (Contains-none u has)

same-number : (found : Option Running) (n m : ℕ) → IsSomeAnd found (λ it. it.number ≡ n)
    → IsSomeAnd found (λ it. it.number ≡ m) → n ≡ m
same-number None n m here there = absurd here
same-number (Some it) n m here there = sym here ∙ there

row-of : (found : Option Running) (n : ℕ) → IsSomeAnd found (λ it. it.number ≡ n)
    → (it : Running) × (found ≡ Some it) × (it.number ≡ n)
row-of None n here = absurd here
row-of (Some it) n here = (it, refl, here)

unless-same : (found : Option (Option (List ℕ))) (user : ℕ) (there : Bool) → is_some found ≡ there
    → unless_known found user ≡ cond there [] (user ∷ [])
unless-same None user there is = ap (λ b. cond b [] (user ∷ [])) is
unless-same (Some named) user there is = ap (λ b. cond b [] (user ∷ [])) is

-- a row of the docket, and the machine's row of its number
record Matches (places : NamedPlaces) (users : Users) (commands : List Command) (began_at : map.FinMap nat_cmp Began)
    (actor : Actor) (it : Running) : Type 0 where
  pub began : Began
  pub at : map.get began_at it.number ≡ Some began
  pub own : actor_of began.command ≡ actor
  pub same : coming_of places commands it ≡ creating users began

module _ (places : NamedPlaces) (users : Users)
    (known : (user : ℕ) → is_some (map.get places (De user)) ≡ map.contains_key users user) where
  abbrev by_place : Place → Option (List ℕ) → List ℕ
  by_place place named = user_at place

  users-all : users_in places ≡ all_of by_place places
  users-all = flat_map-map user_at (λ row. row.0) (map.entries places)

  users-once : NoneTwice (users_in places)
  users-once = subst NoneTwice (sym users-all)
      (all-once place_total place_exact by_place places (λ place named. at-short place)
      (λ k k' x x' u at at' has has'. at-user k u has ∙ sym (at-user k' u has')))

  users-there : (u : ℕ) → Contains (users_in places) u → Contains (map.keys users) u
  users-there u has =
      let from = all-found place_total place_exact by_place places u (subst (λ us. Contains us u) users-all has) in
      let found : is_some (map.get places (De u)) ≡ true =
      ap (λ place. is_some (map.get places place)) (sym (at-user from.key u from.has)) ∙ ap is_some from.at in
      let some = some-of (map.get users u) (sym (known u) ∙ found) in
      found-key users u some.0 some.1

  users-back : (u : ℕ) → Contains (map.keys users) u → Contains (users_in places) u
  users-back u has =
      let some = some-of (map.get places (De u)) (known u ∙ there-of (map.get users u) (keys-found users u has)) in
      subst (λ us. Contains us u) (sym users-all)
      (from-all place_total place_exact by_place places (De u) some.0 u some.1 (Contains-first u []))

  -- as many users are there
  users-count : length (users_in places) ≡ map.len users
  users-count =
      same-count (users_in places) (map.keys users) users-once (keys-once users) users-there users-back
      ∙ length-keys users

  made-same : (command : Command) → made_by places (Some command) ≡ new_user users command
  made-same (Create user) =
      unless-same (map.get places (De user)) user (map.contains_key users user) (known user)
  made-same command = refl

  accepted-same : (began : Began) → began.verdict ≡ None
      → made_by places (Some began.command) ≡ creating users began
  accepted-same began none =
      made-same began.command ∙ sym (ap (λ verdict. new_user_unless verdict users began.command) none)

  by-task : (ground : Ground) (task : Task) (began : Began) → TaskStands ground task began
      → coming_by places (Some began.command) task ≡ creating users began
  by-task ground (Using task) began stands = accepted-same began stands.accepted
  by-task ground (Recovers recovery) began stands = accepted-same began stands.0.verdict
  by-task ground (Refusal reply) began stands =
      sym (ap (λ verdict. new_user_unless verdict users began.command) stands.0)
  by-task ground (Fault device held) began stands = accepted-same began stands

  module _ (docket : Docket) (began_at : map.FinMap nat_cmp Began)
      (on : (actor : Actor) (it : Running) → map.get docket.running actor ≡ Some it
      → Matches places users docket.commands began_at actor it)
      (all : (number : ℕ) (began : Began) → map.get began_at number ≡ Some began
      → IsSomeAnd (map.get docket.running (actor_of began.command)) (λ it. it.number ≡ number)) where
    abbrev by_actor : Actor → Running → List ℕ
    by_actor actor it = coming_of places docket.commands it

    abbrev by_number : ℕ → Began → List ℕ
    by_number number began = creating users began

    coming-all : users_coming places docket ≡ all_of by_actor docket.running
    coming-all = values-all docket.running (coming_of places docket.commands)

    new-all : newcomers users began_at ≡ all_of by_number began_at
    new-all = values-all began_at (creating users)

    runs-as : (actor : Actor) (it : Running) (u : ℕ) → map.get docket.running actor ≡ Some it
        → Contains (by_actor actor it) u → actor ≡ User u
    runs-as actor it u at has =
        let row = on actor it at in
        sym row.own
        ∙ ap actor_of (new-creates row.began.verdict users row.began.command u
        (subst (λ us. Contains us u) row.same has))

    coming-once : NoneTwice (users_coming places docket)
    coming-once = subst NoneTwice (sym coming-all)
        (all-once actor_total actor_exact by_actor docket.running
        (λ actor it. coming-short places (slice_get docket.commands it.number) it.task)
        (λ k k' x x' u at at' has has'. runs-as k x u at has ∙ sym (runs-as k' x' u at' has')))

    run-by : (number : ℕ) (began : Began) (u : ℕ) → map.get began_at number ≡ Some began
        → Contains (by_number number began) u
        → IsSomeAnd (map.get docket.running (User u)) (λ it. it.number ≡ number)
    run-by number began u at has =
        subst (λ command. IsSomeAnd (map.get docket.running (actor_of command)) (λ it. it.number ≡ number))
        (new-creates began.verdict users began.command u has) (all number began at)

    new-once : NoneTwice (newcomers users began_at)
    new-once = subst NoneTwice (sym new-all)
        (all-once nat_cmp_total nat_cmp-IsAntisymmetric by_number began_at
        (λ number began. new-short began.verdict users began.command)
        (λ k k' x x' u at at' has has'. same-number (map.get docket.running (User u)) k k' (run-by k x u at has)
        (run-by k' x' u at' has')))

    coming-there : (u : ℕ) → Contains (users_coming places docket) u → Contains (newcomers users began_at) u
    coming-there u has =
        let from = all-found actor_total actor_exact by_actor docket.running u
        (subst (λ us. Contains us u) coming-all has) in
        let row = on from.key from.value from.at in
        subst (λ us. Contains us u) (sym new-all)
        (from-all nat_cmp_total nat_cmp-IsAntisymmetric by_number began_at from.value.number row.began u row.at
        (subst (λ us. Contains us u) row.same from.has))

    coming-back : (u : ℕ) → Contains (newcomers users began_at) u → Contains (users_coming places docket) u
    coming-back u has =
        let from = all-found nat_cmp_total nat_cmp-IsAntisymmetric by_number began_at u
        (subst (λ us. Contains us u) new-all has) in
        let (it, runs, number) = row-of (map.get docket.running (actor_of from.value.command)) from.key
        (all from.key from.value from.at) in
        let row = on (actor_of from.value.command) it runs in
        let began : from.value ≡ row.began =
        same_Some from.value row.began (sym from.at ∙ ap (map.get began_at) (sym number) ∙ row.at) in
        subst (λ us. Contains us u) (sym coming-all)
        (from-all actor_total actor_exact by_actor docket.running (actor_of from.value.command) it u runs
        (subst (λ us. Contains us u) (ap (creating users) began ∙ sym row.same) from.has))

    -- as many are being created
    coming-count : length (users_coming places docket) ≡ length (newcomers users began_at)
    coming-count = same-count (users_coming places docket) (newcomers users began_at) coming-once new-once
        coming-there coming-back

    crowded-same : is_crowded places docket ≡ is_crowded_there users began_at
    crowded-same = λ i. nat_le max_users (users-count i + coming-count i)

module _ (book : Plain) (whole : Whole book) (up : book.tracker.phase ≡ Up) where
  abbrev machine : Machine
  machine = machine_of book

  abbrev users_now : Users
  users_now = fold_changes machine.log

  knows : Knows book.bench.places (view book.bench.disk)
  knows = (subst (λ phase. PhaseStands phase book machine) up whole.phase).0

  known-now : (user : ℕ) → is_some (map.get book.bench.places (De user)) ≡ map.contains_key users_now user
  known-now user = knows.there (De user)
      ∙ there-user (vault_of (tried_in book) book.seed book.bench.store) (timeline book.bench.disk machine) user
      whole.worlds

  on-now : (actor : Actor) (it : Running) → map.get book.docket.running actor ≡ Some it
      → Matches book.bench.places users_now book.docket.commands machine.running actor it
  on-now actor it at =
      let run = whole.run actor it at in record {
        began = run.began;
        at = run.at;
        own = run.own;
        same = ap (λ command. coming_by book.bench.places command it.task)
            (whole.numbers.given it.number run.began run.at).given
            ∙ by-task book.bench.places users_now known-now (ground_of book) it.task run.began run.stands;
      }

  -- while the machine is up, the Book counts as many users as the machine
  pub crowds-agree : is_crowded book.bench.places book.docket
      ≡ is_crowded_there (fold_changes (machine_of book).log) (machine_of book).running
  crowds-agree = crowded-same book.bench.places users_now known-now book.docket machine.running on-now whole.all
