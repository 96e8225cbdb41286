-- No number is lost: what is accounted for as a command is given out, first or last of its queue, and as one begins.
use Rattle.std.proofs.Common.{◌≡◌, ◌≢◌, ◌⊎◌, inl, inr, ℕ, ◌+◌, ◌<◌, List}
use Rattle.std.proofs.Common.{[], ◌∷◌, ◌++◌, length, refl, sym, ap, ◌∙◌, subst, arith, length-append}
use Rattle.std.specs.Prelude.{Option, Some, None, IfSome, IsSomeAnd, Contains, slice_get, unwrap_or}
use Rattle.std.specs.declared.cmp.Ordering.{Ordering}
use Rattle.std.specs.Cmp.{IsTotalOrder}
use Rattle.std.specs.FinMap as map
use Rattle.std.specs.FinMap.{IsAntisymmetric}
use Rattle.std.proofs.lemmas.Bool.{cases_lt}
use Rattle.std.proofs.lemmas.List.{length-map}
use Rattle.std.proofs.lemmas.Option.{none-some, same_Some, slice_get_within, slice_get-get_or}
use Rattle.std.proofs.Math.ListN.{get_or-append}
use Rattle.std.proofs.Math.Seq.{get_or-append_seam}
use Rattle.std.proofs.lemmas.List.Elements.{Contains-push, Contains-push_cases}
use Rattle.std.proofs.lemmas.List.Elements.{Contains-append_left, Contains-append_right, Contains-append_cases}
use Rattle.tree_model.proofs.Maps.{decide_key, get-insert_same, get-insert_other, get-remove_same, get-remove_other}
use Rattle.sorted_map.specs.Sums.{total_by}
use Rattle.sorted_map.proofs.Sums.{worth, sum-insert, sum-remove, worth-length}
use Rattle.docket.specs.Accounts.{AllWait, Accounted}
use Rattle.docket.specs.Docket.{DocketState, empty_docket, queue_of}
use Rattle.docket.specs.Docket.{with_queue, with_command, with_first_command, after_begin}

pub not_nil : (n : ℕ) (ns : List ℕ) → (n ∷ ns) ≢ []
not_nil n ns e = cc

pub nothing_in : (number : ℕ) → ¬ (Contains [] number)
nothing_in number (k, within, at) = absurd (omega (arith, within))

pub contains-here : (n : ℕ) (ns : List ℕ) → Contains (n ∷ ns) n
contains-here n ns = Contains-append_left (n ∷ []) ns n (Contains-push [] n)

pub contains-there : (n : ℕ) (ns : List ℕ) (number : ℕ) → Contains ns number → Contains (n ∷ ns) number
contains-there n ns number there = Contains-append_right (n ∷ []) ns number there

pub contains-cons : (n : ℕ) (ns : List ℕ) (number : ℕ) → Contains (n ∷ ns) number → (n ≡ number) ⊎ Contains ns number
contains-cons n ns number there = elim (Contains-append_cases (n ∷ []) ns number there) [
  | inl one ↦ elim (Contains-push_cases [] n number one) [
    | inl none ↦ absurd (nothing_in number none)
    | inr same ↦ inl same
  ]
  | inr rest ↦ inr rest
]

-- what a list has once one more stands last
module _ {C : Type 0} (commands : List C) (command : C) where
  get-before : (number : ℕ) → number < length commands
      → slice_get (commands ++ command ∷ []) number ≡ slice_get commands number
  get-before number within =
      slice_get-get_or (commands ++ command ∷ []) number command
      (omega (arith, within, length-append commands (command ∷ [])))
      ∙ ap Some (get_or-append commands (command ∷ []) command number within)
      ∙ sym (slice_get-get_or commands number command within)

  pub get-last : slice_get (commands ++ command ∷ []) (length commands) ≡ Some command
  get-last =
      slice_get-get_or (commands ++ command ∷ []) (length commands) command
      (omega (arith, length-append commands (command ∷ [])))
      ∙ ap Some (get_or-append_seam commands command [] command)

  -- what stands at a number stays
  pub get-stays : (c : C) (number : ℕ) → slice_get commands number ≡ Some c
      → slice_get (commands ++ command ∷ []) number ≡ Some c
  get-stays c number at = get-before number (slice_get_within commands number c at) ∙ at

module _ {A C : Type 0} (actor_of : C → A) where
  abbrev IsOwned : List C → A → ℕ → Type 0
  IsOwned commands actor number = IsSomeAnd (slice_get commands number) (λ c. actor_of c ≡ actor)

  owned-push : (commands : List C) (command : C) (actor : A) (number : ℕ) → IsOwned commands actor number
      → IsOwned (commands ++ command ∷ []) actor number
  owned-push commands command actor number owned =
      elim (slice_get commands number) as (λ found. slice_get commands number ≡ found
      → IsSomeAnd found (λ c. actor_of c ≡ actor)
      → IsOwned (commands ++ command ∷ []) actor number) [
        | None ↦ λ e h. absurd h
        | Some c ↦ λ e h.
            subst (λ found. IsSomeAnd found (λ c. actor_of c ≡ actor)) (sym (get-stays commands command c number e)) h
      ] refl owned

  owned-last : (commands : List C) (command : C)
      → IsOwned (commands ++ command ∷ []) (actor_of command) (length commands)
  owned-last commands command =
      subst (λ found. IsSomeAnd found (λ c. actor_of c ≡ actor_of command)) (sym (get-last commands command)) refl

  owned-within : (commands : List C) (actor : A) (number : ℕ) → IsOwned commands actor number
      → number < length commands
  owned-within commands actor number owned =
      elim (slice_get commands number) as (λ found. slice_get commands number ≡ found
      → IsSomeAnd found (λ c. actor_of c ≡ actor)
      → number < length commands) [
        | None ↦ λ e h. absurd h
        | Some c ↦ λ e h. slice_get_within commands number c e
      ] refl owned

  module _ (commands : List C) (taken : List ℕ) (actor : A) where
    -- one more number began, which isn't one of these
    all_wait-begun : (number : ℕ) (ns : List ℕ) → ¬ (Contains ns number) → AllWait actor_of commands taken actor ns
        → AllWait actor_of commands (taken ++ number ∷ []) actor ns
    all_wait-begun number [] apart wait = tt
    all_wait-begun number (n ∷ ns) apart wait = (
      wait.0,
      λ there. elim (Contains-push_cases taken number n there) [
        | inl old ↦ wait.1 old
        | inr same ↦ apart (subst (Contains (n ∷ ns)) (sym same) (contains-here n ns))
      ],
      wait.2,
      all_wait-begun number ns (λ there. apart (contains-there n ns number there)) wait.3,
    )

    -- a number that waits for an actor is of a command of that actor
    owner-waits : (number : ℕ) (ns : List ℕ) → AllWait actor_of commands taken actor ns → Contains ns number
        → IsOwned commands actor number
    owner-waits number [] wait there = absurd (nothing_in number there)
    owner-waits number (n ∷ ns) wait there = elim (contains-cons n ns number there) [
      | inl same ↦ subst (IsOwned commands actor) same wait.0
      | inr later ↦ owner-waits number ns wait.3 later
    ]

    -- so it is given out
    waits-within : (number : ℕ) (ns : List ℕ) → AllWait actor_of commands taken actor ns → Contains ns number
        → number < length commands
    waits-within number ns wait there = owned-within commands actor number (owner-waits number ns wait there)

    all_wait-push : (command : C) (ns : List ℕ) → AllWait actor_of commands taken actor ns
        → AllWait actor_of (commands ++ command ∷ []) taken actor ns
    all_wait-push command [] wait = tt
    all_wait-push command (n ∷ ns) wait =
        (owned-push commands command actor n wait.0, wait.1, wait.2, all_wait-push command ns wait.3)

    if_wait-push : (command : C) (found : Option (List ℕ)) → IfSome found (AllWait actor_of commands taken actor)
        → IfSome found (AllWait actor_of (commands ++ command ∷ []) taken actor)
    if_wait-push command None wait = tt
    if_wait-push command (Some ns) wait = all_wait-push command ns wait

    if_wait-begun : (number : ℕ) (found : Option (List ℕ)) → ¬ (IsOwned commands actor number)
        → IfSome found (AllWait actor_of commands taken actor)
        → IfSome found (AllWait actor_of commands (taken ++ number ∷ []) actor)
    if_wait-begun number None differ wait = tt
    if_wait-begun number (Some ns) differ wait =
        all_wait-begun number ns (λ there. differ (owner-waits number ns wait there)) wait

  module _ (commands : List C) (command : C) (taken : List ℕ) (fresh : ¬ (Contains taken (length commands))) where
    -- a new number, last
    all_wait-last : (ns : List ℕ) → AllWait actor_of commands taken (actor_of command) ns
        → AllWait actor_of (commands ++ command ∷ []) taken (actor_of command) (ns ++ length commands ∷ [])
    all_wait-last [] wait = (owned-last commands command, fresh, nothing_in (length commands), tt)
    all_wait-last (n ∷ ns) wait = (
      owned-push commands command (actor_of command) n wait.0,
      wait.1,
      λ there. elim (Contains-push_cases ns (length commands) n there) [
        | inl old ↦ wait.2 old
        | inr same ↦ let below = owned-within commands (actor_of command) n wait.0 in absurd
            (omega (arith, below, same))
      ],
      all_wait-last ns wait.3,
    )

    -- a new number, first
    all_wait-first : (ns : List ℕ) → AllWait actor_of commands taken (actor_of command) ns
        → AllWait actor_of (commands ++ command ∷ []) taken (actor_of command) (length commands ∷ ns)
    all_wait-first ns wait = (
      owned-last commands command,
      fresh,
      λ there. let below = waits-within commands taken (actor_of command) (length commands) ns wait there in absurd
          (omega (arith, below)),
      all_wait-push commands taken (actor_of command) command ns wait,
    )

-- nothing is in an empty map
module _ {K X : Type 0} (R : K → K → Ordering) (count : X → ℕ) where
  none_in : (xs : List X) → length xs ≡ 0 → total_by count xs ≡ 0
  none_in [] e = refl
  none_in (x ∷ xs) e = absurd (omega (arith, e))

  pub sum-empty : total_by count (map.values {R = R} map.empty) ≡ 0
  sum-empty = none_in (map.values {R = R} map.empty) (length-map (map.entries {R = R} (map.empty {X = X})) _
      ∙ sym (map.len-entries (map.empty {X = X} {R = R})) ∙ map.len-empty R X)

module _ {A : Type 0} {cmp : A → A → Ordering} (total : IsTotalOrder cmp) (exact : IsAntisymmetric cmp) where
  -- what holds of one actor and of all others holds of each
  pub at_actors : (actor : A) (P : A → Type 0) → P actor → ((other : A) → other ≢ actor → P other) → (a : A) → P a
  at_actors actor P here others a = elim (decide_key total exact a actor) [
    | inl same ↦ subst P (sym same) here
    | inr differ ↦ others a differ
  ]

  -- one fewer waits once the first of a queue is taken
  pub sum-left : (waiting : map.FinMap cmp (List ℕ)) (actor : A) (number : ℕ) (ns : List ℕ)
      → map.get waiting actor ≡ Some (number ∷ ns)
      → total_by length (map.values (with_queue waiting actor ns)) + 1 ≡ total_by length (map.values waiting)
  sum-left waiting actor number [] is =
      let less = sum-remove total length exact waiting actor in
      let was = ap (worth length) is in
      omega (arith, less, was)
  sum-left waiting actor number (n ∷ ns) is =
      let put = sum-insert total length waiting actor (n ∷ ns) in
      let was = ap (worth length) is in
      omega (arith, put, was)

module _ {A C R : Type 0} {cmp : A → A → Ordering} (total : IsTotalOrder cmp) (exact : IsAntisymmetric cmp)
    (actor_of : C → A) where
  -- nothing is given out at first
  pub accounted-empty : Accounted actor_of [] (empty_docket {cmp = cmp} {R = R})
  accounted-empty = record {
    within = λ number there. absurd (nothing_in number there);
    queues = λ actor. subst (λ found. IfSome found (AllWait actor_of [] [] actor)) (sym (map.get-empty cmp actor)) tt;
    some = λ actor some. none-some [] (sym (map.get-empty cmp actor) ∙ some);
    kept = λ number command at. absurd (nowhere number command at);
    total = let none = sum-empty cmp (length {A = ℕ}) in omega (arith, none);
  }
    where
      nowhere : (number : ℕ) (command : C) → slice_get [] number ≡ Some command → ⊥
      nowhere number command at = let within = slice_get_within [] number command at in omega (arith, within)

  module _ (docket : DocketState cmp C R) (taken : List ℕ) (stand : Accounted actor_of taken docket) where
    -- the number that is given out next isn't taken
    pub next-fresh : ¬ (Contains taken (length docket.commands))
    next-fresh there = let below = stand.within (length docket.commands) there in omega (arith, below)

    queue_waits : (actor : A) → AllWait actor_of docket.commands taken actor (queue_of docket.waiting actor)
    queue_waits actor =
        elim (map.get docket.waiting actor) as (λ found. IfSome found (AllWait actor_of docket.commands taken actor)
        → AllWait actor_of docket.commands taken actor (unwrap_or found [])) [
          | None ↦ λ h. tt
          | Some ns ↦ λ h. h
        ] (stand.queues actor)

    -- each number that waits is given out
    pub queue-within : (actor : A) (number : ℕ) → Contains (queue_of docket.waiting actor) number
        → number < length docket.commands
    queue-within actor number there = waits-within actor_of docket.commands taken actor number
        (queue_of docket.waiting actor) (queue_waits actor) there

    -- one more command was given out, and its number stands somewhere in its actor's queue
    record Joins (command : C) (new : List ℕ) : Type 0 where
      wait : AllWait actor_of (docket.commands ++ command ∷ []) taken (actor_of command) new
      all : (n : ℕ) → Contains (queue_of docket.waiting (actor_of command)) n → Contains new n
      there : Contains new (length docket.commands)
      more : length new ≡ length (queue_of docket.waiting (actor_of command)) + 1

    in_queue : (found : Option (List ℕ)) (n : ℕ) → IsSomeAnd found (λ ns. Contains ns n)
        → Contains (unwrap_or found []) n
    in_queue None n h = absurd h
    in_queue (Some ns) n h = h

    module _ (command : C) (new : List ℕ) (joins : Joins command new) where
      abbrev actor : A
      actor = actor_of command

      abbrev waiting : map.FinMap cmp (List ℕ)
      waiting = map.insert docket.waiting actor new

      joined-kept : (n : ℕ) (c : C) → slice_get (docket.commands ++ command ∷ []) n ≡ Some c
          → Contains taken n ⊎ IsSomeAnd (map.get waiting (actor_of c)) (λ ns. Contains ns n)
      joined-kept n c at =
          let here = get-insert_same total exact docket.waiting actor new in
          elim (cases_lt n (length docket.commands)) [
            | inl old ↦ elim (stand.kept n c (sym (get-before docket.commands command n old) ∙ at)) [
              | inl began ↦ inl began
              | inr waits ↦ inr (elim (decide_key total exact (actor_of c) actor) [
                | inl same ↦ subst (λ a. IsSomeAnd (map.get waiting a) (λ ns. Contains ns n)) (sym same)
                    (subst (λ found. IsSomeAnd found (λ ns. Contains ns n)) (sym here)
                    (joins.all n (in_queue (map.get docket.waiting actor) n
                    (subst (λ a. IsSomeAnd (map.get docket.waiting a) (λ ns. Contains ns n)) same waits))))
                | inr differ ↦ subst (λ found. IsSomeAnd found (λ ns. Contains ns n))
                    (sym (get-insert_other total exact docket.waiting actor new (actor_of c) differ)) waits
              ])
            ]
            | inr late ↦
                let within = slice_get_within (docket.commands ++ command ∷ []) n c at in
                let is_last : n ≡ length docket.commands =
                omega (arith, late, within, length-append docket.commands (command ∷ [])) in
                let is_own : c ≡ command = same_Some c command
                (sym at ∙ ap (slice_get (docket.commands ++ command ∷ [])) is_last
                ∙ get-last docket.commands command) in
                inr (subst (λ a. IsSomeAnd (map.get waiting a) (λ ns. Contains ns n)) (sym (ap actor_of is_own))
                (subst (λ found. IsSomeAnd found (λ ns. Contains ns n)) (sym here)
                (subst (Contains new) (sym is_last) joins.there)))
          ]

      joined : Accounted actor_of taken (record docket {
        commands = docket.commands ++ command ∷ [];
        waiting = waiting;
      })
      joined = record {
        within = λ n there.
            let was = stand.within n there in omega (arith, was, length-append docket.commands (command ∷ []));
        queues = at_actors total exact actor
            (λ a. IfSome (map.get waiting a) (AllWait actor_of (docket.commands ++ command ∷ []) taken a))
            (subst (λ found. IfSome found (AllWait actor_of (docket.commands ++ command ∷ []) taken actor))
            (sym (get-insert_same total exact docket.waiting actor new)) joins.wait)
            (λ other differ. subst
            (λ found. IfSome found (AllWait actor_of (docket.commands ++ command ∷ []) taken other))
            (sym (get-insert_other total exact docket.waiting actor new other differ))
            (if_wait-push actor_of docket.commands taken other command (map.get docket.waiting other)
            (stand.queues other)));
        some = at_actors total exact actor (λ a. map.get waiting a ≢ Some [])
            (λ some. nothing_in (length docket.commands) (subst (λ ns. Contains ns (length docket.commands))
            (same_Some new [] (sym (get-insert_same total exact docket.waiting actor new) ∙ some)) joins.there))
            (λ other differ some. stand.some other
            (sym (get-insert_other total exact docket.waiting actor new other differ) ∙ some));
        kept = joined-kept;
        total =
            let put = sum-insert total length docket.waiting actor new in
            let was = worth-length (map.get docket.waiting actor) in
            let more = joins.more in
            let all = stand.total in
            omega (arith, put, was, more, all, length-append docket.commands (command ∷ []));
      }

    -- one more command was given out, and waits last for its actor
    pub accounted-given : (command : C) → Accounted actor_of taken (with_command docket (actor_of command) command)
    accounted-given command =
        let queue = queue_of docket.waiting (actor_of command) in
        joined command (queue ++ length docket.commands ∷ []) (record {
          wait = all_wait-last actor_of docket.commands command taken next-fresh queue
              (queue_waits (actor_of command));
          all = λ n there. Contains-append_left queue (length docket.commands ∷ []) n there;
          there = Contains-push queue (length docket.commands);
          more = length-append queue (length docket.commands ∷ []);
        })

    -- one more command was given out, and is the first that waits for its actor
    pub accounted-given_first : (command : C)
        → Accounted actor_of taken (with_first_command docket (actor_of command) command)
    accounted-given_first command =
        let queue = queue_of docket.waiting (actor_of command) in
        joined command (length docket.commands ∷ queue) (record {
          wait = all_wait-first actor_of docket.commands command taken next-fresh queue
              (queue_waits (actor_of command));
          all = λ n there. contains-there (length docket.commands) queue n there;
          there = contains-here (length docket.commands) queue;
          more = omega arith;
        })

    -- the first of a queue is given out to its actor, and isn't taken
    module _ (actor : A) (number : ℕ) (numbers : List ℕ)
        (queue : map.get docket.waiting actor ≡ Some (number ∷ numbers)) where
      first_waits : AllWait actor_of docket.commands taken actor (number ∷ numbers)
      first_waits = subst (λ found. IfSome found (AllWait actor_of docket.commands taken actor)) queue
          (stand.queues actor)

      pub first-owned : IsSomeAnd (slice_get docket.commands number) (λ command. actor_of command ≡ actor)
      first-owned = first_waits.0

      pub first-given : (command : C) × (slice_get docket.commands number ≡ Some command) × (actor_of command ≡ actor)
      first-given = given (slice_get docket.commands number) first-owned
        where
          given : (found : Option C) → IsSomeAnd found (λ c. actor_of c ≡ actor)
              → (command : C) × (found ≡ Some command) × (actor_of command ≡ actor)
          given None h = absurd h
          given (Some c) h = (c, refl, h)

      pub first-fresh : ¬ (Contains taken number)
      first-fresh = first_waits.1

      abbrev left : map.FinMap cmp (List ℕ)
      left = with_queue docket.waiting actor numbers

      get-left_other : (ns : List ℕ) (other : A) → other ≢ actor
          → map.get (with_queue docket.waiting actor ns) other ≡ map.get docket.waiting other
      get-left_other [] other differ = get-remove_other total exact docket.waiting actor other differ
      get-left_other (n ∷ ns) other differ = get-insert_other total exact docket.waiting actor (n ∷ ns) other differ

      left_waits : (ns : List ℕ) → AllWait actor_of docket.commands (taken ++ number ∷ []) actor ns
          → IfSome (map.get (with_queue docket.waiting actor ns) actor)
          (AllWait actor_of docket.commands (taken ++ number ∷ []) actor)
      left_waits [] wait = subst
          (λ found. IfSome found (AllWait actor_of docket.commands (taken ++ number ∷ []) actor))
          (sym (get-remove_same total exact docket.waiting actor)) tt
      left_waits (n ∷ ns) wait = subst
          (λ found. IfSome found (AllWait actor_of docket.commands (taken ++ number ∷ []) actor))
          (sym (get-insert_same total exact docket.waiting actor (n ∷ ns))) wait

      left_contains : (ns : List ℕ) (n : ℕ) → Contains ns n
          → IsSomeAnd (map.get (with_queue docket.waiting actor ns) actor) (λ queue. Contains queue n)
      left_contains [] n there = absurd (nothing_in n there)
      left_contains (m ∷ ns) n there = subst (λ found. IsSomeAnd found (λ queue. Contains queue n))
          (sym (get-insert_same total exact docket.waiting actor (m ∷ ns))) there

      left_some : (ns : List ℕ) → map.get (with_queue docket.waiting actor ns) actor ≢ Some []
      left_some [] some = none-some [] (sym (get-remove_same total exact docket.waiting actor) ∙ some)
      left_some (n ∷ ns) some = not_nil n ns
          (same_Some (n ∷ ns) [] (sym (get-insert_same total exact docket.waiting actor (n ∷ ns)) ∙ some))

      begun-kept : (n : ℕ) (c : C) → slice_get docket.commands n ≡ Some c
          → Contains (taken ++ number ∷ []) n ⊎ IsSomeAnd (map.get left (actor_of c)) (λ queue. Contains queue n)
      begun-kept n c at = elim (stand.kept n c at) [
        | inl began ↦ inl (Contains-append_left taken (number ∷ []) n began)
        | inr waits ↦ elim (decide_key total exact (actor_of c) actor) [
          | inl same ↦ elim (contains-cons number numbers n
              (subst (λ found. IsSomeAnd found (λ queue. Contains queue n)) (ap (map.get docket.waiting) same ∙ queue)
              waits)) [
                | inl first ↦ inl (subst (Contains (taken ++ number ∷ [])) first (Contains-push taken number))
                | inr later ↦ inr (subst (λ a. IsSomeAnd (map.get left a) (λ queue. Contains queue n)) (sym same)
                    (left_contains numbers n later))
              ]
          | inr differ ↦ inr (subst (λ found. IsSomeAnd found (λ queue. Contains queue n))
              (sym (get-left_other numbers (actor_of c) differ)) waits)
        ]
      ]

      -- it begins
      pub accounted-begun : (work : R)
          → Accounted actor_of (taken ++ number ∷ []) (after_begin docket actor numbers work)
      accounted-begun work = record {
        within = λ n there. elim (Contains-push_cases taken number n there) [
          | inl old ↦ stand.within n old
          | inr same ↦ let below = owned-within actor_of docket.commands actor number first-owned in omega
              (arith, below, same)
        ];
        queues = at_actors total exact actor
            (λ a. IfSome (map.get left a) (AllWait actor_of docket.commands (taken ++ number ∷ []) a))
            (left_waits numbers (all_wait-begun actor_of docket.commands taken actor number numbers first_waits.2
            first_waits.3))
            (λ other differ. subst
            (λ found. IfSome found (AllWait actor_of docket.commands (taken ++ number ∷ []) other))
            (sym (get-left_other numbers other differ))
            (if_wait-begun actor_of docket.commands taken other number (map.get docket.waiting other)
            (λ owned. differ (owner other owned)) (stand.queues other)));
        some = at_actors total exact actor (λ a. map.get left a ≢ Some []) (left_some numbers)
            (λ other differ some. stand.some other (sym (get-left_other numbers other differ) ∙ some));
        kept = begun-kept;
        total =
            let fewer = sum-left total exact docket.waiting actor number numbers queue in
            let all = stand.total in
            omega (arith, fewer, all, length-append taken (number ∷ []));
      }
        where
          one_owner : (found : Option C) (other : A) → IsSomeAnd found (λ c. actor_of c ≡ actor)
              → IsSomeAnd found (λ c. actor_of c ≡ other) → other ≡ actor
          one_owner None other mine theirs = absurd mine
          one_owner (Some c) other mine theirs = sym theirs ∙ mine

          owner : (other : A) → IsOwned actor_of docket.commands other number → other ≡ actor
          owner other owned = one_owner (slice_get docket.commands number) other first-owned owned

-- what runs, and how much began, doesn't matter
module _ {A C R : Type 0} {cmp : A → A → Ordering} (actor_of : C → A) where
  pub accounted-same : (taken : List ℕ) (docket docket' : DocketState cmp C R) → Accounted actor_of taken docket
      → docket'.commands ≡ docket.commands → docket'.waiting ≡ docket.waiting → Accounted actor_of taken docket'
  accounted-same taken docket docket' stand commands waiting =
      let moved : Accounted actor_of taken (record docket { commands = docket'.commands; waiting = docket'.waiting }) =
      subst (λ ws. Accounted actor_of taken (record docket { commands = docket'.commands; waiting = ws }))
      (sym waiting)
      (subst (λ cs. Accounted actor_of taken (record docket { commands = cs })) (sym commands) stand) in
      record {
        within = moved.within;
        queues = moved.queues;
        some = moved.some;
        kept = moved.kept;
        total = moved.total;
      }
