-- The blobs that running commands hold, by who holds them, and that custody rests on which they are alone.
use Rattle.std.proofs.Common.{◌≡◌, ◌≢◌, ◌⊎◌, inl, inr, cond, T, List, [], ◌∷◌, ◌++◌, refl, sym, ap, ◌∙◌, subst}
use Rattle.std.proofs.lemmas.Option.{none-some, same_Some}
use Rattle.std.proofs.lemmas.List.Elements.{Contains-append_left, Contains-append_right, Contains-append_cases}
use Rattle.std.specs.Prelude.{◌↔◌, Some, None, Contains, true, false, map as map_list}
use Rattle.std.specs.Ordering.{is_eq, eq_by_cmp}
use Rattle.std.specs.List.{flat_map}
use Rattle.std.specs.FinMap as map
use Rattle.std.specs.FinMap.{entries_sorted}
use Rattle.std.specs.FinMap.Entries.{find, is_sorted, below_all}
use Rattle.tree_model.specs.declared.blobs.Blob.{Blob}
use Rattle.tree_model.proofs.Logic.{is_equal, T_first, T_second, T_less}
use Rattle.tree_model.proofs.Maps.{tied, decide_key, get-insert_same, get-insert_other, get-remove_same}
use Rattle.tree_model.proofs.Maps.{get-remove_other}
use Rattle.journal_model.specs.declared.commands.Actor.{Actor}
use Rattle.journal_model.specs.Actor.{actor_cmp, actor_total, actor_exact}
use Rattle.keystore_model.proofs.Elements.{Contains-none}
use Rattle.blob_custody.specs.Custody.{Custody, IsClean}
use Rattle.blob_custody.specs.Steps.{LetsGo}
use Rattle.vold_book.specs.declared.tasks.Running.{Running}
use Rattle.vold_book.specs.Whole.{held_of, all_held}

abbrev pub RunningMap : Type 0
RunningMap = map.FinMap actor_cmp Running

-- the command that some actor runs holds the blob
pub record IsHeldBy (running : RunningMap) (blob : Blob) : Type 0 where
  pub actor : Actor
  pub it : Running
  pub runs : map.get running actor ≡ Some it
  pub holds : Contains (held_of it) blob

-- a command of another actor's does
pub record IsHeldElse (running : RunningMap) (actor : Actor) (blob : Blob) : Type 0 where
  pub by : IsHeldBy running blob
  pub other : by.actor ≢ actor

-- of entries in order, none has a key that comes before all
absent-below : (actor : Actor) (rows : List (Actor × Running)) → T (below_all actor_cmp actor rows)
    → find actor_cmp actor rows ≡ None
absent-below actor [] below = refl
absent-below actor (row ∷ rows) below =
    ap (λ order. cond (is_eq order) (Some row.1) (find actor_cmp actor rows))
    (T_less (actor_cmp actor row.0) (T_first _ _ below))
    ∙ absent-below actor rows (T_second _ _ below)

-- what the first entries hold
abbrev held_among : List (Actor × Running) → List Blob
held_among rows = flat_map held_of (map_list (λ row. row.1) rows)

-- an entry of these holds the blob
record IsAmong (rows : List (Actor × Running)) (blob : Blob) : Type 0 where
  actor : Actor
  it : Running
  found : find actor_cmp actor rows ≡ Some it
  holds : Contains (held_of it) blob

among-rest : (row : Actor × Running) (rows : List (Actor × Running)) (blob : Blob)
    → T (below_all actor_cmp row.0 rows) → IsAmong rows blob → IsAmong (row ∷ rows) blob
among-rest row rows blob below among = record {
  actor = among.actor;
  it = among.it;
  found = elim (eq_by_cmp actor_cmp among.actor row.0) as (λ same. eq_by_cmp actor_cmp among.actor row.0 ≡ same
      → cond same (Some row.1) (find actor_cmp among.actor rows) ≡ Some among.it) [
        | true ↦ λ is. absurd (none-some among.it (sym (subst (λ a. find actor_cmp a rows ≡ None)
            (sym (actor_exact among.actor row.0 (is_equal _ is))) (absent-below row.0 rows below)) ∙ among.found))
        | false ↦ λ is. among.found
      ] refl;
  holds = among.holds;
}

among-from : (rows : List (Actor × Running)) (blob : Blob) → T (is_sorted actor_cmp rows)
    → Contains (held_among rows) blob → IsAmong rows blob
among-from [] blob sorted has = absurd (Contains-none blob has)
among-from (row ∷ rows) blob sorted has = elim (Contains-append_cases (held_of row.1) (held_among rows) blob has) [
  | inl here ↦ record {
    actor = row.0;
    it = row.1;
    found = ap (λ same. cond same (Some row.1) (find actor_cmp row.0 rows))
        (tied actor_total actor_exact row.0 row.0 refl);
    holds = here;
  }
  | inr later ↦ among-rest row rows blob (T_first _ _ sorted) (among-from rows blob (T_second _ _ sorted) later)
]

among-has : (rows : List (Actor × Running)) (blob : Blob) (actor : Actor) (it : Running)
    → find actor_cmp actor rows ≡ Some it → Contains (held_of it) blob → Contains (held_among rows) blob
among-has [] blob actor it found holds = absurd (none-some it found)
among-has (row ∷ rows) blob actor it found holds =
    elim (eq_by_cmp actor_cmp actor row.0) as (λ same. cond same (Some row.1) (find actor_cmp actor rows) ≡ Some it
    → Contains (held_among (row ∷ rows)) blob) [
      | true ↦ λ is. Contains-append_left (held_of row.1) (held_among rows) blob
          (subst (λ one. Contains (held_of one) blob) (sym (same_Some row.1 it is)) holds)
      | false ↦ λ is. Contains-append_right (held_of row.1) (held_among rows) blob
          (among-has rows blob actor it is holds)
    ] found

module _ (running : RunningMap) (blob : Blob) where
  -- what is held some actor's command holds
  pub held-from : Contains (all_held running) blob → IsHeldBy running blob
  held-from has =
      let among = among-from (map.entries running) blob (entries_sorted running) has in record {
        actor = among.actor;
        it = among.it;
        runs = map.get-entries running among.actor ∙ among.found;
        holds = among.holds;
      }

  pub held-has : IsHeldBy running blob → Contains (all_held running) blob
  held-has by = among-has (map.entries running) blob by.actor by.it
      (sym (map.get-entries running by.actor) ∙ by.runs) by.holds

-- where nothing runs, nothing is held
pub none-held : (blob : Blob) → ¬ (Contains (all_held map.empty) blob)
none-held blob has =
    let by = held-from map.empty blob has in
    none-some by.it (sym (map.get-empty actor_cmp by.actor) ∙ by.runs)

module _ (running : RunningMap) (actor : Actor) (blob : Blob) where
  -- the actor's command holds it, or one of another actor's
  pub held-split : (it : Running) → map.get running actor ≡ Some it → Contains (all_held running) blob
      → Contains (held_of it) blob ⊎ IsHeldElse running actor blob
  held-split it runs has =
      let by = held-from running blob has in
      elim (decide_key actor_total actor_exact by.actor actor) [
        | inl same ↦ inl (subst (λ one. Contains (held_of one) blob)
            (same_Some by.it it (sym by.runs ∙ ap (map.get running) same ∙ runs)) by.holds)
        | inr differ ↦ inr (record { by = by; other = differ })
      ]

  pub else-held : IsHeldElse running actor blob → Contains (all_held running) blob
  else-held held = held-has running blob held.by

  -- once the actor runs this
  pub insert-from : (it : Running) → Contains (all_held (map.insert running actor it)) blob
      → Contains (held_of it) blob ⊎ IsHeldElse running actor blob
  insert-from it has =
      let by = held-from (map.insert running actor it) blob has in
      elim (decide_key actor_total actor_exact by.actor actor) [
        | inl same ↦ inl (subst (λ one. Contains (held_of one) blob)
            (same_Some by.it it (sym by.runs ∙ ap (map.get (map.insert running actor it)) same
            ∙ get-insert_same actor_total actor_exact running actor it)) by.holds)
        | inr differ ↦ inr (record {
          by = record {
            actor = by.actor;
            it = by.it;
            runs = sym (get-insert_other actor_total actor_exact running actor it by.actor differ) ∙ by.runs;
            holds = by.holds;
          };
          other = differ;
        })
      ]

  pub insert-own : (it : Running) → Contains (held_of it) blob → Contains (all_held (map.insert running actor it)) blob
  insert-own it holds = held-has (map.insert running actor it) blob (record {
    actor = actor;
    it = it;
    runs = get-insert_same actor_total actor_exact running actor it;
    holds = holds;
  })

  pub insert-else : (it : Running) → IsHeldElse running actor blob
      → Contains (all_held (map.insert running actor it)) blob
  insert-else it held = held-has (map.insert running actor it) blob (record {
    actor = held.by.actor;
    it = held.by.it;
    runs = get-insert_other actor_total actor_exact running actor it held.by.actor held.other ∙ held.by.runs;
    holds = held.by.holds;
  })

  -- once the actor runs nothing
  pub remove-from : Contains (all_held (map.remove running actor)) blob → IsHeldElse running actor blob
  remove-from has =
      let by = held-from (map.remove running actor) blob has in
      let apart : by.actor ≢ actor = λ same.
      none-some by.it (sym (get-remove_same actor_total actor_exact running actor)
      ∙ ap (map.get (map.remove running actor)) (sym same) ∙ by.runs) in record {
        by = record {
          actor = by.actor;
          it = by.it;
          runs = sym (get-remove_other actor_total actor_exact running actor by.actor apart) ∙ by.runs;
          holds = by.holds;
        };
        other = apart;
      }

  pub remove-else : IsHeldElse running actor blob → Contains (all_held (map.remove running actor)) blob
  remove-else held = held-has (map.remove running actor) blob (record {
    actor = held.by.actor;
    it = held.by.it;
    runs = get-remove_other actor_total actor_exact running actor held.by.actor held.other ∙ held.by.runs;
    holds = held.by.holds;
  })

-- no other command holds what the actor's does
abbrev pub HoldsAlone : RunningMap → Actor → List Blob → Type 0
HoldsAlone running actor held = (blob : Blob) → Contains held blob → ¬ (IsHeldElse running actor blob)

module _ (running : RunningMap) (actor : Actor) (it : Running) (runs : map.get running actor ≡ Some it)
    (alone : HoldsAlone running actor (held_of it)) where
  -- what the command lets go all let go
  pub lets-go : (let_go : List Blob) (then : Running) → LetsGo (held_of it) let_go (held_of then)
      → LetsGo (all_held running) let_go (all_held (map.insert running actor then))
  lets-go let_go then goes = record {
    all = λ blob has. elim (held-split running actor blob it runs has) [
      | inl mine ↦ elim (goes.all blob mine) [
        | inl still ↦ inl (insert-own running actor blob then still)
        | inr gone ↦ inr gone
      ]
      | inr held ↦ inl (insert-else running actor blob then held)
    ];
    still = λ blob has. elim (insert-from running actor blob then has) [
      | inl mine ↦
          held-has running blob (record { actor = actor; it = it; runs = runs; holds = goes.still blob mine })
      | inr held ↦ else-held running actor blob held
    ];
    apart = λ blob has gone. elim (insert-from running actor blob then has) [
      | inl mine ↦ goes.apart blob mine gone
      | inr held ↦ alone blob (goes.were blob gone) held
    ];
    were = λ blob gone.
        held-has running blob (record { actor = actor; it = it; runs = runs; holds = goes.were blob gone });
  }

  -- and what it ends with holding
  pub lets-all : LetsGo (all_held running) (held_of it) (all_held (map.remove running actor))
  lets-all = record {
    all = λ blob has. elim (held-split running actor blob it runs has) [
      | inl mine ↦ inr mine
      | inr held ↦ inl (remove-else running actor blob held)
    ];
    still = λ blob has. else-held running actor blob (remove-from running actor blob has);
    apart = λ blob has gone. alone blob gone (remove-from running actor blob has);
    were = λ blob gone. held-has running blob (record { actor = actor; it = it; runs = runs; holds = gone });
  }

-- the same blobs are held
abbrev pub SameHeld : List Blob → List Blob → Type 0
SameHeld held other = (blob : Blob) → Contains held blob ↔ Contains other blob

pub same-insert : (running : RunningMap) (actor : Actor) (it then : Running) → map.get running actor ≡ Some it
    → held_of then ≡ held_of it → SameHeld (all_held running) (all_held (map.insert running actor then))
same-insert running actor it then runs same blob = (
  λ has. elim (held-split running actor blob it runs has) [
    | inl mine ↦ insert-own running actor blob then (subst (λ held. Contains held blob) (sym same) mine)
    | inr held ↦ insert-else running actor blob then held
  ],
  λ has. elim (insert-from running actor blob then has) [
    | inl mine ↦ held-has running blob (record {
      actor = actor;
      it = it;
      runs = runs;
      holds = subst (λ held. Contains held blob) same mine;
    })
    | inr held ↦ else-held running actor blob held
  ],
)

-- the actor ran nothing, and runs what holds nothing
pub same-begun : (running : RunningMap) (actor : Actor) (then : Running) → map.get running actor ≡ None
    → held_of then ≡ [] → SameHeld (all_held running) (all_held (map.insert running actor then))
same-begun running actor then none nothing blob = (
  λ has.
      let by = held-from running blob has in
      insert-else running actor blob then (record {
        by = by;
        other = λ same. none-some by.it (sym none ∙ ap (map.get running) (sym same) ∙ by.runs);
      }),
  λ has. elim (insert-from running actor blob then has) [
    | inl mine ↦ absurd (Contains-none blob (subst (λ held. Contains held blob) nothing mine))
    | inr held ↦ else-held running actor blob held
  ],
)

-- it ran what held nothing
pub same-removed : (running : RunningMap) (actor : Actor) (it : Running) → map.get running actor ≡ Some it
    → held_of it ≡ [] → SameHeld (all_held running) (all_held (map.remove running actor))
same-removed running actor it runs nothing blob = (
  λ has. elim (held-split running actor blob it runs has) [
    | inl mine ↦ absurd (Contains-none blob (subst (λ held. Contains held blob) nothing mine))
    | inr held ↦ remove-else running actor blob held
  ],
  λ has. else-held running actor blob (remove-from running actor blob has),
)

-- it holds one more
pub same-pushed : (running : RunningMap) (actor : Actor) (it then : Running) (more : List Blob)
    → map.get running actor ≡ Some it → held_of then ≡ held_of it ++ more
    → SameHeld (all_held running ++ more) (all_held (map.insert running actor then))
same-pushed running actor it then more runs same blob = (
  λ has. elim (Contains-append_cases (all_held running) more blob has) [
    | inl before ↦ elim (held-split running actor blob it runs before) [
      | inl mine ↦ insert-own running actor blob then
          (subst (λ held. Contains held blob) (sym same) (Contains-append_left (held_of it) more blob mine))
      | inr held ↦ insert-else running actor blob then held
    ]
    | inr new ↦ insert-own running actor blob then
        (subst (λ held. Contains held blob) (sym same) (Contains-append_right (held_of it) more blob new))
  ],
  λ has. elim (insert-from running actor blob then has) [
    | inl mine ↦ elim (Contains-append_cases (held_of it) more blob (subst (λ held. Contains held blob) same mine)) [
      | inl before ↦ Contains-append_left (all_held running) more blob
          (held-has running blob (record { actor = actor; it = it; runs = runs; holds = before }))
      | inr new ↦ Contains-append_right (all_held running) more blob new
    ]
    | inr held ↦ Contains-append_left (all_held running) more blob (else-held running actor blob held)
  ],
)

-- custody rests on which blobs are held alone
pub clean-held : (custody : Custody) (held : List Blob) → IsClean custody → SameHeld custody.held held
    → IsClean (record custody { held = held })
clean-held custody held clean same = record {
  placed = λ ready blob live. elim (clean.placed ready blob live) [
    | inl named ↦ inl named
    | inr waits ↦ elim waits [ inl was ↦ inr (inl ((same blob).0 was)) | inr listed ↦ inr (inr listed) ]
  ];
  once = clean.once;
  live = clean.live;
  unnamed = clean.unnamed;
  free = λ item has still. clean.free item has ((same item.blob).1 still);
  gone = clean.gone;
  held_live = λ blob still. clean.held_live blob ((same blob).1 still);
  held_gone = λ blob still. clean.held_gone blob ((same blob).1 still);
}

-- and on whether a recovery is due only where none is
pub clean-ready : (custody : Custody) (ready : _) → IsClean custody → (ready ≡ true → custody.ready ≡ true)
    → IsClean (record custody { ready = ready })
clean-ready custody ready clean was = record {
  placed = λ up. clean.placed (was up);
  once = clean.once;
  live = clean.live;
  unnamed = clean.unnamed;
  free = clean.free;
  gone = clean.gone;
  held_live = clean.held_live;
  held_gone = clean.held_gone;
}
