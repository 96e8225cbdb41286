-- The worlds of users as shares of one: what a step of the user's, one of another's, and a sync do to them.
use Rattle.std.proofs.Common.{◌≡◌, ◌≢◌, ℕ, true, false, cond, List, [], ◌∷◌, ◌++◌, refl, sym, ap, ◌∙◌, subst, eq-eqb}
use Rattle.std.proofs.Common.{inl, inr, arith}
use Rattle.std.specs.Prelude.{◌==◌, Bool, Option, Some, None, Contains}
use Rattle.std.proofs.lemmas.Bool.{eqb-true, eqb-false}
use Rattle.std.proofs.lemmas.List.{append-nil}
use Rattle.std.proofs.lemmas.List.Elements.{Contains-append_left, Contains-append_right}
use Rattle.std.proofs.lemmas.List.Elements.{Contains-push, Contains-push_cases, Contains-append_cases}
use Rattle.std.specs.Cmp.{nat_cmp_total}
use Rattle.std.specs.Ordering.{nat_cmp}
use Rattle.std.specs.FinMap as map
use Rattle.std.specs.FinMap.{nat_cmp-IsAntisymmetric}
use Rattle.tree_model.specs.declared.ops.Fill.{Fill}
use Rattle.tree_model.specs.declared.ops.Fill.TheVariants.{Same}
use Rattle.tree_model.specs.declared.sites.LocalOp.{LocalOp}
use Rattle.tree_model.specs.Tree.{Tree, after_op, applied}
use Rattle.tree_model.specs.Disk.{filled}
use Rattle.tree_model.specs.Sites.{op_of}
use Rattle.tree_model.specs.Parts.{part_of, after_local, filled_local}
use Rattle.tree_model.proofs.Maps.{get-insert_same, get-insert_other, get-remove_same, get-remove_other}
use Rattle.tree_model.proofs.Parts.{part-own_filled, part-other_filled}
use Rattle.journal_model.specs.declared.entries.Change.{Change}
use Rattle.journal_model.specs.declared.entries.Change.TheVariants.{Create, Add, Drop, Settle, Destroy}
use Rattle.journal_model.specs.Machine.{NoChangeOf}
use Rattle.journal_model.specs.Users.{Record, Users, no_users, edited, with_record, with_edit, with_slot, without_slot}
use Rattle.journal_model.specs.Users.{settled_slot, after_change, folded, fold_changes, owner_of}
use Rattle.user_world.specs.declared.changes.LocalChange.{LocalChange}
use Rattle.user_world.specs.declared.changes.LocalChange.TheVariants.{Born, Added, Dropped, Settled, Destroyed}
use Rattle.user_world.specs.Changes.{change_of, local_of, known_after, known_through}
use Rattle.user_world.specs.Changes.{changes_for, if_noted}
use Rattle.user_world.specs.OwnWorlds.{Step, notes, part_after, own_view, own_log, with_step, settled}
use Rattle.user_world.specs.Worlds.{Owned, World, ops_of, changes_of, log_of, steps_of, own, with_owned, settled_world}

-- a test of owners
pub cases_owner : (owner user : ℕ) (P : Bool → Type 0) → (owner ≡ user → P true) → (owner ≢ user → P false)
    → P (owner == user)
cases_owner owner user P mine theirs = elim (owner == user) as (λ t. owner == user ≡ t → P t) [
  | true ↦ λ e. mine (eqb-true owner user e)
  | false ↦ λ e. theirs (eqb-false owner user e)
] refl

-- an operation of the user's, and one of another's, in the user's part
module _ (tree : Tree) (fill : Fill) (owner user : ℕ) (op : LocalOp) where
  pub after-mine : owner ≡ user
      → part_of (after_op tree (filled fill (op_of owner op))) user
      ≡ after_local (part_of tree user) (filled_local fill op)
  after-mine same = subst (λ u. part_of (after_op tree (filled fill (op_of owner op))) u
      ≡ after_local (part_of tree u) (filled_local fill op)) same (part-own_filled tree owner fill op)

  pub after-theirs : owner ≢ user → part_of (after_op tree (filled fill (op_of owner op))) user ≡ part_of tree user
  after-theirs differ = part-other_filled tree owner user fill op (λ e. differ (sym e))

-- the user's part of the view is the view of the user's world
pub part-applied : (user : ℕ) (tree : Tree) (pending : List Owned)
    → part_of (applied tree (ops_of pending)) user ≡ part_after (part_of tree user) (steps_of user pending)
part-applied user tree [] = refl
part-applied user tree (owned ∷ rest) =
    let op = owned.step.op in
    let after = after_op tree (op_of owned.user op) in
    part-applied user after rest
    ∙ cases_owner owned.user user (λ t. part_after (part_of after user) (steps_of user rest)
    ≡ part_after (part_of tree user) (cond t (owned.step ∷ steps_of user rest) (steps_of user rest)))
    (λ same. ap (λ part. part_after part (steps_of user rest)) (after-mine tree Same owned.user user op same))
    (λ differ. ap (λ part. part_after part (steps_of user rest)) (after-theirs tree Same owned.user user op differ))

same_branches : {A : Type 0} (b : Bool) (a : A) → a ≡ cond b a a
same_branches true a = refl
same_branches false a = refl

pub noted-for : (user owner : ℕ) (note : Option LocalChange) (changes : List Change)
    → changes_for user (if_noted note (change_of owner) changes)
    ≡ cond (owner == user) (if_noted note (λ change. change) (changes_for user changes)) (changes_for user changes)
noted-for user owner None changes = same_branches (owner == user) (changes_for user changes)
noted-for user owner (Some (Born birth)) changes = refl
noted-for user owner (Some (Added slot secret)) changes = refl
noted-for user owner (Some (Dropped slot)) changes = refl
noted-for user owner (Some (Settled slot)) changes = refl
noted-for user owner (Some Destroyed) changes = refl

-- the user's changes among the pending ones are those that the user's steps note
pub changes-steps : (user : ℕ) (pending : List Owned)
    → changes_for user (changes_of pending) ≡ notes (steps_of user pending)
changes-steps user [] = refl
changes-steps user (owned ∷ rest) =
    let later = changes_for user (changes_of rest) in
    noted-for user owned.user owned.step.note (changes_of rest)
    ∙ (elim (owned.user == user) as (λ t. cond t (if_noted owned.step.note (λ change. change) later) later
    ≡ notes (cond t (owned.step ∷ steps_of user rest) (steps_of user rest))) [
      | true ↦ ap (if_noted owned.step.note (λ change. change)) (changes-steps user rest)
      | false ↦ changes-steps user rest
    ])

pub changes_for-append : (user : ℕ) (changes more : List Change)
    → changes_for user (changes ++ more) ≡ changes_for user changes ++ changes_for user more
changes_for-append user [] more = refl
changes_for-append user (change ∷ changes) more =
    let all = changes_for user (changes ++ more) in
    elim (owner_of change == user) as (λ t. cond t (local_of change ∷ all) all
    ≡ cond t (local_of change ∷ changes_for user changes) (changes_for user changes) ++ changes_for user more) [
      | true ↦ ap (λ cs. local_of change ∷ cs) (changes_for-append user changes more)
      | false ↦ changes_for-append user changes more
    ]

steps_of-append : (user : ℕ) (pending : List Owned) (owned : Owned)
    → steps_of user (pending ++ owned ∷ []) ≡ steps_of user pending ++ cond (owned.user == user) (owned.step ∷ []) []
steps_of-append user [] owned = refl
steps_of-append user (first ∷ rest) owned =
    let all = steps_of user (rest ++ owned ∷ []) in
    elim (first.user == user) as (λ t. cond t (first.step ∷ all) all
    ≡ cond t (first.step ∷ steps_of user rest) (steps_of user rest)
    ++ cond (owned.user == user) (owned.step ∷ []) []) [
      | true ↦ ap (λ steps. first.step ∷ steps) (steps_of-append user rest owned)
      | false ↦ steps_of-append user rest owned
    ]

module _ (user : ℕ) (world : World) where
  -- the user's changes of the whole log are the log of the user's world
  pub log-own : changes_for user (log_of world) ≡ own_log (own user world)
  log-own =
      changes_for-append user world.durable (changes_of world.pending)
      ∙ ap (λ cs. changes_for user world.durable ++ cs) (changes-steps user world.pending)

  -- a step of the user's own
  pub own-step : (step : Step) → own user (with_owned world user step) ≡ with_step (own user world) step
  own-step step = ap (λ steps. record (own user world) { pending = steps })
      (steps_of-append user world.pending (record { user = user; step = step })
      ∙ ap (λ t. steps_of user world.pending ++ cond t (step ∷ []) []) (eq-eqb user user refl))

  -- another user's step leaves the user's world
  pub own-other : (other : ℕ) (step : Step) → other ≢ user → own user (with_owned world other step) ≡ own user world
  own-other other step differ = ap (λ steps. record (own user world) { pending = steps })
      (steps_of-append user world.pending (record { user = other; step = step })
      ∙ cases_owner other user
      (λ t. steps_of user world.pending ++ cond t (step ∷ []) [] ≡ steps_of user world.pending)
      (λ same. absurd (differ same)) (λ apart. append-nil (steps_of user world.pending)))

  -- a sync settles the user's world
  pub own-settled : own user (settled_world world) ≡ settled (own user world)
  own-settled =
      ap (λ part. record { stable = part; durable = changes_for user (log_of world); pending = [] })
      (part-applied user world.stable world.pending)
      ∙ ap (λ changes. record { stable = own_view (own user world); durable = changes; pending = [] }) log-own

-- an edit of an owner's record is of that record alone
module _ (users : Users) (owner : ℕ) (edit : Record → Record) where
  edit-mine : map.get (with_edit users owner edit) owner ≡ edited (map.get users owner) edit
  edit-mine = elim (map.get users owner) as (λ (found : Option Record). map.get users owner ≡ found
      → map.get (with_record users owner (edited found edit)) owner ≡ edited found edit) [
        | None ↦ λ none. none
        | Some known ↦ λ is. get-insert_same nat_cmp_total nat_cmp-IsAntisymmetric users owner _
      ] refl

  edit-theirs : (user : ℕ) → owner ≢ user → map.get (with_edit users owner edit) user ≡ map.get users user
  edit-theirs user differ = elim (map.get users owner) as (λ (found : Option Record).
      map.get (with_record users owner (edited found edit)) user ≡ map.get users user) [
        | None ↦ refl
        | Some known ↦ get-insert_other nat_cmp_total nat_cmp-IsAntisymmetric users owner _ user (λ e. differ (sym e))
      ]

-- so is a change
change-mine : (users : Users) (change : Change)
    → map.get (after_change users change) (owner_of change)
    ≡ known_after (map.get users (owner_of change)) (local_of change)
change-mine users (Create owner birth) = get-insert_same nat_cmp_total nat_cmp-IsAntisymmetric users owner _
change-mine users (Add owner slot secret) = edit-mine users owner (λ known. with_slot known slot secret)
change-mine users (Drop owner slot) = edit-mine users owner (λ known. without_slot known slot)
change-mine users (Settle owner slot) = edit-mine users owner (λ known. settled_slot known slot)
change-mine users (Destroy owner) = get-remove_same nat_cmp_total nat_cmp-IsAntisymmetric users owner

pub change-theirs : (users : Users) (change : Change) (user : ℕ) → owner_of change ≢ user
    → map.get (after_change users change) user ≡ map.get users user
change-theirs users (Create owner birth) user differ =
    get-insert_other nat_cmp_total nat_cmp-IsAntisymmetric users owner _ user (λ e. differ (sym e))
change-theirs users (Add owner slot secret) user differ =
    edit-theirs users owner (λ known. with_slot known slot secret) user differ
change-theirs users (Drop owner slot) user differ =
    edit-theirs users owner (λ known. without_slot known slot) user differ
change-theirs users (Settle owner slot) user differ =
    edit-theirs users owner (λ known. settled_slot known slot) user differ
change-theirs users (Destroy owner) user differ =
    get-remove_other nat_cmp_total nat_cmp-IsAntisymmetric users owner user (λ e. differ (sym e))

-- what the changes make of the user is what the user's changes make
known-folded : (user : ℕ) (users : Users) (changes : List Change)
    → map.get (folded users changes) user ≡ known_through (map.get users user) (changes_for user changes)
known-folded user users [] = refl
known-folded user users (change ∷ changes) =
    let after = after_change users change in
    let later = changes_for user changes in
    known-folded user after changes
    ∙ cases_owner (owner_of change) user (λ t. known_through (map.get after user) later
    ≡ known_through (map.get users user) (cond t (local_of change ∷ later) later))
    (λ same. ap (λ known. known_through known later)
    (subst (λ u. map.get after u ≡ known_after (map.get users u) (local_of change)) same (change-mine users change)))
    (λ differ. ap (λ known. known_through known later) (change-theirs users change user differ))

pub known-own : (user : ℕ) (changes : List Change)
    → map.get (fold_changes changes) user ≡ known_through None (changes_for user changes)
known-own user changes =
    known-folded user no_users changes
    ∙ ap (λ known. known_through known (changes_for user changes)) (map.get-empty nat_cmp user)

change_of-local : (change : Change) → change ≡ change_of (owner_of change) (local_of change)
change_of-local (Create user birth) = refl
change_of-local (Add user slot secret) = refl
change_of-local (Drop user slot) = refl
change_of-local (Settle user slot) = refl
change_of-local (Destroy user) = refl

-- a change of the user's is a change of all, and the other way round
pub contains-of : (user : ℕ) (changes : List Change) (change : LocalChange)
    → Contains (changes_for user changes) change → Contains changes (change_of user change)
contains-of user [] change there = absurd (omega (arith, there.1))
contains-of user (first ∷ changes) change there =
    let later = λ (rest : Contains (changes_for user changes) change).
    Contains-append_right (first ∷ []) changes (change_of user change) (contains-of user changes change rest) in
    cases_owner (owner_of first) user (λ t.
    Contains (cond t (local_of first ∷ changes_for user changes) (changes_for user changes)) change
    → Contains (first ∷ changes) (change_of user change))
    (λ same there. elim (Contains-append_cases (local_of first ∷ []) (changes_for user changes) change there) [
      | inl one ↦ elim (Contains-push_cases [] (local_of first) change one) [
        | inl none ↦ absurd (omega (arith, none.1))
        | inr is ↦ subst (Contains (first ∷ changes))
            (change_of-local first ∙ ap (λ u. change_of u (local_of first)) same ∙ ap (change_of user) is)
            (Contains-append_left (first ∷ []) changes first (Contains-push [] first))
      ]
      | inr rest ↦ later rest
    ])
    (λ differ there. later there) there

-- where none of the user's changes is among them, none is the user's
pub none-of : (user : ℕ) (changes : List Change) → changes_for user changes ≡ [] → NoChangeOf user changes
none-of user [] none = tt
none-of user (change ∷ changes) none =
    cases_owner (owner_of change) user (λ t.
    cond t (local_of change ∷ changes_for user changes) (changes_for user changes) ≡ []
    → NoChangeOf user (change ∷ changes))
    (λ same none. cc) (λ differ none. (differ, none-of user changes none)) none

pub none-for : (user : ℕ) (changes : List Change) → NoChangeOf user changes → changes_for user changes ≡ []
none-for user [] none = refl
none-for user (change ∷ changes) none = cases_owner (owner_of change) user
    (λ t. cond t (local_of change ∷ changes_for user changes) (changes_for user changes) ≡ [])
    (λ same. absurd (none.0 same)) (λ differ. none-for user changes none.1)

-- an owned change is one of its owner's local changes
pub owned-change : (change : Change) (user : ℕ) → owner_of change ≡ user → change_of user (local_of change) ≡ change
owned-change change user is = ap (λ u. change_of u (local_of change)) (sym is) ∙ sym (change_of-local change)

pub owner-change_of : (user : ℕ) (change : LocalChange) → owner_of (change_of user change) ≡ user
owner-change_of user (Born birth) = refl
owner-change_of user (Added slot secret) = refl
owner-change_of user (Dropped slot) = refl
owner-change_of user (Settled slot) = refl
owner-change_of user Destroyed = refl

pub local-change_of : (user : ℕ) (change : LocalChange) → local_of (change_of user change) ≡ change
local-change_of user (Born birth) = refl
local-change_of user (Added slot secret) = refl
local-change_of user (Dropped slot) = refl
local-change_of user (Settled slot) = refl
local-change_of user Destroyed = refl
