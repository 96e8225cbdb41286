-- A turn of the task that fixates a user's slots is a turn of its command, an unlock or a fixate: what becomes of the
-- slot that is kept, and what the turn shows.
use Rattle.std.proofs.Common.{◌≡◌, ◌≢◌, ◌⊎◌, inl, inr, ℕ, ◌+◌, ◌<◌, ◌≤◌, Bool, true, false, not, List, [], ◌∷◌}
use Rattle.std.proofs.Common.{refl, sym, ap, ◌∙◌, subst, arith}
use Rattle.std.specs.FinMap as map
use Rattle.std.specs.Prelude.{Option, Some, None, is_some, IsSome}
use Rattle.std.specs.declared.cmp.Ordering.TheVariants.{Less}
use Rattle.std.proofs.lemmas.Bool.{false≢true}
use Rattle.std.proofs.lemmas.Option.{none-some, same_Some}
use Rattle.tree_model.specs.declared.places.Slot.{Slot}
use Rattle.tree_model.specs.declared.places.Slot.TheVariants.{Current}
use Rattle.tree_model.specs.declared.sites.LocalOp.{LocalOp}
use Rattle.tree_model.specs.Order.{slot_cmp, slot_total, slot_exact}
use Rattle.tree_model.specs.Parts.{Part}
use Rattle.tree_model.proofs.Logic.{is_equal}
use Rattle.tree_model.proofs.Maps.{decide_key, get-insert_same, get-remove_same, get-remove_other}
use Rattle.keystore_model.proofs.Elements.{Contains-none, Contains-first}
use Rattle.journal_model.specs.Machine.{Running as Began}
use Rattle.journal_model.specs.Users.{Record, Secrets, HasOnly, HasNewest, without_slot, settled_slot, moved_from}
use Rattle.user_world.specs.declared.changes.LocalChange.{LocalChange}
use Rattle.user_world.specs.Changes.{known_after, known_through}
use Rattle.user_world.specs.OwnWorlds.{own_view, own_record}
use Rattle.user_world.specs.Turns.{StepShows, with_note, adds_local, takes_local}
use Rattle.user_world.proofs.OwnWorlds.{record-step, log-settled}
use Rattle.blob_custody.proofs.Steps.{lets-none}
use Rattle.key_directory.specs.Vaults.{sealed}
use Rattle.task_turns.specs.declared.calls.Answer.TheVariants.{Done}
use Rattle.task_turns.specs.Names.{BringsBlob}
use Rattle.task_turns.specs.Shares.{Share, ShareFact, Slots, HasSlots, IsNewestUnder, AllHas, AreHeld}
use Rattle.task_turns.specs.Turns.{Rest, Scene, Tasks, MayChange, TurnShows, drops_most, noting, operated, synced}
use Rattle.task_turns.specs.Turns.{seen_of, EndsKeyless}
use Rattle.fixate_task.specs.declared.task.Doing.{Doing}
use Rattle.fixate_task.specs.declared.task.Doing.TheVariants.{Drop, Settle}
use Rattle.fixate_task.specs.Task.{Fixing, after as fix_after, ended_with, has_ended, left_of, op_of, change_by}
use Rattle.fixate_task.specs.Turns.{DoingShows}
use Rattle.user_tasks.specs.Turns.{fixing_turn}
use Rattle.user_tasks.proofs.Leading.{leads-to}

-- the slot that a record keeps becomes one of another record: its secret stays, and no slot becomes newer than it
pub record Moves (known : Record) (kept : Slot) (then : Record) (stays : Slot) : Type 0 where
  pub birth : then.birth ≡ known.birth
  pub same : map.get then.secrets stays ≡ map.get known.secrets kept
  pub newer : (other : Slot) → slot_cmp stays other ≡ Less → (map.get then.secrets other ≡ None)
      ⊎ ((slot_cmp kept other ≡ Less) × (map.get then.secrets other ≡ map.get known.secrets other))

-- so it stays the newest one, and the newest one under a secret
module _ {known then : Record} {kept stays : Slot} (moves : Moves known kept then stays) where
  pub newest-moved : HasNewest known kept → HasNewest then stays
  newest-moved newest = record {
    there = ap is_some moves.same ∙ newest.there;
    newest = λ other less. elim (moves.newer other less) [
      | inl none ↦ none
      | inr was ↦ was.1 ∙ newest.newest other was.0
    ];
  }

  pub under-moved : (secret : List ℕ) → IsNewestUnder known secret kept → IsNewestUnder then secret stays
  under-moved secret newest = record {
    under = moves.same ∙ newest.under;
    newest = λ other less is. elim (moves.newer other less) [
      | inl none ↦ none-some secret (sym none ∙ is)
      | inr was ↦ newest.newest other was.0 (sym was.1 ∙ is)
    ];
  }

-- where another slot is dropped
drop-moves : (known : Record) (kept slot : Slot) → slot ≢ kept → Moves known kept (without_slot known slot) kept
drop-moves known kept slot differ = record {
  birth = refl;
  same = get-remove_other slot_total slot_exact known.secrets slot kept (λ same. differ (sym same));
  newer = λ other less. elim (decide_key slot_total slot_exact other slot) [
    | inl same ↦ inl (subst (λ s. map.get (map.remove known.secrets slot) s ≡ None) (sym same)
        (get-remove_same slot_total slot_exact known.secrets slot))
    | inr away ↦ inr (less, get-remove_other slot_total slot_exact known.secrets slot other away)
  ];
}

moved-same : (secrets : Secrets) (slot : Slot) (found : Option (List ℕ)) → IsSome found
    → map.get (moved_from secrets slot found) Current ≡ found
moved-same secrets slot None there = absurd (false≢true there)
moved-same secrets slot (Some secret) there =
    get-insert_same slot_total slot_exact (map.remove secrets slot) Current secret

pub none-unless : {A : Type 0} (found : Option A) → (IsSome found → ⊥) → found ≡ None
none-unless None lacking = refl
none-unless (Some a) lacking = absurd (lacking refl)

-- and where it becomes the current one, and the only one
settle-moves : (known : Record) (kept slot : Slot) → slot ≡ kept → IsSome (map.get known.secrets kept)
    → ((other : Slot) → IsSome (map.get (settled_slot known slot).secrets other) → other ≡ Current)
    → Moves known kept (settled_slot known slot) Current
settle-moves known kept slot same there alone = record {
  birth = refl;
  same = moved-same known.secrets slot (map.get known.secrets slot)
      (subst (λ s. IsSome (map.get known.secrets s)) (sym same) there) ∙ ap (map.get known.secrets) same;
  newer = λ other less. inl (none-unless (map.get (settled_slot known slot).secrets other) (λ is.
      let itself : slot_cmp Current Current ≡ Less =
      subst (λ s. slot_cmp Current s ≡ Less) (alone other is) less in cc));
}

-- the user's record once that was done, and what became of the slot that is kept
pub record MovesOn (share : Share) (fixing : Fixing) (known : Record) (doing : Doing) : Type 0 where
  pub then : Record
  pub there : own_record (operated share (op_of doing) (Some (change_by doing))).own ≡ Some then
  pub moves : Moves known fixing.kept then (fix_after fixing).kept

module _ (user : ℕ) (share : Share) (kept : Slot) where
  record-then : (known : Record) (op : LocalOp) (change : LocalChange) → own_record share.own ≡ Some known
      → own_record (operated share op (Some change)).own ≡ known_after (Some known) change
  record-then known op change is =
      record-step share.own (record { op = op; note = Some change }) ∙ ap (λ found. known_after found change) is

  -- it drops where others are left, and else settles
  moved : (others : List Slot) (doing : Doing) (has : HasSlots share kept others)
      → DoingShows (record { kept = kept; others = others }) user share doing
      → MovesOn share (record { kept = kept; others = others }) has.known doing
  moved [] (Drop slot) has shows = let allowed = shows.allowed has.known has.there in
      elim (has.all slot allowed.2) [
        | inl same ↦ absurd (allowed.1 same)
        | inr among ↦ absurd (Contains-none slot among)
      ]
  moved (first ∷ others) (Drop slot) has shows = record {
    then = without_slot has.known slot;
    there = record-then has.known (op_of (Drop slot)) (change_by (Drop slot)) has.there;
    moves = drop-moves has.known kept slot (shows.allowed has.known has.there).1;
  }
  moved [] (Settle slot) has shows =
      let there = record-then has.known (op_of (Settle slot)) (change_by (Settle slot)) has.there in record {
        then = settled_slot has.known slot;
        there = there;
        moves = settle-moves has.known kept slot (shows.allowed has.known has.there).1 has.has_kept (λ other is.
            elim (shows.rests.all other (subst (λ (k : Record). IsSome (map.get k.secrets other))
            (same_Some _ shows.rests.known (sym there ∙ shows.rests.there)) is)) [
              | inl same ↦ same
              | inr among ↦ absurd (Contains-none other among)
            ]);
      }
  moved (first ∷ others) (Settle slot) has shows =
      let only : HasOnly has.known kept = (shows.allowed has.known has.there).3 in
      let other = has.has_others first (Contains-first first others) in
      absurd (false≢true (sym (ap is_some (only.alone first other.0)) ∙ other.1))

pub moves-on : (user : ℕ) (share : Share) (fixing : Fixing) (doing : Doing) (known : Record)
    → HasSlots share fixing.kept fixing.others → DoingShows fixing user share doing
    → own_record share.own ≡ Some known → MovesOn share fixing known doing
moves-on user share fixing doing known has shows there =
    subst (λ k. MovesOn share fixing k doing) (same_Some has.known known (sym has.there ∙ there))
    (moved user share fixing.kept fixing.others doing has shows)

-- the one slot of a user with no other
pub one-slot : (share : Share) (kept : Slot) (has : HasSlots share kept []) → HasOnly has.known kept
one-slot share kept has = record {
  there = has.has_kept;
  alone = λ other away. none-unless (map.get has.known.secrets other) (λ there. elim (has.all other there) [
    | inl same ↦ away same
    | inr among ↦ Contains-none other among
  ]);
}

-- it does something next exactly where it has not ended
pub goes-on : (ended : Bool) → true ≡ not ended → ended ≡ false
goes-on true is = absurd (false≢true (sym is))
goes-on false is = refl

pub has-stopped : (ended : Bool) → false ≡ not ended → ended ≡ true
has-stopped true is = refl
has-stopped false is = absurd (false≢true is)

-- once it has ended the current slot is kept, and no other is left
abbrev pub at_end : Fixing
at_end = record { kept = Current; others = [] }

abbrev with_slots : Slot → List Slot → Fixing
with_slots kept others = record { kept = kept; others = others }

pub ended-is : (fixing : Fixing) → has_ended fixing ≡ true → fixing ≡ at_end
ended-is fixing ended = by fixing.kept fixing.others ended
  where
    by : (kept : Slot) (others : List Slot) → ended_with kept others ≡ true → with_slots kept others ≡ at_end
    by kept [] is =
        ap (λ slot. with_slots slot []) (slot_exact kept Current (is_equal (slot_cmp kept Current) is))
    by kept (first ∷ others) is = absurd (false≢true is)

-- a share in which the user's record is as it was, and so is what keys are made of and tried with
pub record KeepsUser (before after : Share) : Type 0 where
  pub known : own_record after.own ≡ own_record before.own
  pub seed : after.vault.seed ≡ before.vault.seed
  pub attempts : after.vault.attempts ≡ before.vault.attempts

pub keeps-synced : (share : Share) → KeepsUser share (synced share)
keeps-synced share =
    record { known = ap (known_through None) (log-settled share.own); seed = refl; attempts = refl }

pub slots-last : (before after : Share) → KeepsUser before after → (kept : Slot) (others : List Slot)
    → HasSlots before kept others → HasSlots after kept others
slots-last before after keeps kept others has = record {
  known = has.known;
  there = keeps.known ∙ has.there;
  has_kept = has.has_kept;
  has_others = has.has_others;
  all = has.all;
}

-- a command while its fixing task goes on: whose it is, what it else rests on of the slot that is kept, what the
-- machine has of it, and how many turns it has besides
pub record Frame : Type 1 where
  pub user : ℕ
  pub facts : Slot → List ShareFact
  pub serves : ℕ → Began → Type 0
  pub more : ℕ

abbrev pub fixing_rest : Frame → Fixing → Rest
fixing_rest frame fixing = record {
  user = frame.user;
  facts = Slots fixing.kept fixing.others ∷ frame.facts fixing.kept;
  held = [];
  serves = frame.serves;
  left = left_of fixing + frame.more;
  makes = 0;
  draws = 0;
}

-- the command rests where the frame says, and so while the fixing task has not ended
pub record IsFixing {T : Type 0} (tasks : Tasks T) (task : T) (frame : Frame) (fixing : Fixing) : Type 1 where
  pub rests : tasks.rest_of task ≡ fixing_rest frame fixing
  pub hears : tasks.hears task Done
  pub goes_on : has_ended fixing ≡ false
      → tasks.rest_of (tasks.after task Done) ≡ fixing_rest frame (fix_after fixing)
  pub behind : 1 < frame.more

-- what the command shows of what the fixing task does
pub record CommandShows (frame : Frame) (fixing : Fixing) (scene : Scene) (doing : Doing) : Type 0 where
  pub shows : DoingShows fixing frame.user scene.share doing
  pub facts : AllHas (frame.facts (fix_after fixing).kept)
      (operated scene.share (op_of doing) (Some (change_by doing)))
  pub known : AreHeld [] (frame.facts (fix_after fixing).kept)
  pub serves : frame.serves scene.boot (with_note frame.user scene.began (Some (change_by doing)))
  pub may : MayChange frame.user scene (change_by doing)

-- its operation makes no directory and renames no temporary one, and lists a blob at most where it removes a directory
drops-few : (doing : Doing) (known : Option Record) → drops_most (op_of doing) known ≤ takes_local (op_of doing)
drops-few (Drop slot) None = omega arith
drops-few (Drop slot) (Some known) = omega arith
drops-few (Settle slot) known = omega arith

adds-none : (doing : Doing) → adds_local (op_of doing) ≡ 0
adds-none (Drop slot) = refl
adds-none (Settle slot) = refl

-- it ends no user
pub ends-none : (share : Share) (doing : Doing) → EndsKeyless share (change_by doing)
ends-none share (Drop slot) = tt
ends-none share (Settle slot) = tt

brings-none : (view : Part) (doing : Doing) → BringsBlob view (op_of doing) None
brings-none view (Drop slot) = record { brings = refl; long = tt }
brings-none view (Settle slot) = record { brings = refl; long = tt }

module _ {T : Type 0} (tasks : Tasks T) (task : T) (frame : Frame) (fixing : Fixing)
    (is : IsFixing tasks task frame fixing) (scene : Scene) where
  mine : frame.user ≡ (tasks.rest_of task).user
  mine = ap (λ (rest : Rest). rest.user) (sym is.rests)

  still-none : has_ended fixing ≡ false → (tasks.rest_of (tasks.after task Done)).held ≡ (tasks.rest_of task).held
  still-none on = ap (λ (rest : Rest). rest.held) (is.goes_on on) ∙ ap (λ (rest : Rest). rest.held) (sym is.rests)

  pub fixing-shows : (doing : Doing) → has_ended fixing ≡ false → CommandShows frame fixing scene doing
      → TurnShows (seen_of tasks task) scene (fixing_turn frame.user doing)
  fixing-shows doing on command =
      let change = change_by doing in
      let none : adds_local (op_of doing) ≡ 0 = adds-none doing in
      let few : drops_most (op_of doing) (own_record scene.share.own) ≤ takes_local (op_of doing) =
      drops-few doing (own_record scene.share.own) in
      let falls : left_of (fix_after fixing) < left_of fixing = command.shows.falls in record {
        stands = record {
          mine = mine;
          step = subst (λ user. StepShows (sealed (noting user scene (Some change))) user scene.share.own
              (record { op = op_of doing; note = Some change }) []) mine
              (command.shows.step (noting frame.user scene (Some change)));
          brings = brings-none (own_view scene.share.own) doing;
          gains = [];
          gained = command.shows.gained;
          lets_go = lets-none _ _ (still-none on);
          held = inl (still-none on);
          leads = leads-to tasks task Done is.hears is.rests (is.goes_on on) (record {
            facts = (command.shows.rests, command.facts);
            known = (tt, command.known);
            serves = command.serves;
            same_user = refl;
            falls = omega arith;
            makes = omega arith;
            draws = omega arith;
          });
        };
        may = subst (λ user. MayChange user scene change) mine command.may;
        lasts = subst (λ (rest : Rest). 1 < rest.left + 0) (sym is.rests) (omega (arith, is.behind));
      }
