-- Queues that are taken out, changed and put back, and that no queue is empty.
use Rattle.std.proofs.Common.{◌≡◌, ◌≢◌, inl, inr, ℕ, ◌+◌, ◌<◌, List, [], ◌∷◌, ◌++◌}
use Rattle.std.proofs.Common.{length, refl, sym, ap, ◌∙◌, subst, arith, length-append}
use Rattle.std.specs.Prelude.{Option, Some, None, IfSome, IsSomeAnd, Contains, unwrap_or}
use Rattle.std.specs.declared.cmp.Ordering.{Ordering}
use Rattle.std.specs.Cmp.{IsTotalOrder}
use Rattle.std.specs.FinMap as map
use Rattle.std.specs.FinMap.{IsAntisymmetric}
use Rattle.std.proofs.lemmas.List.Elements.{Contains-push_cases, Contains-append_right}
use Rattle.tree_model.proofs.Maps.{get-insert_same, get-insert_other, get-remove_same, get-remove_other}
use Rattle.tree_model.proofs.Maps.{remove-insert, insert_present}
use Rattle.sorted_map.proofs.Maps.{insert-insert}
use Rattle.docket.specs.Docket.{IsQueue, AllQueues, IsFirst, DropsFirst, queue_of, with_queue}
use Rattle.docket.proofs.Accounts.{not_nil, nothing_in, contains-here, contains-cons, at_actors}

-- a list with one element more, pushed once there was room
pub one-more : {A : Type 0} (given room pushed : List A) (x : A) → room ≡ given → pushed ≡ room ++ x ∷ []
    → length pushed ≡ length given + 1
one-more given room pushed x same items =
    ap length items ∙ length-append room (x ∷ []) ∙ ap (λ list. length list + 1) same

pub queues-empty : {A : Type 0} (cmp : A → A → Ordering) (given : ℕ) (waiting : map.FinMap cmp (List ℕ))
    → waiting ≡ map.empty → AllQueues given waiting
queues-empty cmp given waiting none actor =
    subst (λ found. IfSome found (IsQueue given)) (sym (ap (λ m. map.get m actor) none ∙ map.get-empty cmp actor)) tt

-- the first number of a queue was given
pub first-within : (given number : ℕ) (found : Option (List ℕ)) → IfSome found (IsQueue given)
    → IsSomeAnd found (λ queue. IsFirst queue number) → number < given
first-within given number None stands first = absurd first
first-within given number (Some []) stands first = absurd first
first-within given number (Some (n ∷ ns)) stands first =
    subst (λ k. k < given) first (stands.within n (contains-here n ns))

within_found : (given number : ℕ) (found : Option (List ℕ)) → IfSome found (IsQueue given)
    → Contains (unwrap_or found []) number → number < given
within_found given number None stands there = absurd (nothing_in number there)
within_found given number (Some queue) stands there = stands.within number there

later_found : (given : ℕ) (found : Option (List ℕ)) → IfSome found (IsQueue given) → IfSome found (IsQueue (given + 1))
later_found given None stands = tt
later_found given (Some queue) stands = record {
  some = stands.some;
  within = λ number there. let below = stands.within number there in omega (arith, below);
}

push_not_nil : (ns : List ℕ) (n : ℕ) → (ns ++ n ∷ []) ≢ []
push_not_nil [] n e = cc
push_not_nil (m ∷ ns) n e = cc

module _ {A : Type 0} {cmp : A → A → Ordering} (total : IsTotalOrder cmp) (exact : IsAntisymmetric cmp) where
  module _ (before aside after : map.FinMap cmp (List ℕ)) (actor : A) (blank queue : List ℕ)
      (put_aside : aside ≡ map.insert before actor blank) where
    -- the queue was put back, changed
    put_twice : (now : List ℕ) → after ≡ map.insert aside actor now → after ≡ map.insert before actor now
    put_twice now put_back = put_back ∙ ap (λ m. map.insert m actor now) put_aside
        ∙ insert-insert total exact before actor blank now

    pub changes-queue : (change : List ℕ → List ℕ) (now : List ℕ) → map.get before actor ≡ Some queue
        → after ≡ map.insert aside actor now → now ≡ change queue
        → after ≡ map.insert before actor (change (queue_of before actor))
    changes-queue change now found put_back is = put_twice now put_back
        ∙ ap (map.insert before actor) (is ∙ ap change (sym (ap (λ f. unwrap_or f []) found)))

    pub keeps-queue : (now : List ℕ) → map.get before actor ≡ Some queue → after ≡ map.insert aside actor now
        → now ≡ queue → after ≡ before
    keeps-queue now found put_back is = put_twice now put_back
        ∙ insert_present total exact before actor now (found ∙ ap Some (sym is))

    -- its first number was taken out, and with the last one the queue
    module _ (number : ℕ) (rest : List ℕ) (found : map.get before actor ≡ Some queue)
        (is : queue ≡ number ∷ rest) where
      pub drops-last : rest ≡ [] → after ≡ map.remove aside actor → DropsFirst before after actor number
      drops-last none removed = (
        rest,
        found ∙ ap Some is,
        removed ∙ ap (λ m. map.remove m actor) put_aside ∙ remove-insert total exact before actor blank
            ∙ sym (ap (with_queue before actor) none),
      )

      pub drops-one : rest ≢ [] → after ≡ map.insert aside actor rest → DropsFirst before after actor number
      drops-one some put_back = (rest, found ∙ ap Some is, put_twice rest put_back ∙ with_some rest some)
        where
          with_some : (ns : List ℕ) → ns ≢ [] → map.insert before actor ns ≡ with_queue before actor ns
          with_some [] left = absurd (left refl)
          with_some (n ∷ ns) left = refl

  -- each queue stands after its first number was taken
  pub queues-dropped : (given : ℕ) (before after : map.FinMap cmp (List ℕ)) (actor : A) (number : ℕ)
      → AllQueues given before → DropsFirst before after actor number → AllQueues given after
  queues-dropped given before after actor number stand (numbers, found, is) =
      subst (AllQueues given) (sym is) (dropped numbers found)
    where
      dropped : (ns : List ℕ) → map.get before actor ≡ Some (number ∷ ns)
          → AllQueues given (with_queue before actor ns)
      dropped [] was = at_actors total exact actor (λ a. IfSome (map.get (map.remove before actor) a) (IsQueue given))
          (subst (λ f. IfSome f (IsQueue given)) (sym (get-remove_same total exact before actor)) tt)
          (λ other differ. subst (λ f. IfSome f (IsQueue given))
          (sym (get-remove_other total exact before actor other differ)) (stand other))
      dropped (n ∷ ns) was =
          let queue = subst (λ f. IfSome f (IsQueue given)) was (stand actor) in
          at_actors total exact actor (λ a. IfSome (map.get (map.insert before actor (n ∷ ns)) a) (IsQueue given))
          (subst (λ f. IfSome f (IsQueue given)) (sym (get-insert_same total exact before actor (n ∷ ns))) (record {
            some = not_nil n ns;
            within = λ k there. queue.within k (Contains-append_right (number ∷ []) (n ∷ ns) k there);
          }))
          (λ other differ. subst (λ f. IfSome f (IsQueue given))
          (sym (get-insert_other total exact before actor (n ∷ ns) other differ)) (stand other))

  module _ (given : ℕ) (before after : map.FinMap cmp (List ℕ)) (actor : A) (stand : AllQueues given before) where
    queues-put : (queue : List ℕ) → IsQueue (given + 1) queue → after ≡ map.insert before actor queue
        → AllQueues (given + 1) after
    queues-put queue stands is = subst (AllQueues (given + 1)) (sym is)
        (at_actors total exact actor (λ a. IfSome (map.get (map.insert before actor queue) a) (IsQueue (given + 1)))
        (subst (λ f. IfSome f (IsQueue (given + 1))) (sym (get-insert_same total exact before actor queue)) stands)
        (λ other differ. subst (λ f. IfSome f (IsQueue (given + 1)))
        (sym (get-insert_other total exact before actor queue other differ))
        (later_found given (map.get before other) (stand other))))

    -- the next number was put last into a queue, or first
    pub queues-last : after ≡ map.insert before actor (queue_of before actor ++ given ∷ [])
        → AllQueues (given + 1) after
    queues-last = queues-put (queue_of before actor ++ given ∷ []) (record {
      some = push_not_nil (queue_of before actor) given;
      within = λ k there. elim (Contains-push_cases (queue_of before actor) given k there) [
        | inl old ↦ let below = within_found given k (map.get before actor) (stand actor) old in omega (arith, below)
        | inr same ↦ omega (arith, same)
      ];
    })

    pub queues-first : after ≡ map.insert before actor (given ∷ queue_of before actor) → AllQueues (given + 1) after
    queues-first = queues-put (given ∷ queue_of before actor) (record {
      some = not_nil given (queue_of before actor);
      within = λ k there. elim (contains-cons given (queue_of before actor) k there) [
        | inl same ↦ omega (arith, same)
        | inr old ↦ let below = within_found given k (map.get before actor) (stand actor) old in omega (arith, below)
      ];
    })
