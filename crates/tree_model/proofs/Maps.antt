-- Finite maps whose order ties equal keys alone: look-ups after an insertion or a removal, and edits that undo or
-- leave out.
use Rattle.std.proofs.Common.{◌≡◌, ◌≢◌, true, false, cond, refl, sym, ap, ◌∙◌, subst, inl, inr, ◌⊎◌}
use Rattle.std.specs.Prelude.{Some, None}
use Rattle.std.specs.declared.cmp.Ordering.{Ordering}
use Rattle.std.specs.Ordering.{eq_by_cmp}
use Rattle.std.specs.Cmp.{IsTotalOrder, eq_by_cmp_equiv}
use Rattle.std.specs.FinMap as map
use Rattle.std.specs.FinMap.{IsAntisymmetric}
use Rattle.tree_model.proofs.Logic.{is_equal}

module _ {K : Type 0} {R : K → K → Ordering} (total : IsTotalOrder R) (exact : IsAntisymmetric R) where
  pub tied : (a b : K) → a ≡ b → eq_by_cmp R a b ≡ true
  tied a b e = subst (λ c. eq_by_cmp R a c ≡ true) e ((eq_by_cmp_equiv total).refl a)

  pub apart : (a b : K) → a ≢ b → eq_by_cmp R a b ≡ false
  apart a b differ = elim (eq_by_cmp R a b) as (λ t. eq_by_cmp R a b ≡ t → t ≡ false) [
    | true ↦ λ e. absurd (differ (exact a b (is_equal (R a b) e)))
    | false ↦ λ e. refl
  ] refl

  pub decide_key : (a b : K) → (a ≡ b) ⊎ (a ≢ b)
  decide_key a b = elim (eq_by_cmp R a b) as (λ t. eq_by_cmp R a b ≡ t → (a ≡ b) ⊎ (a ≢ b)) [
    | true ↦ λ e. inl (exact a b (is_equal (R a b) e))
    | false ↦ λ e. inr (λ same. subst (λ b. cond b ⊥ (Unit {0})) (sym e ∙ tied a b same) tt)
  ] refl

  module _ {X : Type 0} where
    pub get-insert_same : (m : map.FinMap R X) (k : K) (v : X) → map.get (map.insert m k v) k ≡ Some v
    get-insert_same m k v = map.get-insert total m k v k ∙ ap (λ t. cond t (Some v) (map.get m k)) (tied k k refl)

    pub get-insert_other : (m : map.FinMap R X) (k : K) (v : X) (q : K) → q ≢ k
        → map.get (map.insert m k v) q ≡ map.get m q
    get-insert_other m k v q differ =
        map.get-insert total m k v q ∙ ap (λ t. cond t (Some v) (map.get m q)) (apart q k differ)

    pub get-remove_same : (m : map.FinMap R X) (k : K) → map.get (map.remove m k) k ≡ None
    get-remove_same m k = map.get-remove total m k k ∙ ap (λ t. cond t None (map.get m k)) (tied k k refl)

    pub get-remove_other : (m : map.FinMap R X) (k q : K) → q ≢ k → map.get (map.remove m k) q ≡ map.get m q
    get-remove_other m k q differ = map.get-remove total m k q ∙ ap (λ t. cond t None (map.get m q)) (apart q k differ)

    -- two maps are equal where they answer alike at one key and at all others
    pub same_at : (k : K) (m n : map.FinMap R X) → map.get m k ≡ map.get n k
        → ((q : K) → q ≢ k → map.get m q ≡ map.get n q) → m ≡ n
    same_at k m n here others = map.same_map total exact m n (λ q. elim (decide_key q k) [
      | inl same ↦ subst (λ p. map.get m p ≡ map.get n p) (sym same) here
      | inr differ ↦ others q differ
    ])

    pub remove_absent : (m : map.FinMap R X) (k : K) → map.get m k ≡ None → map.remove m k ≡ m
    remove_absent m k none = same_at k _ _ (get-remove_same m k ∙ sym none) (λ q differ. get-remove_other m k q differ)

    pub insert-remove : (m : map.FinMap R X) (k : K) (v : X) → map.insert (map.remove m k) k v ≡ map.insert m k v
    insert-remove m k v = same_at k _ _ (get-insert_same (map.remove m k) k v ∙ sym (get-insert_same m k v))
        (λ q differ. get-insert_other (map.remove m k) k v q differ ∙ get-remove_other m k q differ
        ∙ sym (get-insert_other m k v q differ))

    pub insert_present : (m : map.FinMap R X) (k : K) (v : X) → map.get m k ≡ Some v → map.insert m k v ≡ m
    insert_present m k v there =
        same_at k _ _ (get-insert_same m k v ∙ sym there) (λ q differ. get-insert_other m k v q differ)

    pub remove-insert : (m : map.FinMap R X) (k : K) (v : X) → map.remove (map.insert m k v) k ≡ map.remove m k
    remove-insert m k v = same_at k _ _ (get-remove_same (map.insert m k v) k ∙ sym (get-remove_same m k))
        (λ q differ. get-remove_other (map.insert m k v) k q differ ∙ get-insert_other m k v q differ
        ∙ sym (get-remove_other m k q differ))
