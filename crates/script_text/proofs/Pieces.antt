-- Texts that a loop adds piece by piece, and the entries of a finite map that a loop over its keys meets.
use Rattle.std.proofs.Common.{◌≡◌, ℕ, zero, suc, ◌+◌, ◌<◌, cond, T, ◌-◌, List, []}
use Rattle.std.proofs.Common.{◌∷◌, ◌++◌, length, get_or, take, drop, replicate, map, refl, sym, ap, subst, ◌∙◌}
use Rattle.std.proofs.Common.{arith}
use Rattle.std.specs.Prelude.{Some, None}
use Rattle.std.specs.List.{flat_map}
use Rattle.std.specs.declared.cmp.Ordering.{Ordering}
use Rattle.std.specs.declared.cmp.Ordering.TheVariants.{Less}
use Rattle.std.specs.Ordering.{is_lt, is_eq, ordering_reverse}
use Rattle.std.specs.Cmp.{IsTotalOrder, eq_by_cmp_equiv}
use Rattle.std.specs.FinMap as finite
use Rattle.std.specs.FinMap.{find, is_sorted}
use Rattle.std.specs.FinMap.Entries.{below_all}
use Rattle.tree_model.proofs.Logic.{T_first, T_second, T_less}
use Rattle.script_text.specs.declared.shown.Shown.{Shown}
use Rattle.script_text.specs.Words.{spaced}
use Rattle.script_text.specs.Shown.{shown_words, all_words}
use Rattle.std.proofs.lemmas.Option.{none-some, same_Some}
use Rattle.std.proofs.lemmas.List.{append_assoc, drop_more, get_or-map, length-map}
use Rattle.std.proofs.lemmas.List.{drop-replicate, take_all, length-replicate}

module _ {X : Type 0} (f : X → List ℕ) (xs : List X) (i : ℕ) where
  -- one more piece is added
  pub piece_added : (d : X) (out out' all : List ℕ) → i < length xs → out ++ flat_map f (drop i xs) ≡ all
      → out' ≡ out ++ f (get_or xs i d) → out' ++ flat_map f (drop (i + 1) xs) ≡ all
  piece_added d out out' all within before added =
      ap (λ o. o ++ flat_map f (drop (i + 1) xs)) added
      ∙ append_assoc out (f (get_or xs i d)) (flat_map f (drop (i + 1) xs))
      ∙ ap (λ rest. out ++ flat_map f rest) (sym (drop_more xs i d within))
      ∙ before

spaced-append : (words more : List (List ℕ)) → spaced (words ++ more) ≡ spaced words ++ spaced more
spaced-append [] more = refl
spaced-append (word ∷ words) more =
    ap (λ rest. 32 ∷ (word ++ rest)) (spaced-append words more)
    ∙ ap (λ rest. 32 ∷ rest) (sym (append_assoc word (spaced words) (spaced more)))

module _ (shown : List Shown) (i : ℕ) where
  -- the words of one more that is shown are added
  pub words_added : (d : Shown) (out out' all : List ℕ) → i < length shown
      → out ++ spaced (all_words (drop i shown)) ≡ all → out' ≡ out ++ spaced (shown_words (get_or shown i d))
      → out' ++ spaced (all_words (drop (i + 1) shown)) ≡ all
  words_added d out out' all within before added =
      let words = shown_words (get_or shown i d) in
      let rest = all_words (drop (i + 1) shown) in
      ap (λ o. o ++ spaced rest) added
      ∙ append_assoc out (spaced words) (spaced rest)
      ∙ ap (λ text. out ++ text) (sym (spaced-append words rest))
      ∙ ap (λ xs. out ++ spaced (all_words xs)) (sym (drop_more shown i d within))
      ∙ before

-- a word of digits behind as many zeros as ten leave
pub padded : (digits old zeros new : List ℕ)
    → zeros ≡ old ++ take (10 - length digits) (drop (length digits) (replicate 10 48)) → new ≡ zeros ++ digits
    → new ≡ old ++ (replicate (10 - length digits) 48 ++ digits)
padded digits old zeros new filled added =
    added
    ∙ ap (λ z. z ++ digits)
    (filled
    ∙ ap (λ z. old ++ z)
    (ap (take (10 - length digits)) (drop-replicate (length digits) 10 48)
    ∙ take_all (10 - length digits) (replicate (10 - length digits) 48)
    (omega (arith, length-replicate {A = ℕ} (10 - length digits) 48))))
    ∙ append_assoc old (replicate (10 - length digits) 48) digits

module _ {K X : Type 0} {R : K → K → Ordering} (total : IsTotalOrder R) where
  above : (k : K) (es : List (K × X)) (i : ℕ) (d : K × X) → T (below_all R k es) → i < length es
      → R k (get_or es i d).0 ≡ Less
  above k [] i d below within = absurd (omega arith)
  above k (e ∷ es) zero d below within = T_less (R k e.0) (T_first (is_lt (R k e.0)) (below_all R k es) below)
  above k (e ∷ es) (suc i) d below within =
      above k es i d (T_second (is_lt (R k e.0)) (below_all R k es) below) (omega arith)

  -- in order, each key finds its own value
  pub find-at : (es : List (K × X)) (i : ℕ) (d : K × X) → T (is_sorted R es) → i < length es
      → find R (get_or es i d).0 es ≡ Some (get_or es i d).1
  find-at [] i d sorted within = absurd (omega arith)
  find-at (e ∷ es) zero d sorted within =
      ap (λ t. cond t (Some e.1) (find R e.0 es)) ((eq_by_cmp_equiv total).refl e.0)
  find-at (e ∷ es) (suc i) d sorted within =
      let q = (get_or es i d).0 in
      let less = above e.0 es i d (T_first (below_all R e.0 es) (is_sorted R es) sorted) (omega arith) in
      ap (λ o. cond (is_eq o) (Some e.1) (find R q es)) (total.antisymm q e.0 ∙ ap ordering_reverse less)
      ∙ find-at es i d (T_second (below_all R e.0 es) (is_sorted R es) sorted) (omega arith)

  -- the i-th key of a finite map and what the map has there are its i-th entry
  pub entry-at : (m : finite.FinMap R X) (keys : List K) (i : ℕ) (k : K) (x : X) → keys ≡ finite.keys m
      → i < length keys → Some x ≡ finite.get m (get_or keys i k)
      → (get_or keys i k, x) ≡ get_or (finite.entries m) i (k, x)
  entry-at m keys i k x listed within found =
      let es = finite.entries m in
      let many : i < length es = subst (λ n. i < n) (ap length listed ∙ length-map es (λ e. e.0)) within in
      let key : get_or keys i k ≡ (get_or es i (k, x)).0 =
      ap (λ ks. get_or ks i k) listed ∙ get_or-map (λ (e : K × X). e.0) es i (k, x) k many in
      let value =
      same_Some x (get_or es i (k, x)).1
      (found ∙ finite.get-entries m (get_or keys i k) ∙ ap (λ q. find R q es) key
      ∙ find-at es i (k, x) (finite.entries_sorted m) many) in
      λ j. (key j, value j)

  module _ (f : K × X → List ℕ) (m : finite.FinMap R X) (keys : List K) (i : ℕ) (k : K) (x : X) where
    -- what the map has at its next key is added
    pub entry_added : (out out' all : List ℕ) → keys ≡ finite.keys m → i < length keys
        → Some x ≡ finite.get m (get_or keys i k) → out ++ flat_map f (drop i (finite.entries m)) ≡ all
        → out' ≡ out ++ f (get_or keys i k, x) → out' ++ flat_map f (drop (i + 1) (finite.entries m)) ≡ all
    entry_added out out' all listed within found before added =
        let many : i < length (finite.entries m) =
        subst (λ n. i < n) (ap length listed ∙ length-map (finite.entries m) (λ e. e.0)) within in
        piece_added f (finite.entries m) i (k, x) out out' all many before
        (added ∙ ap (λ e. out ++ f e) (entry-at m keys i k x listed within found))

  missing : (es : List (K × X)) (i : ℕ) → T (is_sorted R es) → i < length es → (k : K)
      → None ≡ find R (get_or (map (λ e. e.0) es) i k) es → ⊥
  missing [] i sorted within k missed = absurd (omega arith)
  missing (e ∷ es) i sorted within k missed =
      none-some (get_or (e ∷ es) i (k, e.1)).1
      (missed ∙ ap (λ q. find R q (e ∷ es)) (get_or-map (λ (e : K × X). e.0) (e ∷ es) i (k, e.1) k within)
      ∙ find-at (e ∷ es) i (k, e.1) sorted within)

  -- a map has something at each of its keys
  pub key_found : (m : finite.FinMap R X) (keys : List K) (i : ℕ) (k : K) → keys ≡ finite.keys m → i < length keys
      → None ≡ finite.get m (get_or keys i k) → ⊥
  key_found m keys i k listed within missed =
      let es = finite.entries m in
      let many : i < length es = subst (λ n. i < n) (ap length listed ∙ length-map es (λ e. e.0)) within in
      missing es i (finite.entries_sorted m) many k
      (missed ∙ finite.get-entries m (get_or keys i k) ∙ ap (λ ks. find R (get_or ks i k) es) listed)
