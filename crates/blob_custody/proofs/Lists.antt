-- Elements of a filtered list and of a mapped one, and numbers that rise.
use Rattle.std.proofs.Common.{◌≡◌, inl, inr, Bool, true, false, cond, List, [], ◌∷◌, refl, ap, ◌∙◌, subst}
use Rattle.std.specs.Prelude.{map, Contains}
use Rattle.std.specs.List.{filter}
use Rattle.std.proofs.lemmas.List.Elements.{All-contains, All-contains_itself, All-filter, filter_passes}
use Rattle.keystore_model.proofs.Elements.{Contains-none, Contains-first, Contains-rest, Contains-cases}

-- what a filter keeps is there and passes
module _ {X : Type 0} (test : X → Bool) (xs : List X) (x : X) where
  pub filter-there : Contains (filter test xs) x → Contains xs x
  filter-there has =
      All-contains (Contains xs) (filter test xs) x (All-filter test (Contains xs) xs (All-contains_itself xs)) has

  pub filter-passes : Contains (filter test xs) x → test x ≡ true
  filter-passes has = All-contains (λ y. test y ≡ true) (filter test xs) x (filter_passes test xs) has

true-false : (test : Bool) → test ≡ true → test ≡ false → ⊥
true-false test passes fails = cc

-- it keeps what passes
pub filter-keeps : {X : Type 0} (test : X → Bool) (xs : List X) (x : X) → test x ≡ true → Contains xs x
    → Contains (filter test xs) x
filter-keeps test [] x passes has = absurd (Contains-none x has)
filter-keeps {X} test (y ∷ xs) x passes has =
    elim (test y) as (λ t. test y ≡ t → Contains (cond t (y ∷ filter test xs) (filter test xs)) x) [
      | true ↦ λ is. elim (Contains-cases y xs x has) [
        | inl same ↦ subst (λ z. Contains (y ∷ filter test xs) z) same (Contains-first y (filter test xs))
        | inr later ↦ Contains-rest y (filter test xs) x (filter-keeps test xs x passes later)
      ]
      | false ↦ λ is. elim (Contains-cases y xs x has) [
        | inl same ↦ absurd (true-false (test y) (ap test same ∙ passes) is)
        | inr later ↦ filter-keeps test xs x passes later
      ]
    ] refl

pub map-from : {X Y : Type 0} (f : X → Y) (xs : List X) (y : Y) → Contains (map f xs) y
    → (x : X) × (Contains xs x × (f x ≡ y))
map-from f [] y has = absurd (Contains-none y has)
map-from f (x ∷ xs) y has = elim (Contains-cases (f x) (map f xs) y has) [
  | inl same ↦ (x, (Contains-first x xs, same))
  | inr later ↦ let rest = map-from f xs y later in (rest.0, (Contains-rest x xs rest.0 rest.1.0, rest.1.1))
]

pub map-has : {X Y : Type 0} (f : X → Y) (xs : List X) (x : X) → Contains xs x → Contains (map f xs) (f x)
map-has f [] x has = absurd (Contains-none x has)
map-has f (first ∷ xs) x has = elim (Contains-cases first xs x has) [
  | inl same ↦ subst (λ y. Contains (f first ∷ map f xs) (f y)) same (Contains-first (f first) (map f xs))
  | inr later ↦ Contains-rest (f first) (map f xs) (f x) (map-has f xs x later)
]
