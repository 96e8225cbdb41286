-- Elements of a list with one more in front.
use Rattle.std.proofs.Common.{◌≡◌, ◌⊎◌, inl, inr, List, [], ◌∷◌, arith}
use Rattle.std.specs.Prelude.{Contains}
use Rattle.std.proofs.lemmas.List.Elements.{Contains-push, Contains-push_cases}
use Rattle.std.proofs.lemmas.List.Elements.{Contains-append_left, Contains-append_right, Contains-append_cases}

pub Contains-none : {X : Type 0} (x : X) → ¬ (Contains [] x)
Contains-none x has = absurd (omega (arith, has.1))

pub Contains-first : {X : Type 0} (x : X) (xs : List X) → Contains (x ∷ xs) x
Contains-first x xs = Contains-append_left (x ∷ []) xs x (Contains-push [] x)

pub Contains-rest : {X : Type 0} (y : X) (xs : List X) (x : X) → Contains xs x → Contains (y ∷ xs) x
Contains-rest y xs x has = Contains-append_right (y ∷ []) xs x has

pub Contains-cases : {X : Type 0} (y : X) (xs : List X) (x : X) → Contains (y ∷ xs) x → (y ≡ x) ⊎ Contains xs x
Contains-cases y xs x has = elim (Contains-append_cases (y ∷ []) xs x has) [
  | inl one ↦ elim (Contains-push_cases [] y x one) [ inl none ↦ absurd (Contains-none x none) | inr same ↦ inl same ]
  | inr rest ↦ inr rest
]
