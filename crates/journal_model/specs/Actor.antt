-- The order of actors: the order in which the variants stand, then that of the users' numbers.
use Rattle.std.specs.Prelude.{◌≡◌, ℕ, List, [], ◌∷◌, refl}
use Rattle.std.specs.declared.cmp.Ordering.{Ordering}
use Rattle.std.specs.Ordering.{nat_cmp}
use Rattle.std.specs.Cmp.{IsTotalOrder, on_total}
use Rattle.std.specs.Cmp.Lexicographic.{slice_cmp, nat_list_cmp_total}
use Rattle.std.specs.FinMap.{IsAntisymmetric, nat_cmp-IsAntisymmetric, slice_cmp-IsAntisymmetric}
use Rattle.std.specs.Coded.{Coded, code_by, coded_ℕ, coded_list}
use Rattle.std.proofs.Common.{zero, suc, sym, ap, ◌∙◌}
use Rattle.journal_model.specs.declared.commands.Actor.{Actor}
use Rattle.journal_model.specs.declared.commands.Actor.TheVariants.{Boot, Cp, User}

-- an actor as numbers, which a list's order compares
abbrev pub actor_key : Actor → List ℕ
actor_key Boot = 0 ∷ []
actor_key Cp = 1 ∷ []
actor_key (User user) = 2 ∷ user ∷ []

abbrev pub key_actor : List ℕ → Actor
key_actor [] = Boot
key_actor (zero ∷ ns) = Boot
key_actor (suc kind ∷ []) = Cp
key_actor (suc kind ∷ user ∷ ns) = User user

pub key_actor-actor_key : (actor : Actor) → key_actor (actor_key actor) ≡ actor
key_actor-actor_key Boot = refl
key_actor-actor_key Cp = refl
key_actor-actor_key (User user) = refl

abbrev pub actor_cmp : Actor → Actor → Ordering
actor_cmp a b = slice_cmp nat_cmp (actor_key a) (actor_key b)

pub actor_total : IsTotalOrder actor_cmp
actor_total = on_total actor_key nat_list_cmp_total

-- only equal actors tie
pub actor_exact : IsAntisymmetric actor_cmp
actor_exact a b tie =
    sym (key_actor-actor_key a)
    ∙ ap key_actor (slice_cmp-IsAntisymmetric nat_cmp-IsAntisymmetric (actor_key a) (actor_key b) tie)
    ∙ key_actor-actor_key b

abbrev pub actor_code : Coded Actor
actor_code = code_by (List ℕ) (coded_list coded_ℕ) actor_key key_actor key_actor-actor_key
