-- Small facts on tests, orderings and options.
use Rattle.std.proofs.Common.{◌≡◌, Bool, true, false, T, ◌&&◌, refl}
use Rattle.std.specs.Prelude.{Option, Some, None, is_some}
use Rattle.std.specs.declared.cmp.Ordering.{Ordering}
use Rattle.std.specs.declared.cmp.Ordering.TheVariants.{Less, Equal, Greater}
use Rattle.std.specs.Ordering.{is_lt, is_eq}

-- a test that holds is `true`; std's `T_from_true` is the way back
pub true_from_T : (test : Bool) → T test → test ≡ true
true_from_T true holds = refl
true_from_T false holds = absurd holds

-- two tests hold where both do, and each holds where the two do
pub T_both : (first second : Bool) → T first → T second → T (first && second)
T_both true second p q = q
T_both false second p q = p

pub T_first : (first second : Bool) → T (first && second) → T first
T_first true second both = tt
T_first false second both = both

pub T_second : (first second : Bool) → T (first && second) → T second
T_second true second both = both
T_second false second both = absurd both

pub is_less : (order : Ordering) → is_lt order ≡ true → order ≡ Less
is_less Less e = refl
is_less Equal e = cc
is_less Greater e = cc

pub is_equal : (order : Ordering) → is_eq order ≡ true → order ≡ Equal
is_equal Less e = cc
is_equal Equal e = refl
is_equal Greater e = cc

pub T_less : (order : Ordering) → T (is_lt order) → order ≡ Less
T_less order holds = is_less order (true_from_T _ holds)

pub is_none : {X : Type 0} (found : Option X) → is_some found ≡ false → found ≡ None
is_none None e = refl
is_none (Some x) e = cc
