-- The machine knows whether a user's key is in the ring.
use Rattle.std.proofs.Common.{◌≡◌, ◌∙◌, refl, sym, ap, subst}
use Rattle.std.specs.Option.{option_map}
use Rattle.std.specs.Prelude.{Option, Some, None, is_some}
use Rattle.key_ring.specs.Ring.{has_owner}
use Rattle.key_ring.proofs.Owners.{found}
use Rattle.vold_book.specs.Knowing.{has_key_in}
use Rattle.vold_book.specs.State.{machine_of}
use Rattle.vold_book.proofs.book.Book.has_key.Goals as goal

is_some-map : {T U : Type 0} (f : T → U) (option : Option T) → is_some option ≡ is_some (option_map f option)
is_some-map f None = refl
is_some-map f (Some item) = refl

pub returns-in-Some : goal.returns-in-Some
returns-in-Some g c =
    let user = c.in-Some.user in
    let class = c.args.class in
    subst (λ of. c.is_some.result ≡ has_key_in (machine_of c.args.self.now).ring of class) (sym c.in-Some.is)
    (subst (λ book. c.is_some.result ≡ has_owner (machine_of book).ring user class) c.self.view_is
    (c.is_some.ensures ∙ is_some-map _ c.get.result ∙ ap is_some c.get.ensures.key
    ∙ sym (ap (λ all. has_owner all user class) c.self.invariant.ring.owned ∙ found _ user class)))
