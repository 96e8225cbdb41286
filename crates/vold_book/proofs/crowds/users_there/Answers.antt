use Rattle.std.proofs.Common.{◌≡◌, ◌≢◌, ℕ, ◌∙◌, cond, length, get_or, refl, sym, ap, arith}
use Rattle.tree_model.specs.declared.places.Place.{Place}
use Rattle.tree_model.specs.declared.places.Place.TheVariants.{De, Ce, Temp}
use Rattle.vold_book.specs.Crowds.{user_at}
use Rattle.vold_book.proofs.CountedUsers.{flat-more}
use Rattle.vold_book.proofs.crowds.users_there.Goals as goal
use Rattle.vold_book.proofs.crowds.users_there.Goals.{in-De, in_default, then-matches, else-matches}

no-user : (place : Place) → ((user : ℕ) → place ≢ De user) → length (user_at place) ≡ 0
no-user (De user) other = absurd (other user refl)
no-user (Ce user slot) other = refl
no-user (Temp user) other = refl

pub loop-place-preserved : goal.loop-place-preserved
loop-place-preserved c =
    let items = c.places-place-items.result.now in
    let place = get_or items c.loop-place.place-index (De 0) in
    let more = flat-more user_at items c.loop-place.place-index (De 0) (omega arith) in
    let one : length (user_at place) ≡ cond c.match-matches.matches 1 0 = elim c.match-matches.branch [
      | in-De w ↦ ap (λ p. length (user_at p)) w.in-De.is ∙ sym (ap (λ b. cond b 1 0) w.matches-is)
      | in_default w ↦ no-user place w.in_default.not-De ∙ sym (ap (λ b. cond b 1 0) w.matches-is)
    ] in
    let was = c.loop-place.invariant.count in
    let bound = c.loop-place.invariant.bound in
    elim c.if-matches.branch [
      | then-matches w ↦ let now = rw w.if-matches.true at one in record {
        keys = c.loop-place.invariant.keys;
        count = omega (arith, more, now, was, w.count-is);
        bound = omega (arith, bound, w.count-is);
      }
      | else-matches w ↦ let now = rw w.if-matches.false at one in record {
        keys = c.loop-place.invariant.keys;
        count = omega (arith, more, now, was, w.count-is);
        bound = omega (arith, bound, w.count-is);
      }
    ]
