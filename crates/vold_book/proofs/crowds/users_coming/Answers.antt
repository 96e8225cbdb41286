use Rattle.std.proofs.Common.{◌∙◌, length, ap, sym, arith}
use Rattle.vold_book.specs.Crowds.{coming_of}
use Rattle.vold_book.proofs.CountedUsers.{flat-more}
use Rattle.vold_book.proofs.crowds.users_coming.Goals as goal
use Rattle.vold_book.proofs.crowds.users_coming.Goals.{then-is_coming, else-is_coming}

pub loop-it-preserved : goal.loop-it-preserved
loop-it-preserved c =
    let items = c.works-it-items.result.now in
    let f = coming_of c.args.table.now.places c.args.docket.now.commands in
    let more = flat-more f items c.loop-it.it-index c.it-item.result (omega arith) in
    let one = sym (ap (λ it. length (f it)) c.it-item.is) ∙ c.is_coming.ensures in
    let was = c.loop-it.invariant.count in
    let bound = c.loop-it.invariant.bound in
    elim c.if-is_coming.branch [
      | then-is_coming w ↦ let now = rw w.if-is_coming.true at one in record {
        works = c.loop-it.invariant.works;
        count = omega (arith, more, now, was, w.count-is);
        bound = omega (arith, bound, w.count-is);
      }
      | else-is_coming w ↦ let now = rw w.if-is_coming.false at one in record {
        works = c.loop-it.invariant.works;
        count = omega (arith, more, now, was, w.count-is);
        bound = omega (arith, bound, w.count-is);
      }
    ]
