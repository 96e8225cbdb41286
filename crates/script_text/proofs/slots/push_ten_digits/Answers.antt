use Rattle.std.proofs.Common.{◌≡◌, ◌∙◌}
use Rattle.std.proofs.lemmas.Result.{on_ok_weaker}
use Rattle.script_text.specs.Words.{decimal}
use Rattle.script_text.proofs.Pieces.{padded}
use Rattle.script_text.proofs.slots.push_ten_digits.Goals as goal

pub returns : goal.returns
returns c =
    let digits : c.as_bytes-digits.result.now ≡ decimal c.args.number =
    c.as_bytes-digits.ensures.value ∙ c.in_ok-text.ensures.ok in
    rw (← digits) (on_ok_weaker c.push_text-2.result
    (padded c.as_bytes-digits.result.now c.args.out.now.items c.push_text.new.out.items c.push_text-2.new.out.items
    c.in_ok-push_text.ensures)
    c.push_text-2.ensures)
