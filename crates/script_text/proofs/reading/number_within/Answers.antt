use Rattle.std.proofs.Common.{rules, ◌<◌, ◌^◌, arith}
use Rattle.script_text.proofs.Values.{out-of-range}
use Rattle.script_text.proofs.reading.number_within.Goals as goal

pub returns-then-number-least : goal.returns-then-number-least
returns-then-number-least c =
    let small : c.in_ok-number.number < 2 ^ 32 = search rules in
    out-of-range c.args.least c.args.most c.args.word.now c.in_ok-number.number small c.in_ok-number.ensures
    (λ low high. omega (arith, low, high, c.then-number-least.either))
