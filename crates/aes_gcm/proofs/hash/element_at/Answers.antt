use Rattle.std.proofs.Common.{◌≡◌, ◌*◌, ◌-◌, ◌≤◌, length, take, drop, sym, ◌∙◌, ap, rules, arith, length-drop}
use Rattle.std.proofs.lemmas.List.{take_all}
use Rattle.seal_model.specs.Gcm.{padded, polynomial_of}
use Rattle.aes_gcm.proofs.Sums.{padded-whole}
use Rattle.aes_gcm.proofs.hash.element_at.Goals as goal

pub returns-in-Some : goal.returns-in-Some
returns-in-Some c =
    let s = c.args.bytes.now in let from = 16 * c.args.index in
    let rest : take (length s - from) (drop from s) ≡ drop from s =
    take_all (length s - from) (drop from s) (omega (arith, length-drop from s)) in
    let long : length c.in-Some.block.now ≡ 16 = search rules in
    c.element_of.ensures
    ∙ ap polynomial_of (padded-whole c.in-Some.block.now long
    ∙ ap padded (c.in-Some.ensures.cases.0 ∙ ap (take 16) rest))

pub returns-in-None : goal.returns-in-None
returns-in-None c =
    let s = c.args.bytes.now in let from = 16 * c.args.index in
    let rest : take (length s - from) (drop from s) ≡ drop from s =
    take_all (length s - from) (drop from s) (omega (arith, length-drop from s)) in
    let short : length (drop from s) ≤ 16 = omega (arith, c.in-None.ensures.cases, ap length rest) in
    c.element_of-in-None.ensures
    ∙ ap polynomial_of (c.filled.ensures ∙ ap padded (rest ∙ sym (take_all 16 (drop from s) short)))
