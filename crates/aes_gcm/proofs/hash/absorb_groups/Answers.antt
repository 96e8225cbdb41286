use Rattle.std.proofs.Common.{◌≡◌, ◌+◌, ◌*◌, map, sym, subst, arith}
use Rattle.seal_model.specs.Polynomial.{bits}
use Rattle.seal_model.specs.Gcm.{first_blocks, polynomial_of}
use Rattle.aes_gcm.specs.Hash.{Adds}
use Rattle.aes_gcm.proofs.Sums.{adds_none, adds_more}
use Rattle.aes_gcm.proofs.hash.absorb_groups.Goals as goal

pub returns-then-groups-eq0 : goal.returns-then-groups-eq0
unfolding first_blocks
returns-then-groups-eq0 c =
    let h = bits 128 c.args.h.now in let sum = bits 128 c.args.sum in
    subst (λ n. Adds h sum sum (map polynomial_of (first_blocks (8 * n) c.args.bytes.now)))
    (sym c.if-groups-eq0.true) (adds_none h sum)

pub loop-group-init : goal.loop-group-init
unfolding first_blocks
loop-group-init c = adds_none (bits 128 c.args.h.now) (bits 128 c.args.sum)

pub loop-group-preserved : goal.loop-group-preserved
loop-group-preserved c =
    let h = bits 128 c.args.h.now in let sum = bits 128 c.args.sum in let g = c.loop-group.group in
    let after = bits 128 c.absorb_eight-total.result in
    let more : 8 * g + 8 ≡ 8 * (g + 1) = omega arith in
    subst (λ n. Adds h sum after (map polynomial_of (first_blocks n c.args.bytes.now))) more
    (adds_more h sum (bits 128 c.loop-group.total) after c.args.bytes.now 8 (8 * g)
    c.loop-group.invariant c.absorb_eight-total.ensures)
