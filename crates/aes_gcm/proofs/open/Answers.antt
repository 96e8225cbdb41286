use Rattle.std.proofs.Common.{Some, sym, ◌∙◌, ap}
use Rattle.seal_model.proofs.Sealing.{unseal_answers}
use Rattle.aes_gcm.proofs.Sealed.{opens, stays_shut}
use Rattle.aes_gcm.proofs.open.Goals as goal

pub returns-in_default-clause-answer : goal.returns-in_default-clause-answer
returns-in_default-clause-answer c =
    sym ((unseal_answers c.args.key.now c.args.nonce.now c.args.aad.now c.args.sealed.now).short
    c.in_default.ensures.cases)

pub returns-then-ne-clause-answer : goal.returns-then-ne-clause-answer
returns-then-ne-clause-answer c =
    sym (stays_shut c.args.key.now c.new-cipher.result c.args.nonce.now c.args.aad.now c.args.sealed.now
    c.in-Some.ciphertext.now c.in-Some.expected.now c.tag.result c.new-cipher.ensures c.in-Some.ensures.cases
    c.tag.ensures (sym c.ne.ensures ∙ c.if-ne.true))

pub returns-in_err-text-clause-refused : goal.returns-in_err-text-clause-refused
returns-in_err-text-clause-refused c none =
    let some = opens c.args.key.now c.new-cipher.result c.args.nonce.now c.args.aad.now c.args.sealed.now
    c.in-Some.ciphertext.now c.in-Some.expected.now c.tag.result c.new-cipher.ensures c.in-Some.ensures.cases
    c.tag.ensures (sym c.ne.ensures ∙ c.if-ne.false) in cc

pub returns-clause-answer : goal.returns-clause-answer
returns-clause-answer c =
    ap Some (c.from_vec.ensures ∙ c.in_ok-text.ensures)
    ∙ sym (opens c.args.key.now c.new-cipher.result c.args.nonce.now c.args.aad.now c.args.sealed.now
    c.in-Some.ciphertext.now c.in-Some.expected.now c.tag.result c.new-cipher.ensures c.in-Some.ensures.cases
    c.tag.ensures (sym c.ne.ensures ∙ c.if-ne.false))

pub returns-clause-refused : goal.returns-clause-refused
returns-clause-refused c none =
    let some = opens c.args.key.now c.new-cipher.result c.args.nonce.now c.args.aad.now c.args.sealed.now
    c.in-Some.ciphertext.now c.in-Some.expected.now c.tag.result c.new-cipher.ensures c.in-Some.ensures.cases
    c.tag.ensures (sym c.ne.ensures ∙ c.if-ne.false) in cc
