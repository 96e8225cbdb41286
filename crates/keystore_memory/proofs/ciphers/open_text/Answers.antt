use Rattle.std.proofs.Common.{◌≡◌, [], drop, subst}
use Rattle.std.specs.Prelude.{IfOk}
use Rattle.std.proofs.lemmas.List.{take_rest}
use Rattle.seal_model.specs.Gcm.{unseal}
use Rattle.seal_model.specs.Sealed.{unsealed}
use Rattle.keystore_memory.proofs.ciphers.open_text.Goals as goal

pub returns : goal.returns
unfolding unsealed
returns c =
    let key = c.args.key.now in
    let sealed = c.args.sealed.now in
    subst (λ nonce. IfOk c.open.result (λ text. text ≡ unseal key nonce [] (drop 12 sealed)))
    c.copy_from_slice.ensures.after
    (subst (λ rest. IfOk c.open.result (λ text. text ≡ unseal key c.copy_from_slice.new.self [] rest))
    (take_rest sealed 12) c.open.ensures.answer)
