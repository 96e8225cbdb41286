-- What a sealed key opens to, from its nonce and what follows it.
use Rattle.std.proofs.Common.{◌≡◌, ℕ, ◌<◌, List, [], length, take, drop, sym, ap, ◌∙◌, arith, length-drop}
use Rattle.std.specs.Prelude.{Option, None, option_and_then}
use Rattle.seal_model.specs.Gcm.{unseal}
use Rattle.seal_model.proofs.Sealing.{unseal-short}
use Rattle.seal_model.specs.Sealed.{unsealed}
use Rattle.journal_model.specs.Sealed.{key_of, unsealed_key}

-- what has no whole nonce opens to nothing
pub unsealed_key-short : (wrap sealed : List ℕ) → length sealed < 12 → None ≡ unsealed_key wrap sealed
unfolding unsealed
unsealed_key-short wrap sealed short =
    sym (ap (option_and_then key_of)
    (unseal-short wrap (take 12 sealed) [] (drop 12 sealed) (omega (arith, length-drop 12 sealed))))

-- otherwise to what GCM opens the rest to
pub unsealed_key-split : (wrap sealed nonce rest : List ℕ) (opened : Option (List ℕ))
    → nonce ≡ take 12 sealed → rest ≡ drop 12 sealed → opened ≡ unseal wrap nonce [] rest
    → option_and_then key_of opened ≡ unsealed_key wrap sealed
unfolding unsealed
unsealed_key-split wrap sealed nonce rest opened nonce_is rest_is is =
    ap (option_and_then key_of) (is ∙ (λ i. unseal wrap (nonce_is i) [] (rest_is i)))
