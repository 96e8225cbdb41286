use Rattle.std.proofs.Common.{ap, sym, ◌∙◌}
use Rattle.journal_model.specs.Sealed.{key_of}
use Rattle.key_seal.proofs.Unsealed.{unsealed_key-short, unsealed_key-split}
use Rattle.key_seal.proofs.open_key.Goals as goal

pub returns-in_default : goal.returns-in_default
returns-in_default c = unsealed_key-short _ _ c.in_default.ensures.cases

pub returns-in-Some-2 : goal.returns-in-Some-2
returns-in-Some-2 c =
    let split = c.in-Some.ensures.cases in
    c.key_in.ensures ∙ ap key_of c.as_slice.ensures
    ∙ unsealed_key-split _ _ _ _ _ split.0 split.1 (sym c.in-Some-2.is ∙ c.in_ok-text.ensures.answer)

pub returns-in-None : goal.returns-in-None
returns-in-None c =
    let split = c.in-Some.ensures.cases in
    unsealed_key-split _ _ _ _ _ split.0 split.1 (sym c.in-None.is ∙ c.in_ok-text.ensures.answer)
