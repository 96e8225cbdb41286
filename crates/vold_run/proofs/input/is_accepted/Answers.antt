use Rattle.std.proofs.Common.{[], ◌∷◌, sym, ap, ◌∙◌}
use Rattle.std.specs.Prelude.{codes}
use Rattle.std.specs.String.{string_bytes}
use Rattle.vold_run.proofs.Words.{one_word, same_word}
use Rattle.vold_run.proofs.input.is_accepted.Goals as goal

pub returns-in-len1 : goal.returns-in-len1
returns-in-len1 c =
    let one = one_word string_bytes c.args.words.now c.word-item.result c.in-len1.len_at_least
    c.in-len1.len_below c.word-item.is in
    let bytes = c.as_bytes.ensures.value in (
      λ yes. one ∙ ap (λ word. word ∷ []) (sym bytes ∙ c.is_run.ensures.0 yes),
      λ accepted. c.is_run.ensures.1 (bytes ∙ same_word _ (codes "run") (sym one ∙ accepted)),
    )
