use Rattle.std.proofs.Common.{rules, ◌≡◌, ◌++◌, length, vec_len, sym, ap, ◌∙◌}
use Rattle.std.specs.Option.{option_copied}
use Rattle.script_text.specs.Words.{fill_words}
use Rattle.script_text.specs.Reading.{words_after}
use Rattle.script_text.proofs.Values.{too_many, strange_word}
use Rattle.script_text.proofs.fills.fills_of.Goals as goal

pub returns-then-len-eq-MOST_FILLS : goal.returns-then-len-eq-MOST_FILLS
returns-then-len-eq-MOST_FILLS c =
    let count : vec_len c.loop-rest.fills ≡ length c.loop-rest.fills.items = search rules in
    too_many _ c.loop-rest.fills.items c.in-Some.text.now
    (c.loop-rest.invariant.read
    ∙ ap (λ rest. fill_words c.loop-rest.fills.items ++ words_after (option_copied rest)) c.in-Some.is)
    (sym count ∙ sym c.len.ensures ∙ c.if-len-eq-MOST_FILLS.true)

pub returns-in_default-2 : goal.returns-in_default-2
returns-in_default-2 c =
    let none = rw c.in_default-2.is at c.in_ok-fill.ensures in
    strange_word _ _ _ c.loop-rest.fills.items c.first_word.result.0.now c.loop-rest.invariant.read
    (ap (λ rest. words_after (option_copied rest)) c.in-Some.is ∙ c.first_word.ensures) none
