use Rattle.std.proofs.Common.{◌++◌, ap, ◌∙◌}
use Rattle.script_text.specs.Words.{spaced}
use Rattle.script_text.specs.Shown.{shown_words}
use Rattle.script_text.proofs.Pieces.{words_added}
use Rattle.script_text.proofs.shown.push_all.Goals as goal

pub loop-shown-preserved : goal.loop-shown-preserved
loop-shown-preserved c =
    let out = c.loop-shown.out.items in
    words_added c.args.all.now c.loop-shown.shown-index c.shown-item.result out c.push_shown.new.out.items _
    c.loop-shown-test.true c.loop-shown.invariant
    (c.in_ok-push_shown.ensures ∙ ap (λ shown. out ++ spaced (shown_words shown)) c.shown-item.is)
