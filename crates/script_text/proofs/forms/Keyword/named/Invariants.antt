-- No keyword so far has the text.
use Rattle.std.proofs.Common.{◌≢◌, ℕ, ◌<◌, get_or}
use Rattle.script_text.specs.declared.forms.Keyword.TheVariants.{Seed}
use Rattle.script_text.specs.Forms.{word_of}
use Rattle.script_text.proofs.forms.Keyword.named.Given as goal

abbrev pub invariant-loop-keyword : goal.invariant-loop-keyword
invariant-loop-keyword l = (k : ℕ) → k < l.keyword-index → l.text ≢ word_of (get_or l.keyword-items k Seed)
