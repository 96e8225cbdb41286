use Rattle.std.proofs.Common.{◌≡◌, Bool, true, false, not, refl, sym, ap, ◌∙◌, arith}
use Rattle.std.specs.Bool.{Decides}
use Rattle.std.proofs.lemmas.Bool.Decides.{Decides-not}
use Rattle.std.proofs.lemmas.Slice.Eq.{bytes_eq-Decides}
use Rattle.keystore_model.specs.Sealed.{text_or}
use Rattle.keystore_model.proofs.Opened.{answer-unbound, answer-below, answer-current}
use Rattle.keystore_memory.proofs.ciphers.entry_answer.Goals as goal

-- what a test that says it isn't so, and that fails, shows
not-not : {P : Type 0} (test : Bool) → Decides test P → not test ≡ false → P
not-not true decides fails = decides.0 refl
not-not false decides fails = cc

pub returns-then-ne : goal.returns-then-ne
returns-then-ne c = sym (answer-unbound c.args.level c.args.app_id.now c.args.sealed.now c.args.entry.now (λ same.
    (Decides-not _ (bytes_eq-Decides c.args.app_id.now c.as_slice.result.now)).0 (sym c.ne.ensures ∙ c.if-ne.true)
    (same ∙ sym c.as_slice.ensures)))

pub returns-then-entry-level-2 : goal.returns-then-entry-level-2
returns-then-entry-level-2 c =
    let same = not-not _ (bytes_eq-Decides c.args.app_id.now c.as_slice.result.now) (sym c.ne.ensures ∙ c.if-ne.false)
    ∙ c.as_slice.ensures in
    sym (answer-below c.args.level c.args.app_id.now c.args.sealed.now c.args.entry.now same c.if-entry-level-2.true)

pub returns : goal.returns
returns c =
    let same = not-not _ (bytes_eq-Decides c.args.app_id.now c.as_slice.result.now) (sym c.ne.ensures ∙ c.if-ne.false)
    ∙ c.as_slice.ensures in
    let current : c.args.entry.now.level ≡ c.args.level =
    omega (arith, c.if-entry-level.false, c.if-entry-level-2.false) in
    c.text_or.ensures ∙ ap text_or c.in_ok-open_text.ensures
    ∙ sym (answer-current c.args.level c.args.app_id.now c.args.sealed.now c.args.entry.now same current)
