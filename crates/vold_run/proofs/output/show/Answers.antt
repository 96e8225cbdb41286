use Rattle.std.proofs.Common.{rules, ◌≡◌, ◌++◌, ap, ◌∙◌}
use Rattle.std.proofs.lemmas.Result.{IfOk-weaker}
use Rattle.script_text.specs.Journal.{journal_text}
use Rattle.vold_book.specs.State.{senses}
use Rattle.vold_run.proofs.Devices.{shows-all}
use Rattle.vold_run.proofs.output.show.Goals as goal

pub returns-clause-shown : goal.returns-clause-shown
returns-clause-shown g c =
    let seeing =
    senses g.T.TreeDisk.disk g.T.TreeDisk.counts g.B.Keystore.store g.B.Keystore.counts g.G.KeyRing.ring
    g.G.KeyRing.counts in
    let before = c.args.book.now in
    let journal : c.as_slice-2.result.now ≡ journal_text before.ledger.entries = search rules in
    let devices : c.as_slice-3.result.now ≡ c.in_ok-devices.devices = search rules in
    IfOk-weaker c.joined.result _ _ (λ text is.
    shows-all seeing before c.devices_text.new.book c.devices_text.ensures.looked text c.in_ok-devices.devices
    (is ∙ ap (λ first. first ++ c.as_slice-3.result.now) journal
    ∙ ap (λ second. journal_text before.ledger.entries ++ second) devices) c.in_ok-devices.ensures.shown)
    c.joined.ensures
