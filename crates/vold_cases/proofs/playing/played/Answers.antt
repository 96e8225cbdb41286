use Rattle.std.proofs.Common.{◌≡◌, [], ◌++◌, ap, subst, ◌∙◌}
use Rattle.std.specs.Prelude.{Some, IsSomeAnd, string_bytes}
use Rattle.std.proofs.lemmas.Result.{IfOk-weaker}
use Rattle.script_text.specs.Status.{message_of}
use Rattle.vold_cases.specs.Played.{report_of, Devices, IsPlannedRing, IsPlannedStore, IsPlannedTree, ShowsRun}
use Rattle.vold_cases.proofs.playing.played.Goals as goal

pub returns : goal.returns
returns c =
    let one = c.args.case.now in
    let tree = c.in_ok-tree.tree in
    let store = c.in_ok-store.store in
    let ring = c.in_ok-ring.ring in
    let devices : Devices = record { tree = tree; store = store; ring = ring } in
    let status = c.run-end.result.status in
    let book = c.run-end.result.book in
    let left = c.run-end.new.source.rest in
    let written = c.run-end.new.sink.taken in
    let script : c.new-source.result.rest ≡ string_bytes one.script = ap (λ s. s.rest) c.new-source.ensures ∙
    c.in_ok-script.ensures ∙ c.as_bytes.ensures.value in
    let none : c.new-sink.result.taken ≡ [] = ap (λ s. s.taken) c.new-sink.ensures in
    let shown : c.as_slice-5.result.now ≡ written = c.as_slice-5.ensures in
    IfOk-weaker c.report.result _ _ (λ text is. record {
      devices = devices;
      planned = record {
        tree = subst (λ faults. IsPlannedTree faults tree) c.as_slice.ensures.value c.in_ok-tree.ensures;
        store = subst (λ faults. IsPlannedStore faults store) c.as_slice-2.ensures.value c.in_ok-store.ensures;
        ring = subst (λ faults. IsPlannedRing faults ring) c.as_slice-3.ensures.value c.in_ok-ring.ensures;
      };
      status = status;
      written = written;
      book = book;
      left = Some left;
      done = λ ended.
          subst (λ rest. IsSomeAnd book (ShowsRun devices rest (Some left) [] written)) script
          (subst (λ taken. IsSomeAnd book
          (ShowsRun devices c.new-source.result.rest (Some left) taken written)) none
          (c.run-end.ensures.done ended));
      message = λ has.
          let told : Some written ≡ Some ([] ++ message_of status) = subst
          (λ taken. Some written ≡ Some (taken ++ message_of status)) none
          (c.run-end.ensures.message has).0 in cc;
      report = is ∙ ap (λ name. report_of name c.as_slice-5.result.now c.number.result) c.as_str.ensures.value ∙ ap
          (λ w. report_of (string_bytes one.name) w c.number.result) shown ∙ ap
          (report_of (string_bytes one.name) written) c.number.ensures;
    }) c.report.ensures
