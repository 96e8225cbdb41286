use Rattle.std.proofs.Common.{◌≡◌, ◌++◌, get_or, sym, ap, ◌∙◌}
use Rattle.std.specs.Option.{option_copied}
use Rattle.tree_model.specs.declared.files.FileName.TheVariants.{Version}
use Rattle.tree_model.specs.Files.{file_total}
use Rattle.script_text.specs.Tree.{file_line}
use Rattle.script_text.proofs.Pieces.{entry_added, key_found}
use Rattle.script_text.proofs.tree_lines.push_files.Goals as goal
use Rattle.script_text.proofs.tree_lines.push_files.Goals.{in-Some+in_ok-push_file, in_default}

pub loop-name-preserved : goal.loop-name-preserved
loop-name-preserved c =
    let name = get_or c.names-name-items.result.now c.loop-name.name-index Version in
    let out = c.loop-name.out.items in
    elim c.match-get.branch [
      | in-Some+in_ok-push_file w ↦
          let found = ap option_copied (sym w.in-Some.is) ∙ c.get.ensures in
          let pushed : w.push_file.new.out.items ≡ out ++ file_line (name, w.as_slice.result.now) =
          w.in_ok-push_file.ensures in
          let added =
          ap (λ o. o.items) w.out-is ∙ pushed ∙ ap (λ bytes. out ++ file_line (name, bytes)) w.as_slice.ensures in
          entry_added file_total file_line c.args.dir.now c.names-name-items.result.now c.loop-name.name-index
          Version w.in-Some.bytes.now out c.match-get.out.items _
          c.names-name-items.ensures c.loop-name-test.true found c.loop-name.invariant added
      | in_default w ↦
          absurd
          (key_found file_total c.args.dir.now c.names-name-items.result.now c.loop-name.name-index Version
          c.names-name-items.ensures c.loop-name-test.true
          (ap option_copied (sym w.in_default.is) ∙ c.get.ensures))
    ]
