use Rattle.std.proofs.Common.{inr, ap, ◌≡◌, ◌≢◌, ◌∙◌, rules}
use Rattle.std.specs.Prelude.{Some}
use Rattle.tree_model.specs.declared.files.FileName.TheVariants.{Version}
use Rattle.tree_model.specs.Held.{held_in}
use Rattle.key_directory.specs.declared.shapes.ShapeFault.TheVariants.{OtherVersion}
use Rattle.key_directory.specs.Shape.{version_bytes}
use Rattle.key_directory.proofs.Tested.{other-version}
use Rattle.key_directory.proofs.shapes.check_version.Goals as goal

pub returns : goal.returns
returns c =
    let held = held_in c.args.dir.now Version in
    let there : held ≡ Some c.in-Some.version.now = search rules in
    let differ : c.in-Some.version.now ≢ version_bytes = search rules in
    let copied : c.in-Some.version.now ≡ c.in_ok-copy.copy = search rules in
    inr (other-version held c.in-Some.version.now there differ ∙ ap (λ bytes. Some (OtherVersion bytes)) copied)
