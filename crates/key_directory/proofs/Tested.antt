-- What the tests of a directory's shape answer.
use Rattle.std.proofs.Common.{◌≡◌, ◌≢◌, not, ap, ◌∙◌}
use Rattle.std.specs.Prelude.{ℕ, List, Option, Some}
use Rattle.tree_model.specs.Blobs.{blob_total, blob_exact}
use Rattle.tree_model.proofs.Maps.{apart}
use Rattle.key_directory.specs.declared.shapes.ShapeFault.TheVariants.{OtherVersion}
use Rattle.key_directory.specs.Shape.{version_bytes, fault_if, version_fault}

pub other-version : (held : Option (List ℕ)) (bytes : List ℕ) → held ≡ Some bytes → bytes ≢ version_bytes
    → version_fault held ≡ Some (OtherVersion bytes)
other-version held bytes is differ =
    ap version_fault is
    ∙ ap (λ same. fault_if (not same) (OtherVersion bytes)) (apart blob_total blob_exact bytes version_bytes differ)
