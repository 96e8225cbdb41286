-- The shape of a sealed directory: the tests that its files have to pass, in their order, and what it is then.
use Rattle.std.specs.Prelude.{◌≡◌, ◌⊎◌, ℕ, ◌==◌, ◌&&◌, not, Bool, true, false, cond, List, [], ◌∷◌, length, Option}
use Rattle.std.specs.Prelude.{Some, None, Result, Ok, Err}
use Rattle.std.specs.Ordering.{eq_by_cmp}
use Rattle.tree_model.specs.declared.files.FileName.{FileName}
use Rattle.tree_model.specs.declared.files.FileName.TheVariants.{Version, EncryptedKey, Blob, BlobUpgraded, BlobNew}
use Rattle.tree_model.specs.declared.files.FileName.TheVariants.{Discard, Stretching, Salt}
use Rattle.tree_model.specs.Blobs.{blob_cmp}
use Rattle.tree_model.specs.Held.{Held, has_file, blob_in}
use Rattle.key_directory.specs.declared.shapes.DirShape.{DirShape}
use Rattle.key_directory.specs.declared.shapes.DirShape.TheVariants.{Bound, Secret}
use Rattle.key_directory.specs.declared.shapes.ShapeFault.{ShapeFault}
use Rattle.key_directory.specs.declared.shapes.ShapeFault.TheVariants.{NoVersion, OtherVersion, Missing}
use Rattle.key_directory.specs.declared.shapes.ShapeFault.TheVariants.{Length, Extra, NoMemory}

-- what a file of the version holds: the one byte `1`
abbrev pub version_bytes : List ℕ
version_bytes = 49 ∷ []

abbrev pub fault_if : Bool → ShapeFault → Option ShapeFault
fault_if true fault = Some fault
fault_if false fault = None

abbrev pub version_fault : Option (List ℕ) → Option ShapeFault
version_fault None = Some NoVersion
version_fault (Some bytes) = fault_if (not (eq_by_cmp blob_cmp bytes version_bytes)) (OtherVersion bytes)

abbrev pub missing : Held → FileName → Option ShapeFault
missing held file = fault_if (not (has_file held file)) (Missing file)

abbrev pub length_fault : FileName → ℕ → Option (List ℕ) → Option ShapeFault
length_fault file count None = None
length_fault file count (Some bytes) = fault_if (not (length bytes == count)) (Length file (length bytes))

abbrev pub extra : Held → FileName → Option ShapeFault
extra held file = fault_if (has_file held file) (Extra file)

-- there without a blob
abbrev pub unbound : Held → FileName → Option ShapeFault
unbound held file = fault_if (not (has_file held Blob) && has_file held file) (Extra file)

-- the tests in their order
abbrev pub tests : Held → List (Option ShapeFault)
tests held =
    version_fault (held Version) ∷ missing held EncryptedKey ∷ missing held Discard
    ∷ length_fault EncryptedKey 92 (held EncryptedKey) ∷ length_fault Discard 16384 (held Discard)
    ∷ length_fault Blob 32 (held Blob) ∷ length_fault BlobUpgraded 32 (held BlobUpgraded)
    ∷ unbound held BlobUpgraded ∷ unbound held BlobNew ∷ extra held Stretching ∷ extra held Salt ∷ []

abbrev pub or_first : Option ShapeFault → Option ShapeFault → Option ShapeFault
or_first None rest = rest
or_first (Some fault) rest = Some fault

abbrev pub first_fault : List (Option ShapeFault) → Option ShapeFault
first_fault [] = None
first_fault (test ∷ tests) = or_first test (first_fault tests)

-- bound to a keystore's entry where it has a blob, and else sealed by a secret alone
abbrev pub form : Option (List ℕ) → Bool → Bool → DirShape
form None upgraded has_new = Secret
form (Some blob) upgraded has_new = Bound blob upgraded has_new

abbrev pub form_of : Held → DirShape
form_of held = form (blob_in held) (has_file held BlobUpgraded) (has_file held BlobNew)

abbrev pub shape_unless : Option ShapeFault → DirShape → Result DirShape ShapeFault
shape_unless None shape = Ok shape
shape_unless (Some fault) shape = Err fault

-- the first test that fails, or the shape
abbrev pub shape_of : Held → Result DirShape ShapeFault
shape_of held = shape_unless (first_fault (tests held)) (form_of held)

-- the answer is exact but for want of memory
abbrev pub IsShapeOf : Held → Result DirShape ShapeFault → Type 0
IsShapeOf held answer = (answer ≡ Err NoMemory) ⊎ (answer ≡ shape_of held)

-- the answer of one test
abbrev pub IsTested : Option ShapeFault → Result (Unit {0}) ShapeFault → Type 0
IsTested test (Ok passed) = test ≡ None
IsTested test (Err fault) = test ≡ Some fault

-- a blob has 32 bytes
abbrev pub sized : Option (List ℕ) → Option (List ℕ)
sized None = None
sized (Some bytes) = cond (length bytes == 32) (Some bytes) None
