-- Trees whose directories are taken out and put back, and operations that are applied as they are.
use Rattle.std.proofs.Common.{◌≡◌, ℕ, Bool, false, List, [], ◌∷◌, refl, sym, ap, ◌∙◌}
use Rattle.std.specs.Prelude.{Option, Some, None, IsSome, IsTrue}
use Rattle.std.proofs.lemmas.Bool.{false≢true}
use Rattle.std.specs.FinMap as map
use Rattle.tree_model.specs.declared.places.Place.{Place}
use Rattle.tree_model.specs.declared.files.FileName.{FileName}
use Rattle.tree_model.specs.declared.ops.Op.{Op}
use Rattle.tree_model.specs.Order.{place_total, place_exact}
use Rattle.tree_model.specs.Files.{file_total, file_exact}
use Rattle.tree_model.specs.Dir.{Files}
use Rattle.tree_model.specs.Tree.{Tree, if_there, at_dir, renamed_file, renamed_dir, after_op, applied}
use Rattle.tree_model.specs.Disk.{image}
use Rattle.tree_model.proofs.Maps.{remove_absent}
use Rattle.sorted_map.proofs.Maps.{insert-insert}

-- a directory that is taken out, changed and put back
pub changed-back : (tree left after : Tree) (place : Place) (files now : Files) (change : Files → Files)
    → map.get tree place ≡ Some files → left ≡ map.insert tree place map.empty → now ≡ change files
    → after ≡ map.insert left place now → after ≡ at_dir tree place change
changed-back tree left after place files now change there taken_out changed put_back =
    put_back ∙ (λ i. map.insert (taken_out i) place (changed i))
    ∙ insert-insert place_total place_exact tree place map.empty (change files)
    ∙ sym (ap (λ found. if_there found tree (λ held. map.insert tree place (change held))) there)

pub changed-absent : (tree : Tree) (place : Place) (change : Files → Files) → map.get tree place ≡ None
    → tree ≡ at_dir tree place change
changed-absent tree place change none =
    sym (ap (λ found. if_there found tree (λ held. map.insert tree place (change held))) none)

pub renamed_dir-there : (tree : Tree) (from to : Place) (files : Files) → map.get tree from ≡ Some files
    → map.insert (map.remove tree from) to files ≡ renamed_dir tree from to
renamed_dir-there tree from to files there =
    sym (ap (λ found. if_there found tree (λ held. map.insert (map.remove tree from) to held)) there)

pub renamed_dir-absent : (tree : Tree) (from to : Place) → map.get tree from ≡ None
    → map.remove tree from ≡ renamed_dir tree from to
renamed_dir-absent tree from to none =
    remove_absent place_total place_exact tree from none
    ∙ sym (ap (λ found. if_there found tree (λ held. map.insert (map.remove tree from) to held)) none)

pub renamed_file-there : (files : Files) (from to : FileName) (bytes : List ℕ) → map.get files from ≡ Some bytes
    → map.insert (map.remove files from) to bytes ≡ renamed_file files from to
renamed_file-there files from to bytes there =
    sym (ap (λ found. if_there found files (λ held. map.insert (map.remove files from) to held)) there)

pub renamed_file-absent : (files : Files) (from to : FileName) → map.get files from ≡ None
    → map.remove files from ≡ renamed_file files from to
renamed_file-absent files from to none =
    remove_absent file_total file_exact files from none
    ∙ sym (ap (λ found. if_there found files (λ held. map.insert (map.remove files from) to held)) none)

-- with no fills the operations are applied as they are
pub image-none : (tree : Tree) (ops : List Op) → image tree ops [] ≡ applied tree ops
image-none tree [] = refl
image-none tree (op ∷ ops) = image-none (after_op tree op) ops

-- a look-up that a test missed
pub none_there : {A : Type 0} (found : Option A) (there : Bool) → there ≡ false
    → (IsSome found → IsTrue there) → found ≡ None
none_there None there missed tells = refl
none_there (Some a) there missed tells = absurd (false≢true (sym missed ∙ tells refl))
