-- Blobs, the names of a keystore's entries: their order, by bytes.
use Rattle.std.specs.Prelude.{ℕ, List}
use Rattle.std.specs.declared.cmp.Ordering.{Ordering}
use Rattle.std.specs.Ordering.{nat_cmp}
use Rattle.std.specs.Cmp.{IsTotalOrder}
use Rattle.std.specs.Cmp.Lexicographic.{slice_cmp, nat_list_cmp_total}
use Rattle.std.specs.FinMap.{IsAntisymmetric, nat_cmp-IsAntisymmetric, slice_cmp-IsAntisymmetric}

abbrev pub blob_cmp : List ℕ → List ℕ → Ordering
blob_cmp a b = slice_cmp nat_cmp a b

pub blob_total : IsTotalOrder blob_cmp
blob_total = nat_list_cmp_total

-- only equal blobs tie
pub blob_exact : IsAntisymmetric blob_cmp
blob_exact = slice_cmp-IsAntisymmetric nat_cmp-IsAntisymmetric
