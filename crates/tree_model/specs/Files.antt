-- File names: their order, that in which the variants stand.
use Rattle.std.specs.Prelude.{◌≡◌, ℕ, refl}
use Rattle.std.specs.declared.cmp.Ordering.{Ordering}
use Rattle.std.specs.Ordering.{nat_cmp}
use Rattle.std.specs.Cmp.{IsTotalOrder, on_total, nat_cmp_total}
use Rattle.std.specs.FinMap.{IsAntisymmetric, nat_cmp-IsAntisymmetric}
use Rattle.std.specs.Coded.{Coded, code_by, coded_ℕ}
use Rattle.std.proofs.Common.{zero, suc, sym, ap, ◌∙◌}
use Rattle.tree_model.specs.declared.files.FileName.{FileName}
use Rattle.tree_model.specs.declared.files.FileName.TheVariants.{Version, EncryptedKey, Blob, BlobUpgraded, BlobNew}
use Rattle.tree_model.specs.declared.files.FileName.TheVariants.{Discard, Stretching, Salt}

-- the place of a file name among the variants
abbrev pub file_key : FileName → ℕ
file_key Version = 0
file_key EncryptedKey = 1
file_key Blob = 2
file_key BlobUpgraded = 3
file_key BlobNew = 4
file_key Discard = 5
file_key Stretching = 6
file_key Salt = 7

abbrev pub key_file : ℕ → FileName
key_file zero = Version
key_file (suc zero) = EncryptedKey
key_file (suc (suc zero)) = Blob
key_file (suc (suc (suc zero))) = BlobUpgraded
key_file (suc (suc (suc (suc zero)))) = BlobNew
key_file (suc (suc (suc (suc (suc zero))))) = Discard
key_file (suc (suc (suc (suc (suc (suc zero)))))) = Stretching
key_file (suc (suc (suc (suc (suc (suc (suc n))))))) = Salt

pub key_file-file_key : (file : FileName) → key_file (file_key file) ≡ file
key_file-file_key Version = refl
key_file-file_key EncryptedKey = refl
key_file-file_key Blob = refl
key_file-file_key BlobUpgraded = refl
key_file-file_key BlobNew = refl
key_file-file_key Discard = refl
key_file-file_key Stretching = refl
key_file-file_key Salt = refl

abbrev pub file_cmp : FileName → FileName → Ordering
file_cmp a b = nat_cmp (file_key a) (file_key b)

pub file_total : IsTotalOrder file_cmp
file_total = on_total file_key nat_cmp_total

-- only equal names tie
pub file_exact : IsAntisymmetric file_cmp
file_exact a b tie =
    sym (key_file-file_key a) ∙ ap key_file (nat_cmp-IsAntisymmetric (file_key a) (file_key b) tie)
    ∙ key_file-file_key b

abbrev pub file_code : Coded FileName
file_code = code_by ℕ coded_ℕ file_key key_file key_file-file_key
