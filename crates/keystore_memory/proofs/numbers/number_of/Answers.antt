use Rattle.std.proofs.Common.{sym, ◌∙◌, ap, take}
use Rattle.std.proofs.lemmas.Bool.Decides.{not_from_Decides}
use Rattle.std.proofs.lemmas.Slice.Eq.{bytes_eq-Decides}
use Rattle.keystore_memory.proofs.BlobNumbers.{number-found}
use Rattle.keystore_memory.proofs.numbers.number_of.Goals as goal

pub returns-else-eq-clause-none : goal.returns-else-eq-clause-none
returns-else-eq-clause-none c number small same =
    let front = c.copy_from_slice.ensures.after ∙ ap (take 8) c.bytes.ensures in
    not_from_Decides _ (bytes_eq-Decides c.blob_of_number.result c.args.blob) (sym c.eq.ensures ∙ c.if-eq.false)
    (c.blob_of_number.ensures
    ∙ number-found c.args.blob c.copy_from_slice.new.self c.from_be_bytes-number.result number front
    c.from_be_bytes-number.ensures small same)
