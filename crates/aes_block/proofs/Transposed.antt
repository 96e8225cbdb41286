-- Rows and columns of sixteen by sixteen bytes.
use Rattle.std.proofs.Common.{◌≡◌, ℕ, zero, suc, ◌+◌, ◌<◌, List, [], ◌∷◌, length}
use Rattle.std.proofs.Common.{get_or, map, drop, sym, ◌∙◌, ap, arith, add-one}
use Rattle.std.proofs.Math.Seq.{drop-cons, drop-length}
use Rattle.seal_model.proofs.Lists.{bytes_from, bytes_from-is, each_below}
use Rattle.aes_block.specs.Lanes.{lane, columns}

-- a row of sixteen bytes, byte by byte
row_is : (row : List ℕ) → length row ≡ 16 → bytes_from 16 0 row ≡ row
row_is row e = bytes_from-is 16 0 row (sym e)

-- a column of columns is a row
pub lane-columns : (rows : List (List ℕ)) → ((j : ℕ) → j < 16 → length (get_or rows j []) ≡ 16)
    → (j : ℕ) → j < 16 → lane j (columns rows) ≡ get_or rows j []
unfolding bytes_from
lane-columns rows long =
    let row = λ (j : ℕ) (h : j < 16). row_is (get_or rows j []) (long j h) in
    each_below (λ j. lane j (columns rows) ≡ get_or rows j []) 16 (
      row 0 (omega arith),
      (
        row 1 (omega arith),
        (
          row 2 (omega arith),
          (
            row 3 (omega arith),
            (
              row 4 (omega arith),
              (
                row 5 (omega arith),
                (
                  row 6 (omega arith),
                  (
                    row 7 (omega arith),
                    (
                      row 8 (omega arith),
                      (
                        row 9 (omega arith),
                        (
                          row 10 (omega arith),
                          (
                            row 11 (omega arith),
                            (
                              row 12 (omega arith),
                              (
                                row 13 (omega arith),
                                (row 14 (omega arith), (row 15 (omega arith), tt)),
                              ),
                            ),
                          ),
                        ),
                      ),
                    ),
                  ),
                ),
              ),
            ),
          ),
        ),
      ),
    )

-- sixteen rows, one by one
rows_from : ℕ → ℕ → List (List ℕ) → List (List ℕ)
rows_from zero k s = []
rows_from (suc n) k s = get_or s k [] ∷ rows_from n (k + 1) s

rows_from-is : (n k : ℕ) (s : List (List ℕ)) → k + n ≡ length s → rows_from n k s ≡ drop k s
unfolding rows_from
rows_from-is zero k s e = let whole : length s ≡ k = omega arith in sym (drop-length s) ∙ ap (λ j. drop j s) whole
rows_from-is (suc n) k s e =
    ap (λ t. get_or s k [] ∷ t) (rows_from-is n (k + 1) s (omega arith) ∙ ap (λ j. drop j s) (add-one k))
    ∙ sym (drop-cons s k [] (omega arith))

-- columns that are each f of a row, by rows
pub columns_are : (f : List ℕ → List ℕ) (rows state : List (List ℕ)) → length rows ≡ 16
    → ((j : ℕ) → j < 16 → lane j state ≡ f (get_or rows j [])) → columns state ≡ map f rows
unfolding rows_from
columns_are f rows state long each =
    (λ t.
    each 0 (omega arith) t ∷ each 1 (omega arith) t ∷ each 2 (omega arith) t ∷ each 3 (omega arith) t
    ∷ each 4 (omega arith) t ∷ each 5 (omega arith) t ∷ each 6 (omega arith) t ∷ each 7 (omega arith) t
    ∷ each 8 (omega arith) t ∷ each 9 (omega arith) t ∷ each 10 (omega arith) t ∷ each 11 (omega arith) t
    ∷ each 12 (omega arith) t ∷ each 13 (omega arith) t ∷ each 14 (omega arith) t ∷ each 15 (omega arith) t ∷ [])
    ∙ ap (map f) (rows_from-is 16 0 rows (sym long))
