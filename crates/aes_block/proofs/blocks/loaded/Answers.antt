use Rattle.std.proofs.Common.{rules, ◌≡◌, ℕ, length, get_or, List, [], ◌∷◌, ◌∙◌, ap}
use Rattle.seal_model.proofs.Lists.{each_below}
use Rattle.aes_block.specs.Lanes.{lane}
use Rattle.aes_block.proofs.Transposed.{lane-columns}
use Rattle.aes_block.proofs.blocks.loaded.Goals as goal

pub returns : goal.returns
returns c j h =
    let blocks = c.args.blocks.now in
    let rows : List (List ℕ) =
    c.block_at.result ∷ c.block_at-2.result ∷ c.block_at-3.result ∷ c.block_at-4.result ∷ c.block_at-5.result
    ∷ c.block_at-6.result ∷ c.block_at-7.result ∷ c.block_at-8.result ∷ c.block_at-9.result ∷ c.block_at-10.result
    ∷ c.block_at-11.result ∷ c.block_at-12.result ∷ c.block_at-13.result ∷ c.block_at-14.result
    ∷ c.block_at-15.result ∷ c.block_at-16.result ∷ [] in
    let l0 : length c.block_at.result ≡ 16 = search rules in
    let l1 : length c.block_at-2.result ≡ 16 = search rules in
    let l2 : length c.block_at-3.result ≡ 16 = search rules in
    let l3 : length c.block_at-4.result ≡ 16 = search rules in
    let l4 : length c.block_at-5.result ≡ 16 = search rules in
    let l5 : length c.block_at-6.result ≡ 16 = search rules in
    let l6 : length c.block_at-7.result ≡ 16 = search rules in
    let l7 : length c.block_at-8.result ≡ 16 = search rules in
    let l8 : length c.block_at-9.result ≡ 16 = search rules in
    let l9 : length c.block_at-10.result ≡ 16 = search rules in
    let l10 : length c.block_at-11.result ≡ 16 = search rules in
    let l11 : length c.block_at-12.result ≡ 16 = search rules in
    let l12 : length c.block_at-13.result ≡ 16 = search rules in
    let l13 : length c.block_at-14.result ≡ 16 = search rules in
    let l14 : length c.block_at-15.result ≡ 16 = search rules in
    let l15 : length c.block_at-16.result ≡ 16 = search rules in
    let long = each_below (λ k. length (get_or rows k []) ≡ 16) 16
    (l0, (l1, (l2, (l3, (l4, (l5, (l6, (l7, (l8, (l9, (l10, (l11, (l12, (l13, (l14, (l15, tt)))))))))))))))) in
    ap (lane j) (λ t.
    c.column.ensures t ∷ c.column-2.ensures t ∷ c.column-3.ensures t ∷ c.column-4.ensures t ∷ c.column-5.ensures t
    ∷ c.column-6.ensures t ∷ c.column-7.ensures t ∷ c.column-8.ensures t ∷ c.column-9.ensures t
    ∷ c.column-10.ensures t ∷ c.column-11.ensures t ∷ c.column-12.ensures t ∷ c.column-13.ensures t
    ∷ c.column-14.ensures t ∷ c.column-15.ensures t ∷ c.column-16.ensures t ∷ [])
    ∙ lane-columns rows long j h
    ∙ each_below (λ k. get_or rows k [] ≡ get_or blocks k []) 16 (
      c.block_at.ensures,
      (
        c.block_at-2.ensures,
        (
          c.block_at-3.ensures,
          (
            c.block_at-4.ensures,
            (
              c.block_at-5.ensures,
              (
                c.block_at-6.ensures,
                (
                  c.block_at-7.ensures,
                  (
                    c.block_at-8.ensures,
                    (
                      c.block_at-9.ensures,
                      (
                        c.block_at-10.ensures,
                        (
                          c.block_at-11.ensures,
                          (
                            c.block_at-12.ensures,
                            (
                              c.block_at-13.ensures,
                              (c.block_at-14.ensures, (c.block_at-15.ensures, (c.block_at-16.ensures, tt))),
                            ),
                          ),
                        ),
                      ),
                    ),
                  ),
                ),
              ),
            ),
          ),
        ),
      ),
    ) j h
