-- The key in a key schedule.
use Rattle.std.specs.Prelude.{ℕ, List, ◌++◌}
use Rattle.seal_model.specs.Aes.{word}

-- the first eight words, one after the other
unfoldable pub key_of : List (List ℕ) → List ℕ
key_of words =
    word words 0
    ++ (word words 1
    ++ (word words 2 ++ (word words 3 ++ (word words 4 ++ (word words 5 ++ (word words 6 ++ word words 7))))))
