-- A tree in memory, and for how many further places there is room.
use Rattle.std.specs.Prelude.{ℕ, refl}
use Rattle.std.specs.Coded.{Coded, code_by, coded×, coded_ℕ}
use Rattle.tree_model.specs.Tree.{Tree, tree_code}

pub record Shelf : Type 0 where
  pub tree : Tree
  pub room : ℕ

abbrev pub shelf_code : Coded Shelf
shelf_code =
    code_by (Tree × ℕ) (coded× tree_code coded_ℕ) (λ shelf. (shelf.tree, shelf.room))
    (λ parts. record { tree = parts.0; room = parts.1 }) (λ _. refl)
