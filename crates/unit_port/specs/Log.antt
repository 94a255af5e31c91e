-- The word of a log.
use Rattle.std.specs.Prelude.{◌≡◌, ◌%◌, ◌^◌, List, [], ◌∷◌, length}
use Rattle.atomic_table.specs.Table.{State}

-- There is one view, the rows, and one word, which is their count modulo 2^64.
pub record IsLogWord {E : Type 0} (s : State (Unit {0}) (List E)) : Type 0 where
  pub rows : List E
  pub views : s.views ≡ rows ∷ []
  pub words : s.words ≡ (length rows % 2 ^ 64) ∷ []
