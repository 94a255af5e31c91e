-- Sectors that are written one after another.
use Rattle.std.specs.Prelude.{ℕ, ◌+◌, List, [], ◌∷◌, slice_set}

-- the sectors after these are written from `lba` on
abbrev pub put_from : List (List ℕ) → ℕ → List (List ℕ) → List (List ℕ)
put_from sectors lba [] = sectors
put_from sectors lba (s ∷ ss) = put_from (slice_set sectors lba s) (lba + 1) ss
