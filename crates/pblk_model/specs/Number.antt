-- Words that spell no number, and that Rust's own reading of numbers takes.
use Rattle.std.specs.Prelude.{ℕ, ◌==◌, ◌||◌, Bool, false, List, [], ◌∷◌}

-- a word that begins with `+`, or with a 0 that more follows
abbrev pub is_padded : List ℕ → Bool
is_padded [] = false
is_padded (byte ∷ []) = byte == 43
is_padded (byte ∷ (next ∷ bytes)) = byte == 43 || byte == 48
