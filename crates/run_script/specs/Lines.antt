-- The words of a line.
use Rattle.std.specs.Prelude.{ℕ, ◌≢◌, ◌==◌, List, [], Option, Some, None}
use Rattle.std.specs.List.{AllByRecursion, slice_split}

-- the words of what is left of a line
abbrev pub words_of : Option (List ℕ) → List (List ℕ)
words_of None = []
words_of (Some bytes) = slice_split (λ byte. byte == 32) bytes

-- the text has no such byte
abbrev pub Lacks : ℕ → List ℕ → Type 0
Lacks byte bytes = AllByRecursion (λ b. b ≢ byte) bytes
