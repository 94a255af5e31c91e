-- Bytes that are added at the end of a list, as far as there is memory.
use Rattle.std.specs.Prelude.{ℕ, ◌≡◌, ◌++◌, List, Result, Ok, Err}

-- these bytes were added, or for want of memory some others
abbrev pub Puts : {T E : Type 0} → Result T E → List ℕ → List ℕ → List ℕ → Type 0
Puts (Ok x) old new bytes = new ≡ old ++ bytes
Puts (Err e) old new bytes = (more : List ℕ) × (new ≡ old ++ more)
