-- Bytes written at a place.
use Rattle.std.specs.Prelude.{◌≡◌, ℕ, ◌+◌, List, ◌++◌, length, take, drop}

-- from this place on stand these bytes, and all others are as before
abbrev pub PutAt : ℕ → List ℕ → List ℕ → List ℕ → Type 0
PutAt at bytes old new = new ≡ take at old ++ bytes ++ drop (at + length bytes) old
