-- Counts of faults, which are 64-bit numbers that never fall.
use Rattle.std.specs.Prelude.{◌≡◌, ℕ, ◌-◌, ◌^◌, ◌<◌, ◌⊎◌}

-- a count of faults has risen; one that stands at its greatest value counts as risen
abbrev pub HasRisen : ℕ → ℕ → Type 0
HasRisen old new = (old < new) ⊎ (new ≡ 2 ^ 64 - 1)
