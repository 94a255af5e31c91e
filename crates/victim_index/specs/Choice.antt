-- Which line is collected first.
use Rattle.std.specs.Prelude.{ℕ, ◌<◌, ◌≡◌, ◌≢◌, ◌⊎◌, true, false, List, slice_get, Option, Some}
use Rattle.victim_index.specs.declared.candidate.Candidate.{Candidate}

-- One is preferred to another: a failed line to another, then the one with fewer live sectors, then the one of
-- lesser sequence number.
abbrev pub IsPreferred : Candidate → Candidate → Type 0
IsPreferred a b = ((a.failed ≡ true) × (b.failed ≡ false)) ⊎ ((a.failed ≡ b.failed)
    × ((a.live < b.live) ⊎ ((a.live ≡ b.live) × (a.seq < b.seq))))

-- neither is preferred to the other
abbrev pub AreLevel : Candidate → Candidate → Type 0
AreLevel a b = (a.failed ≡ b.failed) × (a.live ≡ b.live) × (a.seq ≡ b.seq)

-- what is held of a line
abbrev pub Holds : List (Option Candidate) → ℕ → Candidate → Type 0
Holds rows line c = slice_get rows line ≡ Some (Some c)

abbrev pub HoldsNone : List (Option Candidate) → Type 0
HoldsNone rows = (line : ℕ) (c : Candidate) → ¬ Holds rows line c

-- The line is held, and preferred to each other that is; of level ones it is the least.
pub record IsBest (rows : List (Option Candidate)) (line : ℕ) : Type 0 where
  pub candidate : Candidate
  pub held : Holds rows line candidate
  pub preferred : (other : ℕ) (c : Candidate) → Holds rows other c → other ≢ line
      → IsPreferred candidate c ⊎ (AreLevel candidate c × (line < other))
