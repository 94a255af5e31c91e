-- Lines that are compared in pairs, as in a knockout tournament (Knuth, The Art of Computer Programming, volume
-- 3, section 5.2.3, tree selection). Each node names the better of the lines that its two children name.
use Rattle.std.specs.Prelude.{ℕ, ◌+◌, ◌-◌, ◌*◌, ◌^◌, ◌<◌, ◌≤◌, ◌≡◌, ◌≢◌, ◌⊎◌, List, Option, Some, None, length, cond, nat_lt, slice_index_or}
use Rattle.victim_index.specs.declared.candidate.Candidate.{Candidate}
use Rattle.victim_index.specs.declared.held.Held.{Held}
use Rattle.victim_index.specs.Choice.{IsPreferred, AreLevel}

-- one is preferred to another, or it is level with it and of no greater number
abbrev pub IsNoWorse : Held → Held → Type 0
IsNoWorse a b = IsPreferred a.candidate b.candidate ⊎ (AreLevel a.candidate b.candidate × (a.line ≤ b.line))

-- the first names a line that is no worse than what the second names, if it names one
abbrev pub IsOver : Option Held → Option Held → Type 0
IsOver w None = Unit {0}
IsOver None (Some a) = ⊥
IsOver (Some h) (Some a) = IsNoWorse h a

-- the better of two
pub record IsWinner (left right w : Option Held) : Type 0 where
  pub one_of : (w ≡ left) ⊎ (w ≡ right)
  pub over_left : IsOver w left
  pub over_right : IsOver w right

-- what is held of a line, with its number
abbrev pub entrant : ℕ → Option Candidate → Option Held
entrant line None = None
entrant line (Some c) = Some (record { line = line; candidate = c })

-- The nodes are numbered from 1, the root, on: those at 2 * n and 2 * n + 1 are the children of the one at n. There
-- is one winner fewer than there are lines, and the lines come after them.
unfoldable pub node : List (Option Candidate) → List (Option Held) → ℕ → Option Held
node rows winners at = cond (nat_lt at (length winners)) (slice_index_or winners at None)
    (entrant (at - length winners) (slice_index_or rows (at - length winners) None))

-- a node names the better of what its children name
abbrev pub IsWonAt : List (Option Candidate) → List (Option Held) → ℕ → Type 0
IsWonAt rows winners at =
    IsWinner (node rows winners (2 * at)) (node rows winners (2 * at + 1)) (slice_index_or winners at None)

-- each node does, but perhaps this one
abbrev pub AreWonBut : List (Option Candidate) → List (Option Held) → ℕ → Type 0
AreWonBut rows winners but = (at : ℕ) → 1 ≤ at → at < length winners → at ≢ but → IsWonAt rows winners at

-- the tree of a list of rows
pub record IsTournament (rows : List (Option Candidate)) (winners : List (Option Held)) : Type 0 where
  pub few : length rows < 2 ^ 32
  pub same : length winners ≡ length rows
  pub won : (at : ℕ) → 1 ≤ at → at < length winners → IsWonAt rows winners at
