-- What a ring keeps of its words, and of the claims of all passes.
-- `claimed` is the next position that nobody has claimed, and `freed` the first whose slot isn't back yet.
-- Users may claim below `granted`.
use Rattle.std.specs.Prelude.{◌≡◌, ℕ, ◌+◌, ◌*◌, ◌≤◌, List, [], Bool, true, false, IsTrue, Option, None, Some, length, slice_index}
use Rattle.std.specs.List.{AllByRecursion}
use mathlib.Core.Option.{some}
use lib.ListN.{get_elem?}
use Rattle.pblk_model.specs.RingState.{between, covers, covers_copy, total, IsGranted}
use Rattle.write_ring.specs.declared.view.Key.{Key}
use Rattle.write_ring.specs.declared.view.View.{View}

-- Where the words lie: each on a cache line of its own, of 128 bytes.
abbrev pub claimed_at : ℕ
claimed_at = 0

abbrev pub freed_at : ℕ
freed_at = 16

abbrev pub granted_at : ℕ
granted_at = 32

-- behind them lies each slot's turn word
pub record Words (size : ℕ) (words : List ℕ) (claimed freed granted : ℕ) : Type 0 where
  pub long : 48 + 16 * size ≤ length words
  pub at_claimed : slice_index words claimed_at ≡ claimed
  pub at_freed : slice_index words freed_at ≡ freed
  pub at_granted : slice_index words granted_at ≡ granted

-- 1 where it is so, and else 0: a total counts the seats that are something
abbrev pub one_if : Bool → ℕ
one_if true = 1
one_if false = 0

-- one more than the position whose slot the intake has with it, and 0 where it has none
abbrev pub away_number : Option ℕ → ℕ
away_number None = 0
away_number (Some p) = p + 1

-- what holds of each seat
pub record Each (claimed freed granted : ℕ) (u : View) : Type 0 where
  pub bare : u.pass.shares ≡ 0 → u.pass.claims ≡ []
  pub no_copy : u.pass.copier ≡ false → (x : ℕ) → covers_copy x u.pass.claims ≡ 0
  pub users : AllByRecursion (IsGranted granted) u.pass.claims
  pub saw_claimed : u.found.claimed ≤ claimed
  pub saw_freed : u.found.freed ≤ freed
  pub saw_granted : u.found.granted ≤ granted
  pub intake : IsTrue u.intake.on → (u.intake.freed ≡ freed) × (u.intake.granted ≡ granted)

abbrev pub AllViews : (View → Type 0) → List View → Type 0
AllViews P views = (j : ℕ) (u : View) → get_elem? views j ≡ some u → P u

-- the claims of all seats have each position from the ring's first one to `claimed` once, and no other
pub record Seats (key : Key) (claimed freed granted : ℕ) (views : List View) : Type 0 where
  pub tiles : (x : ℕ) → total (λ v. covers x v.pass.claims) views ≡ between key.first claimed x
  pub shares : total (λ v. v.pass.shares) views ≡ 128
  pub one_copier : total (λ v. one_if v.pass.copier) views ≤ 1
  pub one_intake : total (λ v. one_if v.intake.on) views ≤ 1
  pub each : AllViews (Each claimed freed granted) views
