-- What the fields of a unit's state say of its stripe, and what they keep.
use Rattle.std.specs.Prelude.{ℕ, ◌≡◌, ◌≤◌, List, length, take}
use Rattle.stripe_placer.specs.Placing.{program_with, UnitRow}
use Rattle.stripe_placer.specs.Placing.UnitRow.{Idle, UnderWay, Stopped}
use Rattle.stripe_placer.specs.declared.unit_state.Turn.{Turn}
use Rattle.stripe_placer.specs.declared.unit_state.Turn.TheVariants as turn
use Rattle.stripe_placer.specs.declared.unit_state.UnitState.TheInside as inside

-- how many entries its stripe has
abbrev pub entry_count : Turn → ℕ
entry_count turn.Idle = 0
entry_count (turn.UnderWay of) = of.count
entry_count (turn.Stopped of) = of.count

-- the row with the first of these positions
abbrev pub turn_row : Turn → List ℕ → UnitRow
turn_row turn.Idle positions = Idle
turn_row (turn.UnderWay of) positions = UnderWay (program_with of (take of.count positions))
turn_row (turn.Stopped of) positions = Stopped (program_with of (take of.count positions))

abbrev pub unit_row : inside.Inside → UnitRow
unit_row u = turn_row u.turn u.positions

pub record IsUnit (u : inside.Inside) : Type 0 where
  pub room : length u.positions ≡ 64
  pub few : entry_count u.turn ≤ 64
