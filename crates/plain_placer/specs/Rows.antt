-- What a unit has, as the definitions have it.
use Rattle.std.specs.Prelude.{ℕ, Bool, true, false, List}
use Rattle.stripe_placer.specs.Placing.{UnitRow, program_with}
use Rattle.stripe_placer.specs.Placing.UnitRow.{Idle, UnderWay, Stopped}
use Rattle.plain_placer.specs.declared.row.State.{State}
use Rattle.plain_placer.specs.declared.row.State.TheVariants as state

abbrev pub plain_row : State → List ℕ → UnitRow
plain_row state.Idle positions = Idle
plain_row (state.UnderWay of) positions = UnderWay (program_with of positions)
plain_row (state.Stopped of) positions = Stopped (program_with of positions)

abbrev pub is_idle : UnitRow → Bool
is_idle Idle = true
is_idle (UnderWay of) = false
is_idle (Stopped of) = false
