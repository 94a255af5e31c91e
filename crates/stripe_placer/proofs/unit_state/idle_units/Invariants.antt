use Rattle.std.proofs.Common.{◌≡◌}
use Rattle.std.specs.Prelude.{replicate}
use Rattle.stripe_placer.specs.Placing.UnitRow.{Idle}
use Rattle.stripe_placer.proofs.unit_state.idle_units.Given as goal

abbrev pub invariant-loop-unit : goal.invariant-loop-unit
invariant-loop-unit l = l.units.items ≡ replicate l.unit Idle
