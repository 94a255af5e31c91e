use Rattle.std.proofs.Common.{◌≡◌, replicate}
use Rattle.ocssd_drive.specs.Units.{new_unit}
use Rattle.target_tests.proofs.harness.new_units.Given as goal

abbrev pub invariant-loop-unit : goal.invariant-loop-unit
invariant-loop-unit l = l.made.items ≡ replicate l._unit (new_unit l.shape)
