use Rattle.std.specs.List.{slice_get}
use Rattle.pblk_layout.proofs.UnitSets.{HasBelow}
use Rattle.std.proofs.Common.{◌+◌, ◌*◌}
use Rattle.pblk_core.specs.Resets.{is_used_at}
use Rattle.pblk_core.proofs.resets.used_units.Given as goal

abbrev pub invariant-loop-unit : goal.invariant-loop-unit
invariant-loop-unit l = HasBelow (λ unit. is_used_at (slice_get l.states (unit * l.shape.chunks + l.line))) l.unit l.used
