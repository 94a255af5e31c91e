use Rattle.std.proofs.Common.{ℕ, ◌<◌}
use Rattle.pblk_core.specs.Landing.{IsUnderWayOn}
use Rattle.pblk_engine.proofs.looking.is_any_under_way.Given as goal

abbrev pub invariant-loop-unit : goal.invariant-loop-unit
invariant-loop-unit l = (unit : ℕ) → unit < l.unit → ¬ IsUnderWayOn l.core unit
