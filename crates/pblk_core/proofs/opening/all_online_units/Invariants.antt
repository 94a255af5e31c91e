use Rattle.std.proofs.Common.{◌≡◌}
use Rattle.core_laws.specs.OnlineUnits.{all_online}
use Rattle.pblk_core.proofs.opening.all_online_units.Given as goal

abbrev pub invariant-loop-line : goal.invariant-loop-line
invariant-loop-line l = l.online.items ≡ all_online l.layout l.found l.line
