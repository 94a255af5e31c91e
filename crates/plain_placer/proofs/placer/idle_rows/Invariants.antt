use Rattle.std.proofs.Common.{◌≡◌, replicate}
use Rattle.stripe_placer.specs.Placing.UnitRow.{Idle}
use Rattle.plain_placer.proofs.placer.idle_rows.Given as goal

abbrev pub invariant-loop : goal.invariant-loop
invariant-loop l = l.rows.items ≡ replicate l.counter Idle
