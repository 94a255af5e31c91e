use Rattle.std.proofs.Common.{◌≡◌}
use Rattle.write_ring.specs.Handles.{IsPassOf, pass_view}
use Rattle.ring_crew.specs.Ready.{HasOneFrame, IsTaker}
use Rattle.ring_tests.proofs.rows.walk.Given as goal

abbrev pub invariant-loop-row : goal.invariant-loop-row
invariant-loop-row l =
    IsTaker l.ring l.intake l.room × IsPassOf l.ring l.pass × ((pass_view l.pass).pass.shares ≡ 127) × HasOneFrame l.ring l.batch
    × (l.batch.region ≡ l.fn.batch.region)
