use Rattle.std.proofs.Common.{◌≡◌}
use Rattle.write_ring.specs.Handles.{pass_view}
use Rattle.ring_crew.specs.Ready.{IsMaker}
use Rattle.ring_crew.proofs.maker.put.Given as goal

abbrev pub invariant-loop : goal.invariant-loop
invariant-loop g l = IsMaker l.ring l.maker l.batch l.batch × (l.maker.count ≡ l.fn.maker.count)
    × ((pass_view l.maker.pass).pass.shares ≡ (pass_view l.fn.maker.pass).pass.shares)
