use Rattle.std.proofs.Common.{◌≡◌, ◌+◌}
use Rattle.write_ring.specs.Handles.{pass_view}
use Rattle.ring_crew.specs.Ready.{IsMaker}
use Rattle.ring_crew.proofs.maker.fill.Given as goal

abbrev pub invariant-loop-filled : goal.invariant-loop-filled
invariant-loop-filled l = IsMaker l.ring l.maker l._filled l.batch × (l.maker.count ≡ l.fn.maker.count + l._filled)
    × ((pass_view l.maker.pass).pass.shares ≡ (pass_view l.fn.maker.pass).pass.shares)
