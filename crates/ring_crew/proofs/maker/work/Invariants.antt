use Rattle.std.proofs.Common.{◌≡◌, ◌*◌, ◌≤◌}
use Rattle.write_ring.specs.Handles.{pass_view}
use Rattle.ring_crew.specs.Ready.{IsMaker}
use Rattle.ring_crew.proofs.maker.work.Given as goal

abbrev pub invariant-loop-turn : goal.invariant-loop-turn
invariant-loop-turn g l = IsMaker l.ring l.maker 0 l.batch × (l.maker.count ≤ 16 * l._turn)
    × ((pass_view l.maker.pass).pass.shares ≡ (pass_view l.fn.maker.pass).pass.shares)
