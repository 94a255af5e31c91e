use Rattle.std.proofs.Common.{◌≡◌, ◌≤◌}
use Rattle.write_ring.specs.Handles.{pass_view}
use Rattle.pblk_engine.specs.Endings.{IsPassIn}
use Rattle.block_target.proofs.Syncing.{SoFar}
use Rattle.block_target.proofs.session.sync_all.Given as goal

abbrev pub invariant-loop : goal.invariant-loop
invariant-loop g l = IsPassIn g.M.Mount.ring g.M.Mount.key l.pass × ((pass_view l.pass).pass ≡ (pass_view l.fn.pass).pass)
    × ((pass_view l.pass).found.claimed ≡ l.claimed) × ((pass_view l.fn.pass).found.claimed ≤ l.claimed)
    × SoFar g.M.Mount.past.image l.seen (pass_view l.fn.pass).found.claimed l.claimed l.fn.worker l.worker
