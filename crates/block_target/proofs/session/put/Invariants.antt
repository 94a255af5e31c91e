use Rattle.std.proofs.Common.{◌≡◌, ◌≤◌}
use Rattle.chronicle.specs.Prefixes.{AreLegalLogs}
use Rattle.write_ring.specs.Handles.{pass_view}
use Rattle.pblk_engine.specs.Endings.{IsPassIn}
use Rattle.block_target.proofs.Putting.{WaitedWell}
use Rattle.block_target.proofs.session.put.Given as goal

abbrev pub invariant-loop : goal.invariant-loop
invariant-loop g l = IsPassIn g.M.Mount.ring g.M.Mount.key l.pass × ((pass_view l.pass).pass ≡ (pass_view l.fn.pass).pass)
    × ((pass_view l.fn.pass).found.claimed ≤ (pass_view l.pass).found.claimed) × (l.batch ≡ l.fn.batch)
    × WaitedWell l.fn.worker l.worker × (l.worker.asked ≡ l.fn.worker.asked) × AreLegalLogs g.M.Mount.past.image l.worker.known
