use Rattle.std.proofs.Common.{◌≡◌, ◌≤◌, ◌+◌, ◌*◌, ◌++◌, List, length, vec_capacity}
use Rattle.std.specs.List.{AllByRecursion}
use Rattle.pblk_model.specs.Frames.{count_out}
use Rattle.write_ring.specs.Handles.{pass_view}
use Rattle.pblk_engine.specs.Endings.{IsPassIn}
use Rattle.block_target.specs.Closes.{IsKept, joined, with_workers}
use Rattle.block_target.specs.Sessions.{SessionView}
use Rattle.block_target.proofs.closing.take_all_in.Given as goal

-- those behind the tickets that are left were taken in
abbrev pub invariant-loop-ticket : goal.invariant-loop-ticket
invariant-loop-ticket g l =
    (done : List SessionView) × (l.tickets.items ++ done ≡ l.fn.tickets.items)
    × IsPassIn g.M.Mount.ring g.M.Mount.key l.pass × ((pass_view l.pass).pass ≡ joined (pass_view l.fn.pass).pass done)
    × (l.pool.region ≡ l.fn.pool.region) × (count_out l.fn.pool.left ≡ count_out l.pool.left + 16 * length done)
    × (l.workers.items ≡ with_workers l.fn.workers.items done)
    × (length l.tickets.items + length l.workers.items ≤ vec_capacity l.workers)
    × (vec_capacity l.fn.workers ≤ vec_capacity l.workers)
    × AllByRecursion (IsKept g.M.Mount.past g.M.Mount.handed) done

abbrev pub decreases-loop-ticket : goal.decreases-loop-ticket
decreases-loop-ticket g l = length l.tickets.items
