use Rattle.std.proofs.Common.{◌≡◌, ◌≤◌}
use Rattle.write_ring.specs.Handles.{IsPassOf, pass_view}
use Rattle.write_ring.proofs.table.Ring.put.Given as goal

-- a try that was raced left the pass with what it had, and the batch unchanged
abbrev pub invariant-loop : goal.invariant-loop
invariant-loop g l = IsPassOf l.self l.pass × ((pass_view l.pass).pass ≡ (pass_view l.fn.pass).pass) × (l.batch ≡ l.fn.batch)
    × ((pass_view l.fn.pass).found.steps ≤ (pass_view l.pass).found.steps)
    × ((pass_view l.fn.pass).found.claimed ≤ (pass_view l.pass).found.claimed)
