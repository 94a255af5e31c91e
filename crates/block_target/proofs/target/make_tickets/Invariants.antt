use Rattle.std.proofs.Common.{◌≡◌, ◌≤◌, length, vec_capacity}
use Rattle.block_target.specs.Supplies.{HaveGoneOut, IsSupplied}
use Rattle.block_target.specs.Targets.{first_sessions}
use Rattle.block_target.proofs.target.make_tickets.Given as goal

-- so many were made
abbrev pub invariant-loop-number : goal.invariant-loop-number
invariant-loop-number g l =
    (l.tickets.items ≡ first_sessions g.M.Mount.past g.M.Mount.key l.number) × (length l.tickets.items ≡ l.number) × (l.fn.sessions ≤ vec_capacity l.tickets)
    × IsSupplied g.M.Mount.chronicle g.M.Mount.past g.M.Mount.ring g.M.Mount.key l.number l.supply × HaveGoneOut l.number l.fn.supply l.supply
