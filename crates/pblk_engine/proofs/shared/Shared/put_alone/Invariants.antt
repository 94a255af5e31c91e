use Rattle.std.proofs.Common.{◌≡◌, ◌≤◌}
use Rattle.pblk_engine.proofs.shared.Shared.put_alone.Given as goal

abbrev pub invariant-loop : goal.invariant-loop
invariant-loop g l =
    (l.heart.author ≡ l.fn.heart.author) × (l.heart.intake.intake ≡ l.fn.heart.intake.intake) × (l.heart.intake.pass ≡ l.fn.heart.intake.pass)
    × (l.heart.copy ≡ l.fn.heart.copy) × (l.heart.sector ≡ l.fn.heart.sector)
    × (l.fn.heart.intake.found.claimed ≤ l.heart.intake.found.claimed)
