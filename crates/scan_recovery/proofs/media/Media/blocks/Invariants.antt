use Rattle.std.proofs.Common.{◌≡◌, ◌-◌}
use Rattle.scan_recovery.specs.Reading.{blocks_at}
use Rattle.scan_recovery.proofs.media.Media.blocks.Given as goal

abbrev pub invariant-loop-at : goal.invariant-loop-at
invariant-loop-at l = l.blocks.items ≡ blocks_at l.self l.line l.from (l.at - l.from)
