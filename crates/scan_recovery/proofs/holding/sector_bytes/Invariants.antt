use Rattle.std.proofs.Common.{◌≡◌}
use Rattle.std.specs.List.{flat_map, range_with_len}
use Rattle.pblk_model.specs.Contents.{sector_of}
use Rattle.scan_recovery.proofs.holding.sector_bytes.Given as goal

abbrev pub invariant-loop-winner : goal.invariant-loop-winner
invariant-loop-winner l = l.bytes.items ≡ flat_map (sector_of l.media) (range_with_len 0 l.winner-index)
